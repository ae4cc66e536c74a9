-- The runs of the bundled programs.
use Rattle.bsp_model.specs.declared.input.Input.{Input}
use Rattle.bsp_step.specs.Turn.{turn_of}
use Rattle.bsp_programs.specs.declared.bundled.Bundled.{Bundled as Programs}
use Rattle.bsp_programs.specs.declared.bundled.Bundled.TheVariants.{Broadcast, Prefix, MatVec, Rank}
use Rattle.bsp_programs.specs.Bundled.{bundled_plan}
use Rattle.bsp_run.specs.Run.{run}
use Rattle.bsp_right.specs.Claims.{bundled_claim}
use Rattle.bsp_right.specs.Summed.{Sums, prefix_turn}
use Rattle.bsp_right.proofs.BroadcastRun.{broadcast_tells}
use Rattle.bsp_right.proofs.MatVecRun.{matvec_multiplies}
use Rattle.bsp_right.proofs.RankRun.{rank_counts}

pub bundled_law : (input : Input) → Sums input (run prefix_turn input) → (program : Programs) → bundled_claim program input (run (turn_of (λ v. (bundled_plan program v).acts) (λ v. (bundled_plan program v).ending)) input)
bundled_law input summed (Broadcast p) = broadcast_tells input
bundled_law input summed (Prefix p) = summed
bundled_law input summed (MatVec p) = matvec_multiplies input
bundled_law input summed (Rank p) = rank_counts input
