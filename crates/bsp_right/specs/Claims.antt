-- What is claimed of the runs of the bundled programs.
use Rattle.bsp_model.specs.declared.input.Input.{Input}
use Rattle.bsp_programs.specs.declared.bundled.Bundled.{Bundled as Programs}
use Rattle.bsp_programs.specs.declared.bundled.Bundled.TheVariants.{Broadcast, Prefix, MatVec, Rank}
use Rattle.bsp_run.specs.Run.{Run}
use Rattle.bsp_right.specs.Told.{Tells}
use Rattle.bsp_right.specs.Summed.{Sums}
use Rattle.bsp_right.specs.Multiplied.{Multiplies}
use Rattle.bsp_right.specs.Ranked.{Ranks}

abbrev pub bundled_claim : Programs → Input → Run → Type 0
bundled_claim (Broadcast p) input r = Tells input r
bundled_claim (Prefix p) input r = Sums input r
bundled_claim (MatVec p) input r = Multiplies input r
bundled_claim (Rank p) input r = Ranks input r
