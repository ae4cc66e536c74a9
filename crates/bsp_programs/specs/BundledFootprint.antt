-- A bundled program depends on the words at which it looks, and on no others.
use Rattle.bsp_step.specs.Footprint.{IsFootprint}
use Rattle.bsp_programs.specs.declared.bundled.Bundled.{Bundled as Programs}
use Rattle.bsp_programs.specs.declared.bundled.Bundled.TheVariants.{Broadcast, Prefix, MatVec, Rank}
use Rattle.bsp_programs.specs.Bundled.{bundled_plan, bundled_looks}
use Rattle.bsp_programs.specs.BroadcastFootprint.{broadcast_footprint}
use Rattle.bsp_programs.specs.PrefixFootprint.{prefix_footprint}
use Rattle.bsp_programs.specs.MatVecFootprint.{matvec_footprint}
use Rattle.bsp_programs.specs.RankFootprint.{rank_footprint}

pub bundled_footprint : (p : Programs) → IsFootprint (λ v. (bundled_plan p v).acts) (λ v. (bundled_plan p v).ending) (bundled_looks p)
bundled_footprint (Broadcast p) = broadcast_footprint
bundled_footprint (Prefix p) = prefix_footprint
bundled_footprint (MatVec p) = matvec_footprint
bundled_footprint (Rank p) = rank_footprint
