-- Of which processes the turn has to be taken in an open superstep.
use Rattle.std.specs.Prelude.{ℕ, Bool}
use Rattle.bsp_step.specs.ViewParts.{ViewParts}
use Rattle.bsp_incr.specs.declared.compare.both_supersteps.OpenSuperstep.{OpenSuperstep}
use Rattle.bsp_incr.specs.Inside.Changes.{differs}

-- process p sees something else than in the previous run, at an address at which the program looks
abbrev pub differs_now : (ViewParts → ℕ → Bool) → OpenSuperstep → ℕ → Bool
differs_now looks superstep = differs looks superstep.old_views superstep.views.now
