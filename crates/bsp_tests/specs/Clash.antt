-- Two processes whose gets and puts meet on the same words.
use Rattle.std.specs.Prelude.{[], ◌∷◌, ◌==◌, if◌then◌else◌}
use Rattle.bsp_model.specs.declared.fault.End.TheVariants.{Sync, Halt}
use Rattle.bsp_step.specs.ViewParts.{ViewParts}
use Rattle.bsp_step.specs.Act.{get, push_reg, put}
use Rattle.bsp_step.specs.Plan.{Plan, does}

-- Superstep 0 registers both words. In superstep 1 process 0 gets both words of process 1 and puts to both, and process 1 puts to the first word of
-- process 0. Superstep 2 ends.
abbrev pub clash_plan : ViewParts → Plan
clash_plan v =
    if v.step == 0 then does (push_reg 0 2 ∷ []) Sync
    else (if v.step == 1 then (if v.pid == 0 then does (get 1 0 0 0 2 ∷ put 1 (88 ∷ 89 ∷ []) 0 0 ∷ []) Sync
    else does (put 0 (77 ∷ []) 0 0 ∷ []) Sync)
    else does [] Halt)
