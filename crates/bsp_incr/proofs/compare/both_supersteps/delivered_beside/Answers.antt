use Rattle.std.proofs.Common.{◌≡◌, ◌∙◌, Bor, Some, ap, length}
use Rattle.std.specs.Prelude.{option_map}
use Rattle.bsp_run.specs.Run.{Run}
use Rattle.bsp_run.specs.TurnBy.{turn_by}
use Rattle.bsp_incr.specs.Inside.Given.{Making}
use Rattle.bsp_incr.proofs.RunBefore.{delivered_there}
use Rattle.bsp_incr.proofs.compare.both_supersteps.delivered_beside.Goals as goal

pub returns-in-Some-get-clause-count : goal.returns-in-Some-get-clause-count
returns-in-Some-get-clause-count g c =
    let k : Run = c.in-Some.history.now in
    let is : option_map (λ (h : Bor Run). h.now) c.given.inside.old ≡ Some k = ap (option_map (λ (h : Bor Run). h.now)) c.in-Some.is in
    let found = c.in-Some-get.ensures.lookup in
    (delivered_there (turn_by g.P.Program c.given.inside.program.now) c.given.inside.input.now (option_map (λ h. h.now) c.given.inside.old) k c.past.result.now c.step.result _ c.in-Some-get.superstep.now _ is c.given.invariant.before c.past.ensures.past c.step.ensures found.0 found.1).1
    ∙ ap (λ (m : Making _). length m.input.mems) c.given.view_is
