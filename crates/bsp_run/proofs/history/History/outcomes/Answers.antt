use Rattle.std.proofs.Common.{◌≡◌, ◌<◌, ◌∙◌, List, true, ap, length, arith}
use Rattle.bsp_deliver.specs.Condition.{AreDeliverable}
use Rattle.bsp_run.specs.Run.{Run}
use Rattle.bsp_run.specs.Condition.{is_ended}
use Rattle.bsp_run.specs.Inside.Tape.{run_of}
use Rattle.bsp_run.proofs.Laws.{last_deliverable, IfSome-map, no_turns}
use Rattle.bsp_run.proofs.history.History.outcomes.Goals as goal

pub returns-in-None-clause-deliverable : goal.returns-in-None-clause-deliverable
returns-in-None-clause-deliverable c =
    let r : Run = run_of c.run.inside in
    let ended : is_ended r.phase ≡ true = ap (λ (x : Run). is_ended x.phase) c.run.view_is ∙ c.self.invariant.ended in
    let last = c.last_turn.ensures in
    IfSome-map (λ o. o.now) AreDeliverable c.last_turn.result (last_deliverable r c.run.invariant.run ended _ last)

pub returns-in-None-2-clause-outcomes : goal.returns-in-None-2-clause-outcomes
returns-in-None-2-clause-outcomes c =
    let same = ap (λ (x : Run). length x.past) (c.run.view_is ∙ c.self.view_is) in
    let slice = ap (λ (xs : List _). length xs) c.as_slice.ensures.value in
    let past : length c.args.self.now.past < c.args.step = omega (arith, same, slice, c.in-None.ensures.lookup, c.if-step-len.false, c.len.ensures, c.run.inside.past.ok) in
    no_turns c.args.self.now c.args.step past
