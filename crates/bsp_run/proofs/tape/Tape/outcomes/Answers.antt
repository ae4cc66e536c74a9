use Rattle.std.proofs.Common.{◌∙◌, ap, subst, length}
use Rattle.bsp_run.specs.Run.{Run}
use Rattle.bsp_run.specs.Inside.Tape.{run_of}
use Rattle.bsp_run.specs.Condition.{IsInPhase, IsTurned}
use Rattle.bsp_run.proofs.Conditions.{AreDeliverable-from_turns}
use Rattle.bsp_run.proofs.tape.Tape.outcomes.Goals as goal

pub returns-in_default-clause-deliverable : goal.returns-in_default-clause-deliverable
returns-in_default-clause-deliverable c e =
    let r : Run = run_of c.self.inside in
    let h = c.self.invariant.run in
    let turned : IsTurned r = subst (λ p. IsInPhase p r) (ap (λ (x : Run). x.phase) c.self.view_is ∙ e) h.phase in
    AreDeliverable-from_turns r.args (length r.past) r.state r.outcomes h.state turned.turns
