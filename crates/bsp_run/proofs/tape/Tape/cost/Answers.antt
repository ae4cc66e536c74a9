use Rattle.std.proofs.Common.{◌∙◌, ap, length}
use Rattle.bsp_run.specs.Run.{Run}
use Rattle.bsp_run.specs.Result.{cost_of_delivery}
use Rattle.bsp_run.specs.Inside.Tape.{run_of}
use Rattle.bsp_run.proofs.Conditions.{AreDeliverable-from_turns}
use Rattle.bsp_run.proofs.Phases.{is_turned_run}
use Rattle.bsp_run.proofs.tape.Tape.cost.Goals as goal

pub cost_of_delivery-requires-clause-deliverable : goal.cost_of_delivery-requires-clause-deliverable
cost_of_delivery-requires-clause-deliverable c =
    let r : Run = run_of c.self.inside in
    let turned = is_turned_run r c.self.invariant.run (ap (λ (x : Run). x.phase) c.self.view_is ∙ c.requires) in
    AreDeliverable-from_turns r.args (length r.past) r.state r.outcomes c.self.invariant.run.state turned.turns

pub returns-clause-value : goal.returns-clause-value
returns-clause-value c =
    let r : Run = run_of c.self.inside in
    c.cost_of_delivery.ensures.value ∙ ap (λ (x : Run). cost_of_delivery x.g x.l x.outcomes) c.self.view_is
