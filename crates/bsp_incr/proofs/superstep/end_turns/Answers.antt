use Rattle.std.proofs.Common.{◌∙◌, ap, sym}
use Rattle.bsp_run.specs.Run.{Run}
use Rattle.bsp_run.specs.Condition.{is_turned}
use Rattle.bsp_incr.proofs.Staying.{turns_on}
use Rattle.bsp_incr.proofs.superstep.end_turns.Goals as goal

pub returns-then-is_delivery-clause-answer : goal.returns-then-is_delivery-clause-answer
returns-then-is_delivery-clause-answer c =
    sym (ap (λ (x : Run). is_turned x.phase) c.turned_to_deliver.ensures ∙ turns_on c.args.tape.now c.args.outcomes (c.requires.delivery c.if-is_delivery.true))
