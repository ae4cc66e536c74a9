use Rattle.std.proofs.Common.{◌≡◌, ◌∙◌, ap, sym, subst, [], length, ℕ}
use Rattle.std.specs.Prelude.{slice_index_or}
use Rattle.bsp_pool.specs.EventLists.{KeepsRounds}
use Rattle.bsp_pool.specs.Rounds.{opened}
use Rattle.bsp_pool.specs.Machine.{Machine, machine, starting}
use Rattle.bsp_pool.proofs.RoundSteps.{starting_sound}
use Rattle.bsp_pool.proofs.EventLaws.{every_list}
use Rattle.bsp_pool.proofs.machine.Core.new.Goals as goal

pub returns-in-Ok-clause-law : goal.returns-in-Ok-clause-law
returns-in-Ok-clause-law g c = λ events.
    let does = g.W.Work.does c.args.work in
    let phases = c.args.phases.items in
    let inputs : length c.inputs_at-inputs.result.now ≡ length (slice_index_or phases 0 []) = ap length (c.inputs_at-inputs.ensures ∙ ap (λ l. slice_index_or l 0 []) c.as_slice.ensures.value) in
    let is : machine c.args.work phases c.new.result.items c.in-Ok.round ≡ starting c.args.work phases c.args.workers = ap (λ l. machine c.args.work phases l c.in-Ok.round) c.new.ensures.items ∙ ap (λ r. machine c.args.work phases [] r) (c.in-Ok.ensures ∙ ap (λ (n : ℕ). opened n c.args.workers) inputs) in
    subst (λ (m : Machine g.row.W.Denot g.row.W-In.Denot g.row.W-Out.Denot). KeepsRounds does m events) (sym is) (every_list does (starting c.args.work phases c.args.workers) events (starting_sound does c.args.work phases c.args.workers))
