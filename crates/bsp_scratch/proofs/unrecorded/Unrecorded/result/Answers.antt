use Rattle.std.proofs.Common.{◌≡◌, ◌+◌, ◌∙◌, ◌∷◌, [], List, Option, Some, None, IfOk, ap, sym, subst, refl, length, arith, length-append}
use Rattle.bsp_model.specs.declared.cost.CostRow.{CostRow}
use Rattle.bsp_step.specs.OutcomeParts.{OutcomeParts}
use Rattle.bsp_run.specs.declared.result.RunResult.{RunResult}
use Rattle.bsp_run.specs.declared.result.Status.{Status}
use Rattle.bsp_scratch.specs.declared.tally.Tally.{Tally}
use Rattle.bsp_run.specs.Run.{Run}
use Rattle.bsp_run.specs.Condition.{IsInPhase, IsAtLimit}
use Rattle.bsp_run.specs.Result.{cost_of_end}
use Rattle.bsp_scratch.specs.Inside.IsUnrecorded.{HasEnded}
use Rattle.bsp_model.proofs.EitherWay.{both_ok}
use Rattle.bsp_run.proofs.Conditions.{count_of_outcomes}
use Rattle.bsp_scratch.proofs.UnrecordedRuns.{ended_so, ended_result, limit_result, rows_are}
use Rattle.bsp_scratch.proofs.unrecorded.Unrecorded.result.Goals as goal

pub take_result-requires : goal.take_result-requires
take_result-requires c =
    let r : Run = c.requires.ended.0 in
    let h : HasEnded (Some c.in-Some.status) r c.args.views.now c.args.self.now =
    subst (λ (o : Option Status). HasEnded o r c.args.views.now c.args.self.now) (sym c.take.ensures.value ∙ c.in-Some.is) c.requires.ended.1 in
    let t = h.0 in
    let room = (ended_so r c.in-Some.status (subst (λ p. IsInPhase p r) t.phase t.same.run.phase) h.1).0 in
    let before : Tally = c.args.self.now.tally in
    let added = both_ok c.add_end-added.result c.copy_memories.result c.in-Ok.field-0 c.in-Ok.ensures c.add_end-added.ensures.costs c.copy_memories.ensures in
    let rows : length c.add_end-added.new.self.costs ≡ length before.costs + 1 =
    ap (λ (rows : List CostRow). length rows) added.0 ∙ length-append before.costs (cost_of_end c.args.self.now.taken.outcomes ∷ []) in
    omega (arith, room, rows, rows_are r c.args.views.now c.args.self.now t.same, t.same.run.few_supersteps)

pub returns-in-Ok : goal.returns-in-Ok
returns-in-Ok c = λ r e.
    let h : HasEnded (Some c.in-Some.status) r c.args.views.now c.args.self.now =
    subst (λ (o : Option Status). HasEnded o r c.args.views.now c.args.self.now) (sym c.take.ensures.value ∙ c.in-Some.is) e in
    let t = h.0 in
    let os : List OutcomeParts = c.args.self.now.taken.outcomes in
    let made = ended_so r c.in-Some.status (subst (λ p. IsInPhase p r) t.phase t.same.run.phase) h.1 in
    let count : length os ≡ length r.state.memories = ap (λ (us : List OutcomeParts). length us) (sym t.outcomes) ∙ count_of_outcomes r.args (length r.past) r.state r.outcomes made.1 in
    let lines = both_ok c.add_end-added.result c.copy_memories.result c.in-Ok.field-0 c.in-Ok.ensures c.add_end-added.ensures.lines c.copy_memories.ensures in
    let costs = both_ok c.add_end-added.result c.copy_memories.result c.in-Ok.field-0 c.in-Ok.ensures c.add_end-added.ensures.costs c.copy_memories.ensures in
    subst (λ (given : RunResult). IfOk c.take_result.result (λ x. x ≡ given))
    (ended_result r c.in-Some.status c.args.views.now c.args.self.now os c.copy_memories.new.memories c.add_end-added.new.self t h.1 count costs.1 lines.0 costs.0)
    c.take_result.ensures

pub take_result-requires-in-Ok-add_memories : goal.take_result-requires-in-Ok-add_memories
take_result-requires-in-Ok-add_memories c =
    let r : Run = c.requires.ended.0 in
    let t : HasEnded None r c.args.views.now c.args.self.now =
    subst (λ (o : Option Status). HasEnded o r c.args.views.now c.args.self.now) (sym c.take.ensures.value ∙ c.in-None.is) c.requires.ended.1 in
    let at : IsAtLimit r = subst (λ p. IsInPhase p r) t.phase t.same.run.phase in
    omega (arith, at.full, rows_are r c.args.views.now c.args.self.now t.same, t.same.run.few_supersteps)

pub returns-in-Ok-add_memories : goal.returns-in-Ok-add_memories
returns-in-Ok-add_memories c = λ r e.
    let t : HasEnded None r c.args.views.now c.args.self.now =
    subst (λ (o : Option Status). HasEnded o r c.args.views.now c.args.self.now) (sym c.take.ensures.value ∙ c.in-None.is) e in
    subst (λ (given : RunResult). IfOk c.take_result-in-Ok-add_memories.result (λ x. x ≡ given))
    (limit_result r c.args.views.now c.args.self.now r.outcomes c.add_memories.new.all c.args.self.now.tally t c.in-Ok-add_memories.ensures refl)
    c.take_result-in-Ok-add_memories.ensures
