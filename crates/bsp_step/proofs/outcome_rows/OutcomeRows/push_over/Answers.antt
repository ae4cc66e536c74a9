use Rattle.std.proofs.Common.{None, length, refl, ap, subst, arith}
use Rattle.bsp_step.specs.OutcomeParts.{IsOutcome}
use Rattle.bsp_model.proofs.EitherWay.{both_ok}
use Rattle.bsp_step.proofs.OutcomeColumns.{outcomes-push, lawful-push, end_of, same_below, unchanged-below, has_there, on_err}
use Rattle.bsp_step.proofs.outcome_rows.OutcomeRows.push_over.Goals as goal

pub returns-in_err-and-clause-err : goal.returns-in_err-and-clause-err
returns-in_err-and-clause-err c =
    let r = c.self.inside in
    on_err _ c.from_residual.result
    (rw c.reserve.ensures.items
    (unchanged-below r.ends.items r.memories c.deref_mut.result.now r.lists.value c.put-put.new.self c.len.result c.args.self.now c.deref_mut.ensures.value (omega (arith, c.len.ensures, r.ends.ok)) c.put-put.ensures.before c.self.view_is))

pub returns-in_err-push_from-clause-err : goal.returns-in_err-push_from-clause-err
returns-in_err-push_from-clause-err c =
    let r = c.self.inside in
    on_err _ c.from_residual-in_err-push_from.result
    (rw (c.reserve.ensures.items, c.in_err-push_from.ensures.err)
    (unchanged-below r.ends.items r.memories c.deref_mut.result.now r.lists.value c.put-put.new.self c.len.result c.args.self.now c.deref_mut.ensures.value (omega (arith, c.len.ensures, r.ends.ok)) c.put-put.ensures.before c.self.view_is))

pub invariant_of-self-2 : goal.invariant_of-self-2
invariant_of-self-2 c =
    let r = c.self.inside in
    let lawful : IsOutcome c.args.outcome.now = subst IsOutcome c.outcome.view_is c.outcome.invariant in
    rw (c.push_reserved.ensures.items, c.reserve.ensures.items, c.in_ok-push_from.ensures.ok)
    (lawful-push r.ends.items r.memories r.lists.value c.put-put.new.self _ c.args.memory.now None c.args.outcome.now c.self.invariant
    (same_below c.deref_mut.result.now r.lists.value c.put-put.new.self c.len.result (length r.ends.items) c.deref_mut.ensures.value (omega (arith, c.len.ensures, r.ends.ok)) c.put-put.ensures.before)
    (has_there None c.put-put.new.self c.len.result (length r.ends.items) c.as_ref.result c.args.memory.now c.args.outcome.now c.args.outcome.now (omega (arith, c.len.ensures, r.ends.ok)) c.as_ref.ensures refl (both_ok c.put-put.result c.reserve.result c.in_ok-and.field-0 c.in_ok-and.ensures c.put-put.ensures.there c.reserve.ensures.ok).0)
    (ap (end_of None) c.outcome.view_is) lawful (omega (arith, c.requires, lawful.short_memory)))

pub returns-clause-ok : goal.returns-clause-ok
returns-clause-ok c =
    let r = c.self.inside in
    rw (c.push_reserved.ensures.items, c.reserve.ensures.items, c.in_ok-push_from.ensures.ok, ← c.self.view_is)
    (outcomes-push r.ends.items r.memories r.lists.value c.put-put.new.self _ c.args.memory.now None c.args.outcome.now c.self.invariant.count
    (same_below c.deref_mut.result.now r.lists.value c.put-put.new.self c.len.result (length r.ends.items) c.deref_mut.ensures.value (omega (arith, c.len.ensures, r.ends.ok)) c.put-put.ensures.before)
    (has_there None c.put-put.new.self c.len.result (length r.ends.items) c.as_ref.result c.args.memory.now c.args.outcome.now c.args.outcome.now (omega (arith, c.len.ensures, r.ends.ok)) c.as_ref.ensures refl (both_ok c.put-put.result c.reserve.result c.in_ok-and.field-0 c.in_ok-and.ensures c.put-put.ensures.there c.reserve.ensures.ok).0)
    (ap (end_of None) c.outcome.view_is))
