use Rattle.std.proofs.Common.{◌≡◌, ◌-◌, ◌++◌, List, Result, cond, drop, length, length-take, ap, sym, ◌∙◌, arith}
use Rattle.std.specs.Prelude.{IsOk, is_ok, slice_range}
use Rattle.bsp_step.specs.declared.outcome_rows.OutcomeRows.TheInside.{Inside}
use Rattle.bsp_step.specs.OutcomeParts.{OutcomeParts}
use Rattle.bsp_step.specs.Inside.Outcomes.{outcomes_of}
use Rattle.bsp_model.proofs.EitherWay.{both_ok}
use Rattle.bsp_step.proofs.OutcomeColumns.{length-outcomes_of, outcomes-range, lawful-range, same_below, taken_behind, unchanged-below, on_err}
use Rattle.bsp_step.proofs.outcome_rows.OutcomeRowsByProcess.append_range.Goals as goal

long : (r : Inside) (now : List OutcomeParts) → outcomes_of r.ends.items r.memories r.lists.value ≡ now → length now ≡ length r.ends.items
long r now seen = ap length (sym seen) ∙ length-outcomes_of r.ends.items r.memories r.lists.value

-- a list that had room has grown
grown : {A T E : Type 0} (r : Result T E) (xs ys zs : List A) → zs ≡ cond (is_ok r) (xs ++ ys) xs → IsOk r → zs ≡ xs ++ ys
grown r xs ys zs is ok = is ∙ ap (λ b. cond b (xs ++ ys) xs) ok

pub offset_bounds-deref-from : goal.offset_bounds-deref-from
offset_bounds-deref-from c =
    let many = long c.more.inside c.args.more.now c.more.view_is in
    omega (arith, c.requires.order, c.requires.inside, many, c.more.inside.ends.ok, c.more.inside.ends.small)

pub slice_bounds-extend_from_slice-end : goal.slice_bounds-extend_from_slice-end
slice_bounds-extend_from_slice-end c =
    omega (arith, c.requires.inside, long c.more.inside c.args.more.now c.more.view_is, ap length c.deref-2.ensures.value)

pub append_range-requires-clause-inside : goal.append_range-requires-clause-inside
append_range-requires-clause-inside c =
    omega (arith, c.requires.inside, long c.more.inside c.args.more.now c.more.view_is, c.more.invariant.count)

pub returns-in_err-and-clause-err : goal.returns-in_err-and-clause-err
returns-in_err-and-clause-err c =
    let r = c.self.inside in
    on_err _ c.from_residual.result
    (rw c.reserve.ensures.items
    (unchanged-below r.ends.items r.memories c.deref_mut.result.now r.lists.value c.take_range-taken.new.self c.len.result c.args.self.now c.deref_mut.ensures.value (c.len.ensures ∙ r.ends.ok.0) c.take_range-taken.ensures.before c.self.view_is))

pub returns-in_err-append_range-clause-err : goal.returns-in_err-append_range-clause-err
returns-in_err-append_range-clause-err c =
    let r = c.self.inside in
    on_err _ c.from_residual-in_err-append_range.result
    (rw (c.reserve.ensures.items, c.in_err-append_range.ensures.err)
    (unchanged-below r.ends.items r.memories c.deref_mut.result.now r.lists.value c.take_range-taken.new.self c.len.result c.args.self.now c.deref_mut.ensures.value (c.len.ensures ∙ r.ends.ok.0) c.take_range-taken.ensures.before c.self.view_is))

pub invariant_of-self-2 : goal.invariant_of-self-2
invariant_of-self-2 c =
    let r = c.self.inside in
    let m = c.more.inside in
    let here : c.len.result ≡ length r.ends.items = c.len.ensures ∙ r.ends.ok.0 in
    let ends = grown c.extend_from_slice.result r.ends.items (slice_range m.ends.items c.args.from c.args.to) c.extend_from_slice.new.self.items (rw (c.reserve.ensures.items, c.deref-2.ensures.value) at c.extend_from_slice.ensures.items) (c.extend_from_slice.ensures.succeeds (omega (arith, length-take (c.args.to - c.args.from) (drop c.args.from c.deref-2.result.now), (both_ok c.take_range-taken.result c.reserve.result c.in_ok-and.field-0 c.in_ok-and.ensures c.take_range-taken.ensures.taken c.reserve.ensures.ok).1, c.reserve.ensures.len))) in
    rw (ends, c.in_ok-append_range.ensures.ok)
    (lawful-range r.ends.items m.ends.items r.memories m.memories r.lists.value m.lists.value c.take_range-taken.new.self c.args.from c.args.to c.self.invariant c.more.invariant
    (omega (arith, c.requires.inside, long m c.args.more.now c.more.view_is))
    (same_below c.deref_mut.result.now r.lists.value c.take_range-taken.new.self c.len.result (length r.ends.items) c.deref_mut.ensures.value here c.take_range-taken.ensures.before)
    (taken_behind c.deref.result.now m.lists.value c.take_range-taken.new.self c.len.result (length r.ends.items) c.args.from c.args.to c.deref.ensures here (both_ok c.take_range-taken.result c.reserve.result c.in_ok-and.field-0 c.in_ok-and.ensures c.take_range-taken.ensures.taken c.reserve.ensures.ok).0))

pub returns-clause-ok : goal.returns-clause-ok
returns-clause-ok c =
    let r = c.self.inside in
    let m = c.more.inside in
    let here : c.len.result ≡ length r.ends.items = c.len.ensures ∙ r.ends.ok.0 in
    let ends = grown c.extend_from_slice.result r.ends.items (slice_range m.ends.items c.args.from c.args.to) c.extend_from_slice.new.self.items (rw (c.reserve.ensures.items, c.deref-2.ensures.value) at c.extend_from_slice.ensures.items) (c.extend_from_slice.ensures.succeeds (omega (arith, length-take (c.args.to - c.args.from) (drop c.args.from c.deref-2.result.now), (both_ok c.take_range-taken.result c.reserve.result c.in_ok-and.field-0 c.in_ok-and.ensures c.take_range-taken.ensures.taken c.reserve.ensures.ok).1, c.reserve.ensures.len))) in
    rw (ends, c.in_ok-append_range.ensures.ok, ← c.self.view_is, ← c.more.view_is)
    (outcomes-range r.ends.items m.ends.items r.memories m.memories r.lists.value m.lists.value c.take_range-taken.new.self c.args.from c.args.to c.self.invariant.count
    (omega (arith, c.requires.inside, long m c.args.more.now c.more.view_is))
    (same_below c.deref_mut.result.now r.lists.value c.take_range-taken.new.self c.len.result (length r.ends.items) c.deref_mut.ensures.value here c.take_range-taken.ensures.before)
    (taken_behind c.deref.result.now m.lists.value c.take_range-taken.new.self c.len.result (length r.ends.items) c.args.from c.args.to c.deref.ensures here (both_ok c.take_range-taken.result c.reserve.result c.in_ok-and.field-0 c.in_ok-and.ensures c.take_range-taken.ensures.taken c.reserve.ensures.ok).0))
