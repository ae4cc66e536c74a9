use Rattle.std.proofs.Common.{◌≡◌, ◌<◌, ◌≤◌, ◌+◌, ◌-◌, ◌++◌, ℕ, List, Result, Ok, cond, length, ap, sym, ◌∙◌, arith}
use Rattle.std.specs.Prelude.{slice_range, is_ok}
use Rattle.bsp_model.proofs.Appending.{whole, on_ok}
use Rattle.bsp_step.specs.OutcomeParts.{OutcomeParts}
use Rattle.bsp_step.specs.Inside.Outcomes.{AreSameLists}
use Rattle.bsp_step.proofs.OutcomeColumns.{length-outcomes_of, outcomes-range, lawful-range, same_below, taken_behind}
use Rattle.bsp_step.proofs.outcome_rows.OutcomeRows.append.Goals as goal

-- a list that has grown whole
grown : {A T E : Type 0} (r : Result T E) (x : T) (xs ys zs : List A) → zs ≡ cond (is_ok r) (xs ++ ys) xs → r ≡ Ok x → zs ≡ xs ++ slice_range ys 0 (length ys)
grown r x xs ys zs is ok = is ∙ ap (λ (q : Result _ _). cond (is_ok q) (xs ++ ys) xs) ok ∙ ap (λ (l : List _). xs ++ l) (sym (whole ys (length ys) (omega arith)))

-- memories that have grown whole
longer : (xs ys zs : List (List ℕ)) (n : ℕ) → n ≡ length ys → zs ≡ xs ++ ys → zs ≡ xs ++ slice_range ys 0 n
longer xs ys zs n long is = is ∙ ap (λ (l : List (List ℕ)). xs ++ l) (sym (whole ys n long))

pub invariant_of-self : goal.invariant_of-self
invariant_of-self c =
    let r = c.self.inside in
    let m = c.more.inside in
    let n = length m.ends.items in
    let here : c.len-place.result ≡ length r.ends.items = c.len-place.ensures ∙ r.ends.ok.0 in
    let many : c.len-count.result ≡ n = c.len-count.ensures ∙ m.ends.ok.0 in
    let ends = grown c.extend_from_slice-ends.result c.in-Ok-Ok-Ok.field-0-1 r.ends.items m.ends.items c.extend_from_slice-ends.new.self.items (rw c.as_slice.ensures.value at c.extend_from_slice-ends.ensures.items) c.in-Ok-Ok-Ok.is-1 in
    let memories = longer r.memories m.memories c.append-memories.new.self n (sym c.more.invariant.count) (on_ok c.append-memories.result c.in-Ok-Ok-Ok.field-0-2 c.in-Ok-Ok-Ok.is-2 c.append-memories.ensures.ok) in
    let taken : (k : ℕ) → c.len-place.result ≤ k → k < c.len-place.result + (n - 0) → AreSameLists c.deref.result.now (0 + (k - c.len-place.result)) c.take_range-lists.new.self k =
    rw many at (on_ok c.take_range-lists.result c.in-Ok-Ok-Ok.field-0-0 c.in-Ok-Ok-Ok.is-0 c.take_range-lists.ensures.taken) in
    rw (ends, memories)
    (lawful-range r.ends.items m.ends.items r.memories m.memories r.lists.value m.lists.value c.take_range-lists.new.self 0 n c.self.invariant c.more.invariant (omega arith)
    (same_below c.deref_mut.result.now r.lists.value c.take_range-lists.new.self c.len-place.result (length r.ends.items) c.deref_mut.ensures.value here c.take_range-lists.ensures.before)
    (taken_behind c.deref.result.now m.lists.value c.take_range-lists.new.self c.len-place.result (length r.ends.items) 0 n c.deref.ensures here taken))

pub returns-in-Ok-Ok-Ok-clause-ok : goal.returns-in-Ok-Ok-Ok-clause-ok
returns-in-Ok-Ok-Ok-clause-ok c =
    let r = c.self.inside in
    let m = c.more.inside in
    let n = length m.ends.items in
    let here : c.len-place.result ≡ length r.ends.items = c.len-place.ensures ∙ r.ends.ok.0 in
    let many : c.len-count.result ≡ n = c.len-count.ensures ∙ m.ends.ok.0 in
    let ends = grown c.extend_from_slice-ends.result c.in-Ok-Ok-Ok.field-0-1 r.ends.items m.ends.items c.extend_from_slice-ends.new.self.items (rw c.as_slice.ensures.value at c.extend_from_slice-ends.ensures.items) c.in-Ok-Ok-Ok.is-1 in
    let memories = longer r.memories m.memories c.append-memories.new.self n (sym c.more.invariant.count) (on_ok c.append-memories.result c.in-Ok-Ok-Ok.field-0-2 c.in-Ok-Ok-Ok.is-2 c.append-memories.ensures.ok) in
    let taken : (k : ℕ) → c.len-place.result ≤ k → k < c.len-place.result + (n - 0) → AreSameLists c.deref.result.now (0 + (k - c.len-place.result)) c.take_range-lists.new.self k =
    rw many at (on_ok c.take_range-lists.result c.in-Ok-Ok-Ok.field-0-0 c.in-Ok-Ok-Ok.is-0 c.take_range-lists.ensures.taken) in
    let long : n ≡ length c.args.more.now = sym (ap length (sym c.more.view_is) ∙ length-outcomes_of m.ends.items m.memories m.lists.value) in
    rw (ends, memories)
    (outcomes-range r.ends.items m.ends.items r.memories m.memories r.lists.value m.lists.value c.take_range-lists.new.self 0 n c.self.invariant.count (omega arith)
    (same_below c.deref_mut.result.now r.lists.value c.take_range-lists.new.self c.len-place.result (length r.ends.items) c.deref_mut.ensures.value here c.take_range-lists.ensures.before)
    (taken_behind c.deref.result.now m.lists.value c.take_range-lists.new.self c.len-place.result (length r.ends.items) 0 n c.deref.ensures here taken)
    ∙ (λ i. c.self.view_is i ++ slice_range (c.more.view_is i) 0 n)
    ∙ ap (λ (os : List OutcomeParts). c.args.self.now ++ os) (whole c.args.more.now n long))
