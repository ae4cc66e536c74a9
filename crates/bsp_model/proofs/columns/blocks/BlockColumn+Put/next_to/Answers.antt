use Rattle.std.proofs.Common.{◌≡◌, ◌≤◌, ◌<◌, ℕ, List, length, ap, subst, sym, arith, ◌∙◌}
use Rattle.bsp_model.specs.Inside.Rows.{rows_of, AreEnds}
use Rattle.bsp_model.specs.declared.block.PutHead.{PutHead}
use Rattle.bsp_model.proofs.RowsOf.{end-within}
use Rattle.bsp_model.proofs.RowsBetween.{start_at-within}
use Rattle.bsp_model.proofs.HeadsTo.{puts_between, ends_behind, put_there}
use Rattle.bsp_model.proofs.columns.blocks.BlockColumn+Put.next_to.Goals as goal

pub returns-then-from-ends-clause-none : goal.returns-then-from-ends-clause-none
returns-then-from-ends-clause-none c k behind =
    let items = c.heads.inside.items.items in
    let ends = c.as_slice-ends.result.now in
    let is : rows_of 0 items ends ≡ c.self.inside.pairs.0 = ap (rows_of 0 items) c.as_slice-ends.ensures.value ∙ c.heads.view_is ∙ (λ i. (c.self-inside.view_is i).pairs.0) in
    let are : AreEnds 0 ends (length items) = subst (λ es. AreEnds 0 es (length items)) (sym c.as_slice-ends.ensures.value) c.heads.invariant in
    puts_between c.args.targets.now c.args.self.now c.self.inside.pairs items ends k k 0 c.self.view_is is are (omega arith)
    (λ here. absurd (omega (arith, here, behind, c.if-from-ends.true))) (λ j h low high. absurd (omega (arith, high)))

-- heads and ends, as two slices have them
firsts : (heads items : List (PutHead × ℕ)) (all ends : List ℕ) (rows : List (List (PutHead × ℕ))) → items ≡ heads → ends ≡ all → rows_of 0 heads all ≡ rows → rows_of 0 items ends ≡ rows
firsts heads items all ends rows same same_ends is = (λ i. rows_of 0 (same i) (same_ends i)) ∙ is

ascend : (heads items : List (PutHead × ℕ)) (all ends : List ℕ) → items ≡ heads → ends ≡ all → AreEnds 0 all (length heads) → AreEnds 0 ends (length items)
ascend heads items all ends same same_ends are = subst (λ es. AreEnds 0 es (length items)) (sym same_ends) (subst (λ hs. AreEnds 0 all (length hs)) (sym same) are)

pub head_to-place-requires : goal.head_to-place-requires
head_to-place-requires c =
    let are = ascend c.heads.inside.items.items c.as_slice-items.result.now c.heads.inside.ends.items c.as_slice-ends.result.now c.as_slice-items.ensures.value c.as_slice-ends.ensures.value c.heads.invariant in
    let ends = c.as_slice-ends.result.now in
    omega (arith, c.start_of.ensures, start_at-within ends (length c.as_slice-items.result.now) c.args.from are (omega (arith, c.if-from-ends.false)))

pub returns-then-place-items-clause-none : goal.returns-then-place-items-clause-none
returns-then-place-items-clause-none c k behind =
    let is = firsts c.heads.inside.items.items c.as_slice-items.result.now c.heads.inside.ends.items c.as_slice-ends.result.now c.self.inside.pairs.0 c.as_slice-items.ensures.value c.as_slice-ends.ensures.value (c.heads.view_is ∙ (λ i. (c.self-inside.view_is i).pairs.0)) in
    let are = ascend c.heads.inside.items.items c.as_slice-items.result.now c.heads.inside.ends.items c.as_slice-ends.result.now c.as_slice-items.ensures.value c.as_slice-ends.ensures.value c.heads.invariant in
    let items = c.as_slice-items.result.now in
    let ends = c.as_slice-ends.result.now in
    puts_between c.args.targets.now c.args.self.now c.self.inside.pairs items ends c.args.from k (length items) c.self.view_is is are behind
    (λ here. end-within 0 ends (length items) k are here)
    (λ j h low high. c.head_to-place.ensures.before j h (omega (arith, low, c.start_of.ensures)) (omega (arith, high, c.if-place-items.true)))

pub returns-clause-before : goal.returns-clause-before
returns-clause-before c k behind below =
    let is = firsts c.heads.inside.items.items c.as_slice-items.result.now c.heads.inside.ends.items c.as_slice-ends.result.now c.self.inside.pairs.0 c.as_slice-items.ensures.value c.as_slice-ends.ensures.value (c.heads.view_is ∙ (λ i. (c.self-inside.view_is i).pairs.0)) in
    let are = ascend c.heads.inside.items.items c.as_slice-items.result.now c.heads.inside.ends.items c.as_slice-ends.result.now c.as_slice-items.ensures.value c.as_slice-ends.ensures.value c.heads.invariant in
    puts_between c.args.targets.now c.args.self.now c.self.inside.pairs c.as_slice-items.result.now c.as_slice-ends.result.now c.args.from k c.head_to-place.result c.self.view_is is are behind
    (λ here. c.row_behind.ensures.before k behind below)
    (λ j h low high. c.head_to-place.ensures.before j h (omega (arith, low, c.start_of.ensures)) high)

pub returns-clause-there : goal.returns-clause-there
returns-clause-there c none =
    let is = firsts c.heads.inside.items.items c.as_slice-items.result.now c.heads.inside.ends.items c.as_slice-ends.result.now c.self.inside.pairs.0 c.as_slice-items.ensures.value c.as_slice-ends.ensures.value (c.heads.view_is ∙ (λ i. (c.self-inside.view_is i).pairs.0)) in
    let are = ascend c.heads.inside.items.items c.as_slice-items.result.now c.heads.inside.ends.items c.as_slice-ends.result.now c.as_slice-items.ensures.value c.as_slice-ends.ensures.value c.heads.invariant in
    let items = c.as_slice-items.result.now in
    let ends = c.as_slice-ends.result.now in
    let place = c.head_to-place.result in
    let next = c.row_behind.result in
    let behind : c.args.from ≤ next = c.row_behind.ensures.later in
    let inside : place < length items = omega (arith, c.head_to-place.ensures.within, c.if-place-items.false) in
    let within : next < length ends = ends_behind ends (length items) c.args.from next place are behind c.row_behind.ensures.within (omega (arith, c.start_of.ensures, c.head_to-place.ensures.later)) inside c.row_behind.ensures.before in
    put_there c.args.targets.now c.args.self.now c.self.inside.pairs items ends c.args.from next place c.self.view_is is are behind within
    (omega (arith, c.start_of.ensures, c.head_to-place.ensures.later)) c.row_behind.ensures.before (c.row_behind.ensures.there within) (λ h. c.head_to-place.ensures.there h inside) none
