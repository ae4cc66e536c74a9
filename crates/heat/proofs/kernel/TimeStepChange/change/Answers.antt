use Rattle.std.proofs.Common.{◌≡◌, ◌+◌, ◌-◌, ◌++◌, ◌∷◌, [], List, ℕ, length, get_or, map, take, sym, ap, ◌∙◌, arith}
use Rattle.std.proofs.lemmas.Grind.{common_steps}
use Rattle.std.specs.Prelude.{slice_set}
use Rattle.std.specs.List.{range_with_len}
use Rattle.heat.specs.Heat.{next_cell, next_cell_at}
use Rattle.heat.specs.Cells.{one_more_cell}
use Rattle.heat.proofs.CellBlocks.{cell_between, word_behind_cells, set_last, length-between}
use Rattle.heat.proofs.kernel.TimeStepChange.change.Goals as goal

pub loop-i-preserved : goal.loop-i-preserved
loop-i-preserved c =
    let b = c.args.self.now.before in
    let a = c.args.self.now.after in
    let cells = c.args.cells.now in
    let i = c.loop-i.i in
    let made = c.loop-i.invariant.made in
    let many = c.loop-i.invariant.many in
    let before = c.loop-i.invariant.before in
    let block : List ℕ = b ∷ cells ++ a ∷ [] in
    let own : get_or cells i 0 ≡ get_or block (i + 1) 0 = sym (cell_between b a cells i (omega arith)) in
    let next : get_or cells (i + 1) 0 ≡ get_or block (i + 2) 0 = sym (cell_between b a cells (i + 1) (omega arith)) ∙ ap (λ k. get_or block k 0) (omega arith) in
    let more = one_more_cell block i in
    record {
      before = own;
      made = grind (arith, common_steps);
      many = grind (arith, common_steps);
    }

pub returns : goal.returns
returns c =
    let b = c.args.self.now.before in
    let a = c.args.self.now.after in
    let cells = c.args.cells.now in
    let now = c.loop-i.next in
    let i = c.loop-i.i in
    let made = c.loop-i.invariant.made in
    let before = c.loop-i.invariant.before in
    let block : List ℕ = b ∷ cells ++ a ∷ [] in
    let end : i ≡ c.in-Some.last = omega arith in
    let many : length cells ≡ i + 1 = omega (arith, end) in
    let own : get_or cells c.in-Some.last 0 ≡ get_or block (i + 1) 0 = ap (λ k. get_or cells k 0) (sym end) ∙ sym (cell_between b a cells i (omega (arith, many))) in
    let next : get_or block (i + 2) 0 ≡ a = ap (λ k. get_or block k 0) (omega (arith, many)) ∙ word_behind_cells b a cells in
    let set : slice_set now c.in-Some.last c.next_cell-2.result ≡ take i now ++ c.next_cell-2.result ∷ [] =
    ap (λ k. slice_set now k c.next_cell-2.result) (sym end) ∙ set_last now i c.next_cell-2.result (omega (arith, many, c.loop-i.invariant.many)) in
    let cell : c.next_cell-2.result ≡ next_cell (get_or block i 0) (get_or block (i + 1) 0) (get_or block (i + 2) 0) =
    c.next_cell-2.ensures ∙ (λ k. next_cell (before k) (own k) (sym next k)) in
    let len : i + 1 ≡ length block - 2 = omega (arith, many, length-between b a cells) in
    set ∙ (λ k. made k ++ cell k ∷ []) ∙ sym (one_more_cell block i) ∙ ap (λ n. map (next_cell_at block) (range_with_len 1 n)) len
