use Rattle.std.proofs.Common.{◌≡◌, ◌≤◌, ℕ, arith, take, ap, sym, ◌∙◌}
use Rattle.std.specs.List.{range_with_len}
use Rattle.std.proofs.lemmas.List.{map-id}
use Rattle.std.proofs.lemmas.List.FromFn.{take-map-range_with_len}
use Rattle.bsp_model.proofs.process_numbers.numbers.Goals as goal

take_range : (n k : ℕ) → k ≤ n → take k (range_with_len 0 n) ≡ range_with_len 0 k
take_range n k within =
    ap (take k) (sym (map-id (range_with_len 0 n))) ∙ take-map-range_with_len (λ j. j) 0 n k within ∙ map-id (range_with_len 0 k)

pub returns : goal.returns
returns c =
    let first : take c.args.count (range_with_len 0 64) ≡ range_with_len 0 c.args.count = take_range 64 c.args.count (omega arith) in
    first
