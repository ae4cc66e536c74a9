use Rattle.std.proofs.Common.{◌≡◌, ◌+◌, ◌-◌, ◌++◌, ◌∷◌, [], List, ℕ, get_or, take, drop, sym, ap, ◌∙◌, arith, append_assoc}
use Rattle.std.proofs.lemmas.List.{take_more, get_or-drop, length-drop}
use Rattle.bsp_model.proofs.lasts.Lasts.append_range.Goals as goal

pub loop-number-preserved : goal.loop-number-preserved
loop-number-preserved c =
    let more : List (List ℕ) = c.args.more.now in
    let from = c.args.from in
    let n = c.loop-number.number in
    let k : ℕ = n - from in
    let front : List (List ℕ) = take k (drop from more) in
    let before = c.loop-number.invariant in
    let next : n + 1 - from ≡ k + 1 = omega (arith, before.low) in
    let at : from + k ≡ n = omega (arith, before.low) in
    let word : get_or (drop from more) k [] ≡ c.row.result.now = get_or-drop from more k [] ∙ ap (λ (j : ℕ). get_or more j []) at ∙ sym c.row.ensures in
    let longer : take (n + 1 - from) (drop from more) ≡ front ++ c.row.result.now ∷ [] =
    ap (λ (j : ℕ). take j (drop from more)) next ∙ take_more (drop from more) k [] (omega (arith, before.low, c.loop-number-test.true, c.requires.inside, length-drop from more)) ∙ ap (λ (row : List ℕ). front ++ row ∷ []) word in
    let rows : c.push.new.self ≡ c.self.inside.rows ++ take (n + 1 - from) (drop from more) =
    c.in_default.ensures.ok ∙ ap (λ (rs : List (List ℕ)). rs ++ c.row.result.now ∷ []) before.rows ∙ append_assoc c.self.inside.rows front (c.row.result.now ∷ []) ∙ ap (λ (rs : List (List ℕ)). c.self.inside.rows ++ rs) (sym longer) in
    record { low = omega (arith, before.low); high = omega (arith, c.loop-number-test.true); own = before.own; count = before.count; rows = rows }
