use Rattle.std.proofs.Common.{ℕ, take, drop, sym, ap, ◌∙◌}
use Rattle.bsp_model.proofs.stores_ref.StoresRef.stand_in.Goals as goal

pub returns : goal.returns
returns c =
    λ yes. c.source-mine.ensures.there
    ∙ ap (λ (n : ℕ). take n (drop c.source-mine.result.1 c.source-mine.result.0)) (sym c.len.ensures ∙ c.if-len-range.false)
    ∙ c.has_same_words.ensures.0 yes
