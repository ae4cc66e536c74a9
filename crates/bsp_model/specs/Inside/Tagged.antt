-- Words of which the first are a tag.
use Rattle.std.specs.Prelude.{ℕ, ◌≡◌, ◌≤◌, List, length, take, drop, ◌++◌}
use Rattle.std.proofs.Common.{ap, ◌∙◌}
use Rattle.std.proofs.lemmas.List.{take-append-drop, length-take-le}

-- the tag and what is behind it tell how long the tag was, and the words
pub tagged_again : {X : Type 0} (made : ℕ → List ℕ → X) (len : ℕ) (words : List ℕ) → len ≤ length words → made (length (take len words)) (take len words ++ drop len words) ≡ made len words
tagged_again made len words inside =
    ap (λ n. made n (take len words ++ drop len words)) (length-take-le len words inside)
    ∙ ap (made len) (take-append-drop len words)
