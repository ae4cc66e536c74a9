-- What of a list is another than in the list before, place by place.
use Rattle.std.proofs.Common.{◌≡◌, ℕ, suc, ◌+◌, ◌<◌, Bool, true, false, cond, List, [], ◌∷◌, ◌++◌, length, take, get_or, slice_get, Option, None, Some, append_assoc, refl, sym, ap, ◌∙◌, arith, inl, inr}
use Rattle.std.specs.Bool.{Decides}
use Rattle.std.proofs.lemmas.List.{append-nil, length-take-le, take_all, take_more}
use Rattle.std.proofs.lemmas.Option.{slice_get_cases}
use Rattle.bsp_engine.specs.Changes.{other, others, piece_if}
use Rattle.bsp_text.specs.Lines.{numbered}
use Rattle.bsp_engine.specs.Inside.Touched.{piece_of, piece_there}
use Rattle.bsp_text.proofs.Numbering.{numbered-snoc}

-- one item, where a test tells whether it is the same
pub other_same : {A : Type 0} (same : A → A → Bool) (old new : A) → Decides (same old new) (old ≡ new) → old ≡ new → None ≡ other same (Some old) new
other_same same old new d e = sym (ap (λ b. cond b None (Some new)) (d.1 e))

pub other_another : {A : Type 0} (same : A → A → Bool) (old new : A) → Decides (same old new) (old ≡ new) → (old ≡ new → ⊥) → Some new ≡ other same (Some old) new
other_another same old new d differ =
    elim (same old new) as (λ b. same old new ≡ b → Some new ≡ cond b None (Some new)) [ true ↦ λ e. absurd (differ (d.0 e)) | false ↦ λ e. refl ] refl

module _ {A : Type 0} (same : A → A → Bool) where
  -- one item more
  others-snoc : (olds news : List A) (x : A) → others same olds (news ++ x ∷ []) ≡ others same olds news ++ other same (slice_get olds (length news)) x ∷ []
  others-snoc olds [] x = refl
  others-snoc [] (y ∷ news) x = ap (λ l. other same None y ∷ l) (others-snoc [] news x)
  others-snoc (o ∷ olds) (y ∷ news) x = ap (λ l. other same (Some o) y ∷ l) (others-snoc olds news x)

  length-others : (olds news : List A) → length (others same olds news) ≡ length news
  length-others olds [] = refl
  length-others [] (y ∷ news) = ap suc (length-others [] news)
  length-others (o ∷ olds) (y ∷ news) = ap suc (length-others olds news)

module _ {A : Type 0} (piece : ℕ → A → List ℕ) (same : A → A → Bool) where
  -- the pieces for the items so far
  abbrev pieces : List A → List A → ℕ → List ℕ
  pieces olds news i = numbered (piece_if piece) 0 (others same olds (take i news))

  -- the text of the items so far, and then of one more
  pub others_told : (text old new : List ℕ) (olds news : List A) (i : ℕ) (x : A) → i < length news → x ≡ get_or news i x → old ≡ text ++ pieces olds news i → new ≡ old ++ piece_if piece i (other same (slice_get olds i) x) → new ≡ text ++ pieces olds news (i + 1)
  others_told text old new olds news i x l is so_far more =
      let count : length (take i news) ≡ i = omega (arith, length-take-le i news (omega arith)) in
      let all : 0 + length (others same olds (take i news)) ≡ i = omega (arith, length-others same olds (take i news), count) in
      let item = other same (slice_get olds i) x in
      let next : pieces olds news (i + 1) ≡ pieces olds news i ++ piece_if piece i item =
      ap (λ xs. numbered (piece_if piece) 0 (others same olds xs)) (take_more news i x l ∙ ap (λ y. take i news ++ y ∷ []) (sym is))
      ∙ ap (numbered (piece_if piece) 0) (others-snoc same olds (take i news) x ∙ ap (λ (k : ℕ). others same olds (take i news) ++ other same (slice_get olds k) x ∷ []) count)
      ∙ numbered-snoc (piece_if piece) 0 (others same olds (take i news)) item
      ∙ ap (λ (k : ℕ). pieces olds news i ++ piece_if piece k item) all in
      more ∙ ap (λ t. t ++ piece_if piece i item) so_far ∙ append_assoc text (pieces olds news i) (piece_if piece i item) ∙ ap (λ t. text ++ t) (sym next)

  -- where there was nothing before, all is told
  pub all_told : (n : ℕ) (news : List A) → numbered (piece_if piece) n (others same [] news) ≡ numbered piece n news
  all_told n [] = refl
  all_told n (x ∷ news) = ap (λ l. piece n x ++ l) (all_told (n + 1) news)

  -- nothing is told where there is the same, or nothing
  same_untold : ((x y : A) → Decides (same x y) (x ≡ y)) → (p : ℕ) (o : Option A) → piece_of piece same p o o ≡ []
  same_untold d p None = refl
  same_untold d p (Some x) = ap (piece_if piece p) (sym (other_same same x x (d x x) refl))

module _ {A : Type 0} (piece : ℕ → A → List ℕ) (same : A → A → Bool) (d : (x y : A) → Decides (same x y) (x ≡ y)) where
  pub untold : (text : List ℕ) (olds news : List A) (p : ℕ) → slice_get olds p ≡ slice_get news p → text ≡ text ++ piece_there piece same olds news p
  untold text olds news p e =
      sym (ap (λ t. text ++ t) (ap (λ o. piece_of piece same p o (slice_get news p)) e ∙ same_untold piece same d p (slice_get news p)) ∙ append-nil text)

  pub untold_item : (text : List ℕ) (p : ℕ) (old new : A) → old ≡ new → text ≡ text ++ piece_if piece p (other same (Some old) new)
  untold_item text p old new e = sym (ap (λ o. text ++ piece_if piece p o) (sym (other_same same old new (d old new) e)) ∙ append-nil text)

-- one place more
pub tell_more : {A : Type 0} (piece : ℕ → A → List ℕ) (same : A → A → Bool) (olds news : List A) (k : ℕ) (first text next : List ℕ) → k < length news
    → text ≡ first ++ numbered (piece_if piece) 0 (others same olds (take k news)) → next ≡ text ++ piece_there piece same olds news k → next ≡ first ++ numbered (piece_if piece) 0 (others same olds (take (k + 1) news))
tell_more piece same olds news k first text next l h t =
    elim (slice_get_cases news k).1 [
      | inl w ↦ others_told piece same first text next olds news k w.0 l (sym w.3) h (t ∙ ap (λ o. text ++ piece_of piece same k (slice_get olds k) o) w.2)
      | inr w ↦ absurd (omega (arith, w.0, l))
    ]
