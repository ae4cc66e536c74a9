-- What has changed, and what was there before, give what is there now.
use Rattle.std.proofs.Common.{◌≡◌, ◌<◌, ℕ, suc, ◌+◌, ◌==◌, ◌&&◌, Bool, true, false, cond, List, [], ◌∷◌, ◌++◌, drop, length, codes, nat_eq, Option, None, Some, refl, sym, ap, ◌∙◌, arith}
use Rattle.std.specs.Bool.{Decides}
use Rattle.std.proofs.lemmas.Bool.Decides.{Decides-eqb, Decides-and, Decides-like, nat_tests}
use Rattle.bsp_model.specs.declared.cost.CostRow.{CostRow}
use Rattle.bsp_run.specs.declared.result.RunResult.{RunResult}
use Rattle.bsp_deliver.proofs.SameDelivery.{Decides-pointwise, Decides-words}
use Rattle.bsp_engine.specs.Changes.{changes_of, changes_lines, count_line, other_lines, other_number, others, piece_if, same_lines, same_row}
use Rattle.bsp_model.specs.Same.{same_words}
use Rattle.bsp_text.specs.Lines.{line, numbered}
use Rattle.bsp_engine.specs.Text.{cost_line, memory_line, status_lines}
use Rattle.bsp_engine.specs.Whole.{ChangesTellTheRest, count_with, first_of, items_with, numbers_of, pieces, told_lines, told_of, whole_of}

pub Decides-lines : (ls ks : List (List ℕ)) → Decides (same_lines ls ks) (ls ≡ ks)
Decides-lines ls ks = Decides-pointwise Decides-words ls ks

pub Decides-row : (a b : CostRow) → Decides (same_row a b) (a ≡ b)
Decides-row a b =
    Decides-like (same_row a b)
    (λ (e : ((a.work ≡ b.work) × (a.h ≡ b.h)) × (a.cost ≡ b.cost)). λ k. record { work = e.0.0 k; h = e.0.1 k; cost = e.1 k })
    (λ (e : a ≡ b). ((ap (λ (r : CostRow). r.work) e, ap (λ (r : CostRow). r.h) e), ap (λ (r : CostRow). r.cost) e))
    (Decides-and ((a.work == b.work) && (a.h == b.h)) (a.cost == b.cost)
    (Decides-and (a.work == b.work) (a.h == b.h) (Decides-eqb a.work b.work) (Decides-eqb a.h b.h)) (Decides-eqb a.cost b.cost))

-- each item that has changed; where none has, the item of the list before
abbrev with_others : {A : Type 0} → List A → List (Option A) → List A
with_others olds [] = []
with_others olds (Some new ∷ later) = new ∷ with_others (drop 1 olds) later
with_others [] (None ∷ later) = with_others [] later
with_others (old ∷ olds) (None ∷ later) = old ∷ with_others olds later

module _ {A : Type 0} (same : A → A → Bool) (decides : (x y : A) → Decides (same x y) (x ≡ y)) where
  one_whole : (x y : A) (olds : List A) (later : List (Option A)) (b : Bool) → same x y ≡ b → with_others (x ∷ olds) (cond b None (Some y) ∷ later) ≡ y ∷ with_others olds later
  one_whole x y olds later true e = ap (λ z. z ∷ with_others olds later) ((decides x y).0 e)
  one_whole x y olds later false e = refl

  whole_again : (olds news : List A) → with_others olds (others same olds news) ≡ news
  whole_again olds [] = refl
  whole_again [] (y ∷ news) = ap (λ l. y ∷ l) (whole_again [] news)
  whole_again (x ∷ olds) (y ∷ news) = one_whole x y olds (others same olds news) (same x y) refl ∙ ap (λ l. y ∷ l) (whole_again olds news)

  count_others : (olds news : List A) → length (others same olds news) ≡ length news
  count_others olds [] = refl
  count_others olds (y ∷ news) = ap suc (count_others (drop 1 olds) news)

-- an item that is not told
skipped : {A : Type 0} (count n m : ℕ) (olds : List A) (c : List (Option A)) → n < m → items_with (suc count) n olds (numbers_of m c) ≡ first_of olds ++ items_with count (n + 1) (drop 1 olds) (numbers_of m c)
skipped count n m olds [] h = refl
skipped count n m olds (None ∷ c) h = skipped count n (m + 1) olds c (omega arith)
skipped count n m olds (Some x ∷ c) h =
    let other : (m == n) ≡ false = grind (arith, nat_tests) in
    ap (λ (b : Bool). cond b (x ∷ items_with count (n + 1) (drop 1 olds) (numbers_of (m + 1) c)) (first_of olds ++ items_with count (n + 1) (drop 1 olds) ((m, x) ∷ numbers_of (m + 1) c))) other

told_again : {A : Type 0} (n : ℕ) (olds : List A) (c : List (Option A)) → items_with (length c) n olds (numbers_of n c) ≡ with_others olds c
told_again n olds [] = refl
told_again n olds (Some x ∷ c) =
    let here : (n == n) ≡ true = grind (arith, nat_tests) in
    ap (λ (b : Bool). cond b (x ∷ items_with (length c) (n + 1) (drop 1 olds) (numbers_of (n + 1) c)) (first_of olds ++ items_with (length c) (n + 1) (drop 1 olds) ((n, x) ∷ numbers_of (n + 1) c))) here
    ∙ ap (λ l. x ∷ l) (told_again (n + 1) (drop 1 olds) c)
told_again n [] (None ∷ c) = skipped (length c) n (n + 1) [] c (omega arith) ∙ told_again (n + 1) [] c
told_again n (old ∷ olds) (None ∷ c) = skipped (length c) n (n + 1) (old ∷ olds) c (omega arith) ∙ ap (λ l. old ∷ l) (told_again (n + 1) olds c)

pub whole_items : {A : Type 0} (same : A → A → Bool) → ((x y : A) → Decides (same x y) (x ≡ y)) → (olds news : List A) (count : ℕ) → count ≡ length news → items_with count 0 olds (numbers_of 0 (others same olds news)) ≡ news
whole_items same decides olds news count is =
    ap (λ (k : ℕ). items_with k 0 olds (numbers_of 0 (others same olds news))) (is ∙ sym (count_others same decides olds news))
    ∙ (told_again 0 olds (others same olds news) ∙ whole_again same decides olds news)

-- the lines are those of the items
numbered_told : {A : Type 0} (piece : ℕ → A → List ℕ) (n : ℕ) (c : List (Option A)) → numbered (piece_if piece) n c ≡ pieces piece (numbers_of n c)
numbered_told piece n [] = refl
numbered_told piece n (None ∷ c) = numbered_told piece (n + 1) c
numbered_told piece n (Some x ∷ c) = ap (λ l. piece n x ++ l) (numbered_told piece (n + 1) c)

pub counted : (old new : ℕ) → count_with old (other_number old new) ≡ new
counted old new =
    elim (nat_eq old new) as (λ b. nat_eq old new ≡ b → count_with old (cond b None (Some new)) ≡ new) [
      | true ↦ λ e. (Decides-eqb old new).0 e
      | false ↦ λ e. refl
    ] refl

said : (old new : RunResult) → changes_lines (changes_of old new) ≡ told_lines (told_of (changes_of old new))
said old new =
    let c = changes_of old new in
    λ k. status_lines c.status ++ numbered_told memory_line 0 c.memories k ++ numbered_told other_lines 0 c.lines k
    ++ numbered_told cost_line 0 c.costs k ++ count_line c.supersteps ++ line (codes "total") (c.total ∷ [])

given : (old new : RunResult) → length old.memories ≡ length new.memories → length old.lines ≡ length new.lines → whole_of old (told_of (changes_of old new)) ≡ new
given old new processes printing =
    λ k. record {
      status = new.status;
      memories = whole_items same_words Decides-words old.memories new.memories (length old.memories) processes k;
      lines = whole_items same_lines Decides-lines old.lines new.lines (length old.lines) printing k;
      costs = whole_items same_row Decides-row old.costs new.costs (count_with (length old.costs) (other_number (length old.costs) (length new.costs))) (counted (length old.costs) (length new.costs)) k;
      total = new.total;
    }

pub changes_tell_the_rest : ChangesTellTheRest
changes_tell_the_rest old new processes printing = record { say = said old new; give = given old new processes printing }
