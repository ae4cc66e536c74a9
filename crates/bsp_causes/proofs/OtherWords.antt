-- Words of two memories that are others, page by page.
use Rattle.std.proofs.Common.{◌≡◌, ◌≤◌, ◌<◌, ◌+◌, ◌-◌, ◌%◌, ℕ, Bool, true, false, List, [], ◌∷◌, ◌++◌, filter, length, get_or, drop, min, ◌==◌, ◌&&◌, not, arith, refl, sym, ap, ◌∙◌, eq-eqb, append_assoc, length-take, length-drop}
use Rattle.std.specs.List.{range_with_len}
use Rattle.std.proofs.lemmas.List.{get_or-take, get_or-drop}
use Rattle.bsp_model.specs.Memory.{rest_of_page}
use Rattle.bsp_incr.proofs.Gathering.{filter_from}
use Rattle.bsp_causes.specs.TurnCauses.{is_other_word}
use Rattle.bsp_causes.specs.Inside.Words.{other_words_from}
use Rattle.bsp_causes.proofs.Filtered.{filter_range-append, passes_more, fails_more, none_passes}
use Rattle.bsp_step.proofs.WhereLookedAt.{length_page}

-- one word of a piece
abbrev pub is_other_at : (ℕ → Bool) → ℕ → List ℕ → List ℕ → ℕ → Bool
is_other_at looks first old new a = looks a && not (get_or old (a - first) 0 == get_or new (a - first) 0)

never_other : (b : Bool) (w : ℕ) → (b && not (w == w)) ≡ false
never_other true w = ap not (eq-eqb w w refl)
never_other false w = refl

-- in equal pieces there is none
pub none_other : (looks : ℕ → Bool) (first : ℕ) (old new : List ℕ) → old ≡ new → other_words_from looks first old new ≡ []
none_other looks first old new e =
    ap (other_words_from looks first old) (sym e)
    ∙ none_passes (is_other_at looks first old old) first (length old) (λ a low high. never_other (looks a) (get_or old (a - first) 0))

-- the test of one word, as it is made
test_at : (looks : ℕ → Bool) (first i word : ℕ) (old new : List ℕ) (is_other : Bool) → word ≡ get_or new i 0 → is_other ≡ (looks (first + i) && not (get_or old i 0 == word)) → is_other_at looks first old new (first + i) ≡ is_other
test_at looks first i word old new is_other e h =
    let back : first + i - first ≡ i = omega arith in
    ap (λ k. looks (first + i) && not (get_or old k 0 == get_or new k 0)) back ∙ ap (λ k. looks (first + i) && not (get_or old i 0 == k)) (sym e) ∙ sym h

-- one word more
pub other_more : (looks : ℕ → Bool) (first i word : ℕ) (old new xs ys : List ℕ) (is_other : Bool) → word ≡ get_or new i 0 → is_other ≡ (looks (first + i) && not (get_or old i 0 == word)) → is_other ≡ true
    → ys ≡ xs ++ filter (is_other_at looks first old new) (range_with_len first i) → ys ++ (first + i) ∷ [] ≡ xs ++ filter (is_other_at looks first old new) (range_with_len first (i + 1))
other_more looks first i word old new xs ys is_other e h holds so_far =
    let test = is_other_at looks first old new in
    let a = first + i in
    ap (λ zs. zs ++ a ∷ []) so_far ∙ append_assoc xs (filter test (range_with_len first i)) (a ∷ [])
    ∙ ap (λ zs. xs ++ zs) (sym (passes_more test first i a refl (test_at looks first i word old new is_other e h ∙ holds)))

pub same_more : (looks : ℕ → Bool) (first i word : ℕ) (old new xs ys : List ℕ) (is_other : Bool) → word ≡ get_or new i 0 → is_other ≡ (looks (first + i) && not (get_or old i 0 == word)) → is_other ≡ false
    → ys ≡ xs ++ filter (is_other_at looks first old new) (range_with_len first i) → ys ≡ xs ++ filter (is_other_at looks first old new) (range_with_len first (i + 1))
same_more looks first i word old new xs ys is_other e h fails so_far =
    so_far ∙ ap (λ zs. xs ++ zs) (sym (fails_more (is_other_at looks first old new) first i (first + i) refl (test_at looks first i word old new is_other e h ∙ fails)))

-- a word of the page that an address is in
word_of_page : (m rest : List ℕ) (a i : ℕ) → rest ≡ rest_of_page m a → i < 64 - a % 64 → get_or rest i 0 ≡ get_or m (a + i) 0
word_of_page m rest a i e l = ap (λ (ws : List ℕ). get_or ws i 0) e ∙ get_or-take (64 - a % 64) (drop a m) i 0 l ∙ get_or-drop a m i 0

other_there : (looks : ℕ → Bool) (old new before after : List ℕ) (a k : ℕ) → before ≡ rest_of_page old a → after ≡ rest_of_page new a → a ≤ k → k < a + length before
    → is_other_at looks a before after k ≡ is_other_word looks old new k
other_there looks old new before after a k e f low high =
    let long = length_page old before a e in
    let inside : k - a < 64 - a % 64 = omega arith in
    let at : a + (k - a) ≡ k = omega arith in
    let first = word_of_page old before a (k - a) e inside ∙ ap (λ j. get_or old j 0) at in
    let second = word_of_page new after a (k - a) f inside ∙ ap (λ j. get_or new j 0) at in
    λ i. looks k && not (first i == second i)

-- the words of one page more
pub page_more : (looks : ℕ → Bool) (old new before after xs ys zs : List ℕ) (a next : ℕ) → before ≡ rest_of_page old a → after ≡ rest_of_page new a → a + length before ≡ next
    → ys ≡ xs ++ filter (is_other_word looks old new) (range_with_len 0 a) → zs ≡ ys ++ other_words_from looks a before after → zs ≡ xs ++ filter (is_other_word looks old new) (range_with_len 0 next)
page_more looks old new before after xs ys zs a next e f at so_far page =
    let test = is_other_word looks old new in
    let n = length before in
    let from : 0 + a ≡ a = omega arith in
    let same : other_words_from looks a before after ≡ filter test (range_with_len a n) =
    filter_from (is_other_at looks a before after) test a n (λ k low high. other_there looks old new before after a k e f (omega arith) high) in
    page ∙ (λ i. so_far i ++ same i) ∙ append_assoc xs (filter test (range_with_len 0 a)) (filter test (range_with_len a n))
    ∙ ap (λ ws. xs ++ ws) (ap (λ k. filter test (range_with_len 0 a) ++ filter test (range_with_len k n)) (sym from) ∙ sym (filter_range-append test 0 a n) ∙ ap (λ k. filter test (range_with_len 0 k)) at)
