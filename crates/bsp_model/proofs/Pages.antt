-- The words of pages, each of 64 words, and the words behind them.
use Rattle.std.proofs.Common.{◌≡◌, ◌≤◌, ◌<◌, ℕ, zero, suc, ◌+◌, ◌*◌, ◌/◌, ◌%◌, ◌-◌, List, [], ◌∷◌, ◌++◌, length, get_or, take, drop, refl, sym, ap, ◌∙◌, arith, nat_lt, true, false}
use Rattle.std.specs.List.{slice_get}
use Rattle.std.specs.Prelude.{None, Some}
use Rattle.std.specs.Simd.{first_chunks}
use Rattle.std.proofs.Math.Seq.{get_or-append_seam}
use Rattle.std.proofs.lemmas.Bool.{cases_lt}
use Rattle.std.proofs.lemmas.Bool.Decides.{nat_tests}
use Rattle.std.proofs.lemmas.Option.{slice_get-get_or, slice_get_past}
use Rattle.std.proofs.lemmas.List.{get_or_append_left, get_or_default, get_or-take, get_or-drop, drop-drop, ext_get_or}
use Rattle.std.proofs.lemmas.List.FromFn.{length-map-range_with_len, get_or-map-range_with_len, fill_by_all}
use mathlib.Core.Logic.{inl, inr}
use Rattle.bsp_model.specs.Inside.Pages.{paged_word, word_in, words_of, HasPages}

pub length-words_of : (full : List (List ℕ)) (last : List ℕ) (len : ℕ) → length (words_of full last len) ≡ len
unfolding words_of
length-words_of full last len = length-map-range_with_len (word_in full last) 0 len

pub get_or-words_of : (full : List (List ℕ)) (last : List ℕ) (len i d : ℕ) → i < len → get_or (words_of full last len) i d ≡ word_in full last i
unfolding words_of
get_or-words_of full last len i d h = get_or-map-range_with_len (word_in full last) 0 len i i d h (omega arith)

-- these words are those of the memory, if each of them is
pub words_of-each : (full : List (List ℕ)) (last : List ℕ) (len : ℕ) (words : List ℕ) → length words ≡ len → ((i : ℕ) → i < len → word_in full last i ≡ get_or words i 0) → words_of full last len ≡ words
unfolding words_of
words_of-each full last len words e h = sym (fill_by_all (word_in full last) words len 0 e (λ k l. sym (h k l)))

pub words_len : (full : List (List ℕ)) (last : List ℕ) (len : ℕ) (words : List ℕ) → words_of full last len ≡ words → len ≡ length words
words_len full last len words e = sym (length-words_of full last len) ∙ ap length e

pub word_at : (full : List (List ℕ)) (last : List ℕ) (len i : ℕ) (words : List ℕ) → words_of full last len ≡ words → i < len → get_or words i 0 ≡ word_in full last i
word_at full last len i words e h = ap (λ (ws : List ℕ). get_or ws i 0) (sym e) ∙ get_or-words_of full last len i 0 h

pub paged_word_at : (pages : List (List ℕ)) (i q r : ℕ) → i ≡ 64 * q + r → r < 64 → paged_word pages i ≡ get_or (get_or pages q []) r 0
unfolding paged_word
paged_word_at pages i q r e h =
    let eq : i / 64 ≡ q = omega arith in
    let er : i % 64 ≡ r = omega arith in
    rw (eq, er) refl

pub parts : (i : ℕ) → i ≡ 64 * (i / 64) + i % 64
parts i = omega arith

pub place_below : (i : ℕ) → i % 64 < 64
place_below i = omega arith

-- a word of a full page, and one behind them

pub in_full : (full : List (List ℕ)) (last : List ℕ) (i : ℕ) → i < 64 * length full → word_in full last i ≡ paged_word full i
unfolding word_in
in_full full last i h = let yes : nat_lt i (64 * length full) ≡ true = grind (arith, nat_tests) in rw yes refl

pub in_last : (full : List (List ℕ)) (last : List ℕ) (i r : ℕ) → i ≡ 64 * length full + r → word_in full last i ≡ get_or last r 0
unfolding word_in
in_last full last i r e =
    let no : nat_lt i (64 * length full) ≡ false = grind (arith, nat_tests) in
    let at : i - 64 * length full ≡ r = omega arith in
    rw (no, at) refl

-- a page more

pub in_pages : (pages : List (List ℕ)) (page : List ℕ) (i : ℕ) → i < 64 * length pages → paged_word (pages ++ page ∷ []) i ≡ paged_word pages i
in_pages pages page i h =
    paged_word_at (pages ++ page ∷ []) i (i / 64) (i % 64) (parts i) (place_below i)
    ∙ ap (λ (page : List ℕ). get_or page (i % 64) 0) (get_or_append_left pages (page ∷ []) [] (i / 64) (omega arith))
    ∙ sym (paged_word_at pages i (i / 64) (i % 64) (parts i) (place_below i))

pub in_new_page : (pages : List (List ℕ)) (page : List ℕ) (i r : ℕ) → i ≡ 64 * length pages + r → r < 64 → paged_word (pages ++ page ∷ []) i ≡ get_or page r 0
in_new_page pages page i r e h =
    paged_word_at (pages ++ page ∷ []) i (length pages) r e h
    ∙ ap (λ (page : List ℕ). get_or page r 0) (get_or-append_seam pages page [] [])

-- a load

pub loaded_full : (full : List (List ℕ)) (page last words : List ℕ) (len a v : ℕ) → words_of full last len ≡ words → HasPages full last len → a / 64 < length full → page ≡ get_or full (a / 64) page → v ≡ get_or page (a % 64) 0 → Some v ≡ slice_get words a
loaded_full full page last words len a v e pages h here there =
    let count = pages.count in
    let w : get_or words a 0 ≡ v =
    word_at full last len a words e (omega arith)
    ∙ in_full full last a (omega arith)
    ∙ paged_word_at full a (a / 64) (a % 64) (parts a) (place_below a)
    ∙ ap (λ (ws : List ℕ). get_or ws (a % 64) 0) (sym (here ∙ get_or_default full (a / 64) page [] h))
    ∙ sym there in
    ap Some (sym w) ∙ sym (slice_get-get_or words a 0 (omega (arith, words_len full last len words e)))

pub loaded_last : (full : List (List ℕ)) (last words : List ℕ) (len a r : ℕ) → words_of full last len ≡ words → a ≡ 64 * length full + r → a < len → Some (get_or last r 0) ≡ slice_get words a
loaded_last full last words len a r e at within =
    let w : get_or words a 0 ≡ get_or last r 0 = word_at full last len a words e within ∙ in_last full last a r at in
    ap Some (sym w) ∙ sym (slice_get-get_or words a 0 (omega (arith, words_len full last len words e)))

pub loaded_past : (full : List (List ℕ)) (last words : List ℕ) (len a : ℕ) → words_of full last len ≡ words → len ≤ a → None ≡ slice_get words a
loaded_past full last words len a e h = sym (slice_get_past words a (omega (arith, words_len full last len words e)))

-- the pages of given words

chunk_at : (k q : ℕ) (words : List ℕ) → q < k → get_or (first_chunks 64 k words) q [] ≡ take 64 (drop (64 * q) words)
chunk_at zero q words h = absurd (omega arith)
chunk_at (suc k) zero words h = refl
chunk_at (suc k) (suc q) words h =
    let at : 64 + 64 * q ≡ 64 * suc q = omega arith in
    chunk_at k q (drop 64 words) (omega arith) ∙ ap (take 64) (drop-drop (64 * q) 64 words ∙ ap (λ (n : ℕ). drop n words) at)

length-first_chunks : (k : ℕ) (words : List ℕ) → length (first_chunks 64 k words) ≡ k
length-first_chunks zero words = refl
length-first_chunks (suc k) words = ap (λ (n : ℕ). suc n) (length-first_chunks k (drop 64 words))

pub words_of_chunks : (full : List (List ℕ)) (last words : List ℕ) → full ≡ first_chunks 64 (length words / 64) words → last ≡ drop (length words / 64 * 64) words → words_of full last (length words) ≡ words
words_of_chunks full last words full_is last_is =
    let k = length words / 64 in
    let count : length full ≡ k = ap length full_is ∙ length-first_chunks k words in
    words_of-each full last (length words) words refl
    (λ i h.
    elim (cases_lt i (64 * length full)) as (λ _. word_in full last i ≡ get_or words i 0) [
      | inl front ↦
          let at : 64 * (i / 64) + i % 64 ≡ i = omega arith in
          in_full full last i front
          ∙ paged_word_at full i (i / 64) (i % 64) (parts i) (place_below i)
          ∙ ap (λ (ps : List (List ℕ)). get_or (get_or ps (i / 64) []) (i % 64) 0) full_is
          ∙ ap (λ (p : List ℕ). get_or p (i % 64) 0) (chunk_at k (i / 64) words (omega arith))
          ∙ get_or-take 64 (drop (64 * (i / 64)) words) (i % 64) 0 (place_below i)
          ∙ get_or-drop (64 * (i / 64)) words (i % 64) 0
          ∙ ap (λ (j : ℕ). get_or words j 0) at
      | inr behind ↦
          let r = i - 64 * length full in
          let at : k * 64 + r ≡ i = omega arith in
          in_last full last i r (omega arith)
          ∙ ap (λ (p : List ℕ). get_or p r 0) last_is
          ∙ get_or-drop (k * 64) words r 0
          ∙ ap (λ (j : ℕ). get_or words j 0) at
    ])

-- these words, behind no page
pub words_behind : (full : List (List ℕ)) (last words : List ℕ) (len : ℕ) → full ≡ [] → len ≡ length words → last ≡ words → words_of full last len ≡ words
words_behind full last words len none long same =
    words_of-each full last len words (sym long)
    (λ i h. in_last full last i i (omega (arith, ap length none)) ∙ ap (λ (ws : List ℕ). get_or ws i 0) same)

-- a comparison

page_word : (pages : List (List ℕ)) (page : List ℕ) (k r : ℕ) → page ≡ get_or pages k page → k < length pages → r < 64 → paged_word pages (64 * k + r) ≡ get_or page r 0
page_word pages page k r e hk hr =
    paged_word_at pages (64 * k + r) k r refl hr ∙ ap (λ (ws : List ℕ). get_or ws r 0) (sym (e ∙ get_or_default pages k page [] hk))

pub same_more : (pages others : List (List ℕ)) (page other : List ℕ) (k : ℕ) → page ≡ get_or pages k page → other ≡ get_or others k other → k < length pages → k < length others → page ≡ other → ((i : ℕ) → i < 64 * k → paged_word pages i ≡ paged_word others i) → (i : ℕ) → i < 64 * (k + 1) → paged_word pages i ≡ paged_word others i
same_more pages others page other k page_is other_is hp ho alike before i h =
    elim (cases_lt i (64 * k)) as (λ _. paged_word pages i ≡ paged_word others i) [
      | inl low ↦ before i low
      | inr from ↦
          let r = i - 64 * k in
          let at : 64 * k + r ≡ i = omega arith in
          ap (paged_word pages) (sym at)
          ∙ page_word pages page k r page_is hp (omega arith)
          ∙ ap (λ (ws : List ℕ). get_or ws r 0) alike
          ∙ sym (page_word others other k r other_is ho (omega arith))
          ∙ ap (paged_word others) at
    ]

pub same_page : (pages others : List (List ℕ)) (page other : List ℕ) (k : ℕ) → page ≡ get_or pages k page → other ≡ get_or others k other → k < length pages → k < length others → length page ≡ 64 → length other ≡ 64 → ((i : ℕ) → i < 64 * length pages → paged_word pages i ≡ paged_word others i) → page ≡ other
same_page pages others page other k page_is other_is hp ho full_page full_other alike =
    ext_get_or 0 page other (full_page ∙ sym full_other)
    (λ r h.
    let hr : r < 64 = omega arith in
    sym (page_word pages page k r page_is hp hr) ∙ alike (64 * k + r) (omega arith) ∙ page_word others other k r other_is ho hr)

pub same_words : (full full' : List (List ℕ)) (last last' : List ℕ) (len : ℕ) → length full ≡ length full' → ((i : ℕ) → i < 64 * length full → paged_word full i ≡ paged_word full' i) → last ≡ last' → words_of full last len ≡ words_of full' last' len
same_words full full' last last' len count alike same =
    words_of-each full last len (words_of full' last' len) (length-words_of full' last' len)
    (λ i h.
    let there = sym (get_or-words_of full' last' len i 0 h) in
    elim (cases_lt i (64 * length full)) as (λ _. word_in full last i ≡ get_or (words_of full' last' len) i 0) [
      | inl front ↦ in_full full last i front ∙ alike i front ∙ sym (in_full full' last' i (omega arith)) ∙ there
      | inr behind ↦
          let r = i - 64 * length full in
          in_last full last i r (omega arith) ∙ ap (λ (p : List ℕ). get_or p r 0) same ∙ sym (in_last full' last' i r (omega arith)) ∙ there
    ])

-- the words at an address, where the words are the same
same_word : (full full' : List (List ℕ)) (last last' : List ℕ) (len i : ℕ) → words_of full last len ≡ words_of full' last' len → i < len → word_in full last i ≡ word_in full' last' i
same_word full full' last last' len i alike h =
    sym (get_or-words_of full last len i 0 h) ∙ ap (λ (ws : List ℕ). get_or ws i 0) alike ∙ get_or-words_of full' last' len i 0 h

pub same_full : (full full' : List (List ℕ)) (last last' : List ℕ) (len : ℕ) → length full ≡ length full' → HasPages full last len → words_of full last len ≡ words_of full' last' len → (i : ℕ) → i < 64 * length full → paged_word full i ≡ paged_word full' i
same_full full full' last last' len same pages alike i h =
    let count = pages.count in
    sym (in_full full last i h) ∙ same_word full full' last last' len i alike (omega arith) ∙ in_full full' last' i (omega arith)

pub same_last : (full full' : List (List ℕ)) (last last' : List ℕ) (len : ℕ) → length full ≡ length full' → HasPages full last len → HasPages full' last' len → words_of full last len ≡ words_of full' last' len → last ≡ last'
same_last full full' last last' len same pages pages' alike =
    let count = pages.count in
    let count' = pages'.count in
    ext_get_or 0 last last' (omega arith)
    (λ r h.
    let i = 64 * length full + r in
    sym (in_last full last i r refl) ∙ same_word full full' last last' len i alike (omega arith) ∙ in_last full' last' i r (omega arith))
