-- Writes of several words to pages, each of 64 words, and to the words behind them.
use Rattle.std.proofs.Common.{◌≡◌, ◌≤◌, ◌<◌, ℕ, ◌+◌, ◌*◌, ◌/◌, ◌%◌, ◌-◌, List, [], ◌∷◌, ◌++◌, length, get_or, take, drop, refl, sym, ap, ◌∙◌, arith, rules, min, nat_le, true, false}
use Rattle.std.specs.Prelude.{slice_set}
use Rattle.std.proofs.Math.ListN.{set}
use Rattle.std.proofs.lemmas.Bool.{cases_eq, cases_lt}
use Rattle.std.proofs.lemmas.Bool.Decides.{nat_tests}
use Rattle.std.proofs.lemmas.List.{get_or-set_same, get_or-set_other, get_or_append_left, get_or_default, get_or-take, get_or-drop, get_or-append_right, length-append, length-drop, length-take-le, places}
use borrow.Rule.Slice.PartMut.{put_mid}
use mathlib.Core.Logic.{inl, inr}
use Rattle.bsp_model.specs.Memory.{memory_written}
use Rattle.bsp_model.specs.Inside.Cut.{IsCut}
use Rattle.bsp_model.specs.declared.paging.Cut.{Cut}
use Rattle.bsp_model.specs.Inside.Pages.{paged_word, word_in, words_of, HasPages, word_after, AreWritten}
use Rattle.bsp_model.proofs.Pages.{words_of-each, words_len, word_at, paged_word_at, parts, place_below, in_full, in_last, in_pages, in_new_page}

-- which word stands at an address

word_inside : (word : ℕ → ℕ) (start i : ℕ) (words : List ℕ) → start ≤ i → i < start + length words → word_after word start words i ≡ get_or words (i - start) 0
word_inside word start i words l h = grind (arith, nat_tests)

word_before : (word : ℕ → ℕ) (start i : ℕ) (words : List ℕ) → i < start → word_after word start words i ≡ word i
word_before word start i words h = grind (arith, nat_tests)

word_behind : (word : ℕ → ℕ) (start i : ℕ) (words : List ℕ) → start + length words ≤ i → word_after word start words i ≡ word i
word_behind word start i words h = grind (arith, nat_tests)

-- the write at another place, where both words are the same
word_moved : (word word' : ℕ → ℕ) (start start' i i' : ℕ) (words : List ℕ) → start + i' ≡ start' + i → word i ≡ word' i' → word_after word start words i ≡ word_after word' start' words i'
word_moved word word' start start' i i' words e h =
    elim (cases_lt i start) as (λ _. word_after word start words i ≡ word_after word' start' words i') [
      | inl low ↦ word_before word start i words low ∙ h ∙ sym (word_before word' start' i' words (omega arith))
      | inr high ↦
          elim (cases_lt i (start + length words)) as (λ _. word_after word start words i ≡ word_after word' start' words i') [
            | inl within ↦
                let same : i - start ≡ i' - start' = omega arith in
                word_inside word start i words high within ∙ ap (λ (j : ℕ). get_or words j 0) same ∙ sym (word_inside word' start' i' words (omega arith) (omega arith))
            | inr behind ↦ word_behind word start i words behind ∙ h ∙ sym (word_behind word' start' i' words (omega arith))
          ]
    ]

-- a list whose words from start on are replaced
replaced : (old words : List ℕ) (start i : ℕ) → start + length words ≤ length old → get_or (take start old ++ words ++ drop (start + length words) old) i 0 ≡ word_after (λ j. get_or old j 0) start words i
replaced old words start i h =
    let front : length (take start old) ≡ start = length-take-le start old (omega arith) in
    let both : length (take start old ++ words) ≡ start + length words = omega (arith, length-append (take start old) words) in
    elim (cases_lt i start) as (λ _. get_or (take start old ++ words ++ drop (start + length words) old) i 0 ≡ word_after (λ j. get_or old j 0) start words i) [
      | inl low ↦
          get_or_append_left (take start old ++ words) _ 0 i (omega arith)
          ∙ get_or_append_left (take start old) words 0 i (omega arith)
          ∙ get_or-take start old i 0 low
          ∙ sym (word_before (λ j. get_or old j 0) start i words low)
      | inr from ↦
          elim (cases_lt i (start + length words)) as (λ _. get_or (take start old ++ words ++ drop (start + length words) old) i 0 ≡ word_after (λ j. get_or old j 0) start words i) [
            | inl within ↦
                get_or_append_left (take start old ++ words) _ 0 i (omega arith)
                ∙ get_or-append_right (take start old) words start i 0 front from
                ∙ sym (word_inside (λ j. get_or old j 0) start i words from within)
            | inr behind ↦
                let at : start + length words + (i - (start + length words)) ≡ i = omega arith in
                get_or-append_right (take start old ++ words) (drop (start + length words) old) (start + length words) i 0 both behind
                ∙ get_or-drop (start + length words) old (i - (start + length words)) 0
                ∙ ap (λ (j : ℕ). get_or old j 0) at
                ∙ sym (word_behind (λ j. get_or old j 0) start i words behind)
          ]
    ]

-- one page is replaced
pub one_page : (pages : List (List ℕ)) (page page' words : List ℕ) (start q r i : ℕ) → start ≡ 64 * q + r → r + length words ≤ 64 → q < length pages → page ≡ get_or pages q page → length page ≡ 64 → page' ≡ take r page ++ words ++ drop (r + length words) page → paged_word (slice_set pages q page') i ≡ word_after (paged_word pages) start words i
one_page pages page page' words start q r i e hr hq page_is full page'_is =
    let p = i % 64 in
    let here : paged_word (set pages q page') i ≡ get_or (get_or (set pages q page') (i / 64) []) p 0 = paged_word_at (set pages q page') i (i / 64) p (parts i) (place_below i) in
    elim (cases_eq (i / 64) q) as (λ _. paged_word (set pages q page') i ≡ word_after (paged_word pages) start words i) [
      | inl near ↦
          let old : get_or pages q [] ≡ page = sym (page_is ∙ get_or_default pages q page [] hq) in
          here
          ∙ ap (λ (n : ℕ). get_or (get_or (set pages q page') n []) p 0) near
          ∙ ap (λ (ws : List ℕ). get_or ws p 0) (get_or-set_same pages q page' [] hq ∙ page'_is)
          ∙ replaced page words r p (omega arith)
          ∙ word_moved (λ j. get_or page j 0) (paged_word pages) r start p i words (omega (arith, parts i))
          (sym (paged_word_at pages i q p (omega (arith, parts i)) (place_below i) ∙ ap (λ (ws : List ℕ). get_or ws p 0) old))
      | inr far ↦
          here
          ∙ ap (λ (ws : List ℕ). get_or ws p 0) (get_or-set_other pages q (i / 64) page' [] far)
          ∙ sym (paged_word_at pages i (i / 64) p (parts i) (place_below i))
          ∙ elim (cases_lt i start) as (λ _. paged_word pages i ≡ word_after (paged_word pages) start words i) [
            | inl low ↦ sym (word_before (paged_word pages) start i words low)
            | inr high ↦ sym (word_behind (paged_word pages) start i words (omega (arith, parts i, place_below i, far)))
          ]
    ]

pub no_words : (word : ℕ → ℕ) (start i : ℕ) (words : List ℕ) → length words ≡ 0 → word i ≡ word_after word start words i
no_words word start i words none =
    elim (cases_lt i start) as (λ _. word i ≡ word_after word start words i) [
      | inl low ↦ sym (word_before word start i words low)
      | inr high ↦ sym (word_behind word start i words (omega arith))
    ]

-- new pages

-- The next new page: `here` of the words, those after the first `before`, go to the page from `place` on.
pub new_page_more : (pages new : List (List ℕ)) (page page' words part : List ℕ) (first start k before place here n : ℕ) → length new ≡ k → start < 64 → before ≡ 64 * k - start → place ≡ start - 64 * k → here ≡ min (length words - before) (64 - place) → before ≤ length words → first + k < length pages → page ≡ get_or pages (first + k) page → length page ≡ 64 → n ≡ here → part ≡ take n (drop before words) → page' ≡ take place page ++ part ++ drop (place + length part) page → ((i : ℕ) → i < 64 * k → paged_word new i ≡ word_after (λ j. paged_word pages (64 * first + j)) start words i) → (i : ℕ) → i < 64 * (k + 1) → paged_word (new ++ page' ∷ []) i ≡ word_after (λ j. paged_word pages (64 * first + j)) start words i
new_page_more pages new page page' words part first start k before place here n count small before_is place_is here_is hb hp page_is full n_is part_is page'_is old i hi =
    let word = λ (j : ℕ). paged_word pages (64 * first + j) in
    elim (cases_lt i (64 * k)) as (λ _. paged_word (new ++ page' ∷ []) i ≡ word_after word start words i) [
      | inl low ↦ in_pages new page' i (omega arith) ∙ old i low
      | inr from ↦
          let r : ℕ = i - 64 * k in
          let hr : r < 64 = omega arith in
          let long : length part ≡ here = ap length part_is ∙ length-take-le n (drop before words) (omega (arith, length-drop before words)) ∙ n_is in
          let p : get_or pages (first + k) [] ≡ page = sym (page_is ∙ get_or_default pages (first + k) page [] hp) in
          let unchanged : word i ≡ get_or page r 0 = paged_word_at pages (64 * first + i) (first + k) r (omega arith) hr ∙ ap (λ (ws : List ℕ). get_or ws r 0) p in
          let now : paged_word (new ++ page' ∷ []) i ≡ word_after (λ j. get_or page j 0) place part r =
          in_new_page new page' i r (omega arith) hr ∙ ap (λ (ws : List ℕ). get_or ws r 0) page'_is ∙ replaced page part place r (omega arith) in
          now ∙ elim (cases_lt i start) as (λ _. word_after (λ j. get_or page j 0) place part r ≡ word_after word start words i) [
            | inl low ↦ word_before (λ j. get_or page j 0) place r part (omega arith) ∙ sym unchanged ∙ sym (word_before word start i words low)
            | inr high ↦ elim (cases_lt i (start + length words)) as (λ _. word_after (λ j. get_or page j 0) place part r ≡ word_after word start words i) [
              | inl within ↦
                  let at : before + (r - place) ≡ i - start = omega arith in
                  word_inside (λ j. get_or page j 0) place r part (omega arith) (omega arith)
                  ∙ ap (λ (ws : List ℕ). get_or ws (r - place) 0) part_is
                  ∙ get_or-take n (drop before words) (r - place) 0 (omega arith)
                  ∙ get_or-drop before words (r - place) 0
                  ∙ ap (λ (j : ℕ). get_or words j 0) at
                  ∙ sym (word_inside word start i words high within)
              | inr behind ↦ word_behind (λ j. get_or page j 0) place r part (omega arith) ∙ sym unchanged ∙ sym (word_behind word start i words behind)
            ]
          ]
    ]

same_page : (pages all : List (List ℕ)) (i : ℕ) → get_or all (i / 64) [] ≡ get_or pages (i / 64) [] → paged_word all i ≡ paged_word pages i
unfolding paged_word
same_page pages all i h = ap (λ (ws : List ℕ). get_or ws (i % 64) 0) h

-- several pages are replaced by new ones
many_pages : (pages new all : List (List ℕ)) (words : List ℕ) (start first place count i : ℕ) → start ≡ 64 * first + place → place < 64 → place + length words ≤ 64 * count → ((j : ℕ) → j < 64 * count → paged_word new j ≡ word_after (λ j. paged_word pages (64 * first + j)) place words j) → ((q : ℕ) → q < count → get_or all (first + q) [] ≡ get_or new q []) → ((q : ℕ) → q < first → get_or all q [] ≡ get_or pages q []) → ((q : ℕ) → first + count ≤ q → get_or all q [] ≡ get_or pages q []) → paged_word all i ≡ word_after (paged_word pages) start words i
many_pages pages new all words start first place count i e small fits changed inside low high =
    elim (cases_lt (i / 64) first) as (λ _. paged_word all i ≡ word_after (paged_word pages) start words i) [
      | inl front ↦ same_page pages all i (low (i / 64) front) ∙ sym (word_before (paged_word pages) start i words (omega (arith, parts i)))
      | inr from ↦
          elim (cases_lt (i / 64) (first + count)) as (λ _. paged_word all i ≡ word_after (paged_word pages) start words i) [
            | inl within ↦
                let q : ℕ = i / 64 - first in
                let j : ℕ = i - 64 * first in
                let number : first + q ≡ i / 64 = omega arith in
                let whole : 64 * first + j ≡ i = omega (arith, parts i) in
                let page : get_or all (i / 64) [] ≡ get_or new q [] = ap (λ (n : ℕ). get_or all n []) (sym number) ∙ inside q (omega arith) in
                paged_word_at all i (i / 64) (i % 64) (parts i) (place_below i)
                ∙ ap (λ (ws : List ℕ). get_or ws (i % 64) 0) page
                ∙ sym (paged_word_at new j q (i % 64) (omega (arith, parts i)) (place_below i))
                ∙ changed j (omega (arith, parts i))
                ∙ word_moved (λ j. paged_word pages (64 * first + j)) (paged_word pages) place start j i words (omega arith) (ap (paged_word pages) whole)
            | inr behind ↦ same_page pages all i (high (i / 64) behind) ∙ sym (word_behind (paged_word pages) start i words (omega (arith, parts i)))
          ]
    ]

put_mid_inside : (pages new : List (List ℕ)) (first k q : ℕ) → first + k ≤ length pages → length new ≡ k → q < k → get_or (put_mid first k pages new) (first + q) [] ≡ get_or new q []
put_mid_inside pages new first k q h e l = search (rules, places)

put_mid_low : (pages new : List (List ℕ)) (first k q : ℕ) → first + k ≤ length pages → length new ≡ k → q < first → get_or (put_mid first k pages new) q [] ≡ get_or pages q []
put_mid_low pages new first k q h e l = search (rules, places)

put_mid_high : (pages new : List (List ℕ)) (first k q : ℕ) → first + k ≤ length pages → length new ≡ k → first + k ≤ q → get_or (put_mid first k pages new) q [] ≡ get_or pages q []
put_mid_high pages new first k q h e l = search (rules, places)

pub pages_replaced : (pages new swapped : List (List ℕ)) (words : List ℕ) (start first place count n : ℕ) → start ≡ 64 * first + place → place < 64 → place + length words ≤ 64 * count → first + count ≤ length pages → length new ≡ count → n ≡ count → swapped ≡ new → ((j : ℕ) → j < 64 * count → paged_word new j ≡ word_after (λ j. paged_word pages (64 * first + j)) place words j) → (i : ℕ) → paged_word (put_mid first n pages swapped) i ≡ word_after (paged_word pages) start words i
pages_replaced pages new swapped words start first place count n e small fits inside len n_is swapped_is changed i =
    rw (n_is, swapped_is)
    (many_pages pages new (put_mid first count pages new) words start first place count i e small fits changed
    (λ q l. put_mid_inside pages new first count q inside len l)
    (λ q l. put_mid_low pages new first count q inside len l)
    (λ q l. put_mid_high pages new first count q inside len l))

-- a whole write: `front` goes to the full pages, `behind` to the last

-- a word of a full page
front_word : (full full' : List (List ℕ)) (last last' words front : List ℕ) (start n i : ℕ) → length full' ≡ length full → n ≡ min (length words) (64 * length full - start) → front ≡ take n words → paged_word full' i ≡ word_after (paged_word full) (min start (64 * length full)) front i → i < 64 * length full → word_in full' last' i ≡ word_after (word_in full last) start words i
front_word full full' last last' words front start n i count n_is front_is changed h =
    let long : length front ≡ n = ap length front_is ∙ length-take-le n words (omega arith) in
    let at = min start (64 * length full) in
    let old = in_full full last i h in
    in_full full' last' i (omega arith) ∙ changed
    ∙ elim (cases_lt i start) as (λ _. word_after (paged_word full) at front i ≡ word_after (word_in full last) start words i) [
      | inl low ↦ word_before (paged_word full) at i front (omega arith) ∙ sym old ∙ sym (word_before (word_in full last) start i words low)
      | inr high ↦
          elim (cases_lt i (start + length words)) as (λ _. word_after (paged_word full) at front i ≡ word_after (word_in full last) start words i) [
            | inl within ↦
                let same : i - at ≡ i - start = omega arith in
                word_inside (paged_word full) at i front (omega arith) (omega arith)
                ∙ ap (λ (ws : List ℕ). get_or ws (i - at) 0) front_is
                ∙ get_or-take n words (i - at) 0 (omega arith)
                ∙ ap (λ (j : ℕ). get_or words j 0) same
                ∙ sym (word_inside (word_in full last) start i words high within)
            | inr past ↦ word_behind (paged_word full) at i front (omega arith) ∙ sym old ∙ sym (word_behind (word_in full last) start i words past)
          ]
    ]

-- a word of the last page
last_word : (full full' : List (List ℕ)) (last last' words behind : List ℕ) (start n place i : ℕ) → length full' ≡ length full → n ≡ min (length words) (64 * length full - start) → behind ≡ drop n words → place ≡ start + n - 64 * length full → place + length behind ≤ length last → last' ≡ take place last ++ behind ++ drop (place + length behind) last → 64 * length full ≤ i → i < 64 * length full + length last → word_in full' last' i ≡ word_after (word_in full last) start words i
last_word full full' last last' words behind start n place i count n_is behind_is place_is inside last'_is from h =
    let r = i - 64 * length full in
    let long : length behind ≡ length words - n = ap length behind_is ∙ length-drop n words in
    let old : word_in full last i ≡ get_or last r 0 = in_last full last i r (omega arith) in
    in_last full' last' i r (omega arith)
    ∙ ap (λ (ws : List ℕ). get_or ws r 0) last'_is
    ∙ replaced last behind place r inside
    ∙ elim (cases_lt i start) as (λ _. word_after (λ j. get_or last j 0) place behind r ≡ word_after (word_in full last) start words i) [
      | inl low ↦ word_before (λ j. get_or last j 0) place r behind (omega arith) ∙ sym old ∙ sym (word_before (word_in full last) start i words low)
      | inr high ↦
          elim (cases_lt i (start + length words)) as (λ _. word_after (λ j. get_or last j 0) place behind r ≡ word_after (word_in full last) start words i) [
            | inl within ↦
                let at : n + (r - place) ≡ i - start = omega arith in
                word_inside (λ j. get_or last j 0) place r behind (omega arith) (omega arith)
                ∙ ap (λ (ws : List ℕ). get_or ws (r - place) 0) behind_is
                ∙ get_or-drop n words (r - place) 0
                ∙ ap (λ (j : ℕ). get_or words j 0) at
                ∙ sym (word_inside (word_in full last) start i words high within)
            | inr past ↦ word_behind (λ j. get_or last j 0) place r behind (omega arith) ∙ sym old ∙ sym (word_behind (word_in full last) start i words past)
          ]
    ]

word_of_list : (full : List (List ℕ)) (last old words : List ℕ) (start i : ℕ) → word_in full last i ≡ get_or old i 0 → word_after (word_in full last) start words i ≡ word_after (λ j. get_or old j 0) start words i
word_of_list full last old words start i h = word_moved (word_in full last) (λ j. get_or old j 0) start start i i words refl h

each_written : (full full' : List (List ℕ)) (last last' words old : List ℕ) (len start : ℕ) → words_of full last len ≡ old → start + length words ≤ len → ((i : ℕ) → i < len → word_in full' last' i ≡ word_after (word_in full last) start words i) → words_of full' last' len ≡ memory_written old start words
each_written full full' last last' words old len start e inside changed =
    let n : len ≡ length old = words_len full last len old e in
    let front : length (take start old) ≡ start = length-take-le start old (omega arith) in
    let long : length (take start old ++ words ++ drop (start + length words) old) ≡ len =
    omega (arith, length-append (take start old ++ words) (drop (start + length words) old), length-append (take start old) words, length-drop (start + length words) old) in
    let yes : nat_le (start + length words) (length old) ≡ true = grind (arith, nat_tests) in
    let all : words_of full' last' len ≡ take start old ++ words ++ drop (start + length words) old =
    words_of-each full' last' len _ long
    (λ i h.
    changed i h ∙ word_of_list full last old words start i (sym (word_at full last len i old e h)) ∙ sym (replaced old words start i (omega arith))) in
    rw yes all

pub written : (full full' : List (List ℕ)) (last last' words front behind old : List ℕ) (len start n place : ℕ) → words_of full last len ≡ old → HasPages full last len → start + length words ≤ len → length full' ≡ length full → n ≡ min (length words) (64 * length full - start) → front ≡ take n words → behind ≡ drop n words → AreWritten full (min start (64 * length full)) front full' → place ≡ start + n - 64 * length full → last' ≡ take place last ++ behind ++ drop (place + length behind) last → words_of full' last' len ≡ memory_written old start words
written full full' last last' words front behind old len start n place e pages inside count n_is front_is behind_is changed place_is last'_is =
    let all = pages.count in
    let long : length behind ≡ length words - n = ap length behind_is ∙ length-drop n words in
    each_written full full' last last' words old len start e inside
    (λ i h.
    elim (cases_lt i (64 * length full)) as (λ _. word_in full' last' i ≡ word_after (word_in full last) start words i) [
      | inl low ↦ front_word full full' last last' words front start n i count n_is front_is (changed i) low
      | inr from ↦ last_word full full' last last' words behind start n place i count n_is behind_is place_is (omega arith) last'_is from (omega arith)
    ])

-- a whole write whose words are cut
pub cut_written : (full full' : List (List ℕ)) (last last' words old : List ℕ) (len count start : ℕ) (cut : Cut) → words_of full last len ≡ old → HasPages full last len → count ≡ 64 * length full → IsCut count len start words cut → length full' ≡ length full → AreWritten full cut.start cut.front.now full' → last' ≡ take cut.place last ++ cut.behind.now ++ drop (cut.place + length cut.behind.now) last → words_of full' last' len ≡ memory_written old start words
cut_written full full' last last' words old len count start cut e pages count_is is same changed last'_is =
    let n = min (length words) (64 * length full - start) in
    let at : min (length words) (count - start) ≡ n = ap (λ (k : ℕ). min (length words) (k - start)) count_is in
    let first : cut.start ≡ min start (64 * length full) = is.start ∙ ap (min start) count_is in
    written full full' last last' words cut.front.now cut.behind.now old len start n cut.place e pages is.inside same refl
    (is.front ∙ ap (λ (k : ℕ). take k words) at)
    (is.behind ∙ ap (λ (k : ℕ). drop k words) at)
    (λ i. changed i ∙ ap (λ (k : ℕ). word_after (paged_word full) k cut.front.now i) first)
    (is.place ∙ ap (λ (k : ℕ). start + k - count) at ∙ ap (λ (k : ℕ). start + n - k) count_is)
    last'_is

-- a whole write where no page is full
pub last_written : (full : List (List ℕ)) (last last' words old : List ℕ) (len start : ℕ) → words_of full last len ≡ old → HasPages full last len → length full ≡ 0 → start + length words ≤ len → last' ≡ take start last ++ words ++ drop (start + length words) last → words_of full last' len ≡ memory_written old start words
last_written full last last' words old len start e pages none inside last'_is =
    written full full last last' words [] words old len start 0 start e pages inside refl (omega (arith, none)) refl refl
    (λ i. no_words (paged_word full) (min start (64 * length full)) i [] refl) (omega (arith, none)) last'_is

pub not_written : (full : List (List ℕ)) (last words old : List ℕ) (len start : ℕ) → words_of full last len ≡ old → len < start + length words → old ≡ memory_written old start words
not_written full last words old len start e past =
    let n : len ≡ length old = words_len full last len old e in
    let no : nat_le (start + length words) (length old) ≡ false = grind (arith, nat_tests) in
    rw no refl
