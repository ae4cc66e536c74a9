-- A change of words where they lie.
use Rattle.std.proofs.Common.{◌≡◌, ◌<◌, ◌≤◌, ◌+◌, ◌*◌, ◌/◌, ◌%◌, ◌-◌, ◌++◌, ℕ, List, [], length, min, get_or, take, drop, refl, sym, ap, ◌∙◌, arith}
use Rattle.std.specs.Prelude.{slice_set}
use Rattle.std.proofs.lemmas.List.{take-take}
use Rattle.std.proofs.Math.Seq.{take-length, drop-length}
use Rattle.std.proofs.Math.ListN.{length-set}
use Rattle.bsp_model.specs.Memory.{memory_written}
use Rattle.bsp_model.specs.Inside.Pages.{paged_word, word_after, words_of, HasPages}
use Rattle.bsp_model.proofs.Rests.{rest_full, all_rest}
use Rattle.bsp_model.proofs.Writes.{one_page, no_words, written}

-- The words behind a place of the last list are those of the memory.
pub seen_behind : (full : List (List ℕ)) (last old : List ℕ) (len start place n : ℕ) → words_of full last len ≡ old → HasPages full last len → start ≡ 64 * length full + place
    → take n (drop place last) ≡ take n (drop start old)
seen_behind full last old len start place n e pages at = ap (take n) (all_rest full last old len start place e pages at)

-- a change behind the full pages
pub changed_behind : (full : List (List ℕ)) (last last' old words : List ℕ) (len start place : ℕ) → words_of full last len ≡ old → HasPages full last len → start ≡ 64 * length full + place
    → start + length words ≤ len → last' ≡ take place last ++ words ++ drop (place + length words) last → words_of full last' len ≡ memory_written old start words
changed_behind full last last' old words len start place e pages at inside new =
    written full full last last' words [] words old len start 0 place e pages inside refl (omega (arith, at)) refl refl
    (λ i. no_words (paged_word full) (min start (64 * length full)) i [] refl) (omega (arith, at)) new

-- the words in a page are those of the memory
pub seen_in_page : (full : List (List ℕ)) (page last old : List ℕ) (len start n : ℕ) → words_of full last len ≡ old → HasPages full last len → start / 64 < length full
    → page ≡ get_or full (start / 64) page → length page ≡ 64 → n ≤ 64 - start % 64 → take n (drop (start % 64) page) ≡ take n (drop start old)
seen_in_page full page last old len start n e pages below here whole few =
    ap (take n) (rest_full full page last old len start e pages below here whole) ∙ take-take n (64 - start % 64) (drop start old) few

-- a change in a full page
pub changed_page : (full full' : List (List ℕ)) (page page' last old words : List ℕ) (len start : ℕ) → words_of full last len ≡ old → HasPages full last len → start / 64 < length full
    → page ≡ get_or full (start / 64) page → length page ≡ 64 → length words ≤ 64 - start % 64 → page' ≡ take (start % 64) page ++ words ++ drop (start % 64 + length words) page
    → full' ≡ slice_set full (start / 64) page' → words_of full' last len ≡ memory_written old start words
changed_page full full' page page' last old words len start e pages below here whole few changed put =
    let count = pages.count in
    let same : length full' ≡ length full = ap length put ∙ length-set full (start / 64) page' in
    written full full' last last words words [] old len start (length words) 0 e pages (omega (arith, count)) same (omega (arith, few)) (sym (take-length words)) (sym (drop-length words))
    (λ i.
    ap (λ (ps : List (List ℕ)). paged_word ps i) put
    ∙ one_page full page page' words start (start / 64) (start % 64) i (omega arith) (omega (arith, few)) below here whole changed
    ∙ ap (λ (k : ℕ). word_after (paged_word full) k words i) (omega arith))
    (omega (arith, few)) refl
