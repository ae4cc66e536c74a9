-- The words from an address on, to the end of its page, and as far as they lie in one piece.
use Rattle.std.proofs.Common.{◌≡◌, ◌≤◌, ◌<◌, ℕ, ◌+◌, ◌*◌, ◌/◌, ◌%◌, ◌-◌, List, [], length, get_or, take, drop, min, sym, ap, ◌∙◌, arith, length-take, length-drop}
use Rattle.std.proofs.lemmas.List.{get_or-take, get_or-drop, get_or_default, ext_get_or}
use Rattle.bsp_model.specs.Memory.{rest_of_page}
use Rattle.bsp_model.specs.Inside.Pages.{words_of, HasPages}
use Rattle.bsp_model.proofs.Pages.{words_len, word_at, in_full, in_last, paged_word_at, parts}

length-rest : (words : List ℕ) (a : ℕ) → length (rest_of_page words a) ≡ min (64 - a % 64) (length words - a)
length-rest words a = omega (arith, length-take (64 - a % 64) (drop a words), length-drop a words)

word_of_rest : (words : List ℕ) (a i : ℕ) → i < 64 - a % 64 → get_or (rest_of_page words a) i 0 ≡ get_or words (a + i) 0
word_of_rest words a i h = get_or-take (64 - a % 64) (drop a words) i 0 h ∙ get_or-drop a words i 0

pub rest_full : (full : List (List ℕ)) (page last words : List ℕ) (len a : ℕ) → words_of full last len ≡ words → HasPages full last len → a / 64 < length full → page ≡ get_or full (a / 64) page → length page ≡ 64 → drop (a % 64) page ≡ rest_of_page words a
rest_full full page last words len a e pages h here whole =
    let count = pages.count in
    let long = words_len full last len words e in
    let r = a % 64 in
    ext_get_or 0 (drop r page) (rest_of_page words a) (omega (arith, length-rest words a, length-drop r page))
    (λ i below.
    let inside : i < 64 - r = omega (arith, length-drop r page, below) in
    get_or-drop r page i 0
    ∙ ap (λ (ws : List ℕ). get_or ws (r + i) 0) (here ∙ get_or_default full (a / 64) page [] h)
    ∙ sym (paged_word_at full (a + i) (a / 64) (r + i) (omega (arith, parts a)) (omega arith))
    ∙ sym (in_full full last (a + i) (omega arith))
    ∙ sym (word_at full last len (a + i) words e (omega arith))
    ∙ sym (word_of_rest words a i inside))

-- behind the full pages lie all words that are left
pub all_rest : (full : List (List ℕ)) (last words : List ℕ) (len a r : ℕ) → words_of full last len ≡ words → HasPages full last len → a ≡ 64 * length full + r → drop r last ≡ drop a words
all_rest full last words len a r e pages at =
    let count = pages.count in
    let long = words_len full last len words e in
    ext_get_or 0 (drop r last) (drop a words) (omega (arith, length-drop a words, length-drop r last))
    (λ i below.
    get_or-drop r last i 0
    ∙ sym (in_last full last (a + i) (r + i) (omega arith))
    ∙ sym (word_at full last len (a + i) words e (omega (arith, length-drop r last, below)))
    ∙ sym (get_or-drop a words i 0))

-- such words are a piece

pub page_is_piece : (words piece : List ℕ) (a : ℕ) → piece ≡ rest_of_page words a → piece ≡ take (length piece) (drop a words)
page_is_piece words piece a is =
    ext_get_or 0 piece (take (length piece) (drop a words)) (omega (arith, ap length is, length-rest words a, length-take (length piece) (drop a words), length-drop a words))
    (λ i below.
    ap (λ (ws : List ℕ). get_or ws i 0) is
    ∙ word_of_rest words a i (omega (arith, below, ap length is, length-rest words a))
    ∙ sym (get_or-take (length piece) (drop a words) i 0 below ∙ get_or-drop a words i 0))

pub rest_is_piece : (words piece : List ℕ) (a : ℕ) → piece ≡ drop a words → piece ≡ take (length piece) (drop a words)
rest_is_piece words piece a is =
    ext_get_or 0 piece (take (length piece) (drop a words)) (omega (arith, ap length is, length-take (length piece) (drop a words)))
    (λ i below. ap (λ (ws : List ℕ). get_or ws i 0) is ∙ sym (get_or-take (length piece) (drop a words) i 0 below))

pub rest_is_long : (words piece : List ℕ) (a : ℕ) → piece ≡ drop a words → length (rest_of_page words a) ≤ length piece
rest_is_long words piece a is = omega (arith, length-rest words a, ap length is, length-drop a words)

pub past_rest : (words : List ℕ) (a : ℕ) → length words ≤ a → length (rest_of_page words a) ≤ 0
past_rest words a past = omega (arith, length-rest words a)

-- a piece, cut where the page ends
pub cut_piece : (words piece : List ℕ) (a n : ℕ) → piece ≡ take (length piece) (drop a words) → length (rest_of_page words a) ≤ length piece → n ≡ min (length piece) (64 - a % 64) → take n piece ≡ rest_of_page words a
cut_piece words piece a n there long few =
    ext_get_or 0 (take n piece) (rest_of_page words a) (omega (arith, length-rest words a, length-take n piece, ap length there, length-take (length piece) (drop a words), length-drop a words))
    (λ i below.
    let inside : i < n = omega (arith, below, length-take n piece) in
    get_or-take n piece i 0 inside
    ∙ ap (λ (ws : List ℕ). get_or ws i 0) there
    ∙ get_or-take (length piece) (drop a words) i 0 (omega (arith, inside))
    ∙ get_or-drop a words i 0
    ∙ sym (word_of_rest words a i (omega arith)))
