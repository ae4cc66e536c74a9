-- Processes in a row, each of which puts a word to the process below and a word to the process above, where there is one.
use Rattle.std.proofs.Common.{◌≡◌, ◌≢◌, ◌≤◌, ◌<◌, ◌+◌, ◌-◌, ◌==◌, ◌&&◌, ◌∙◌, not, ℕ, zero, suc, Bool, true, false, cond, List, [], ◌∷◌, filter, length, nat_le, nat_lt, arith, ap, refl, sym, inl, inr}
use Rattle.std.specs.Prelude.{min, sum_by}
use Rattle.std.proofs.lemmas.Bool.{cases_eq, cases_lt, le-ltb, lt-ltb}
use Rattle.std.proofs.lemmas.List.Sums.{sum_by-cons}
use Rattle.std.proofs.lemmas.Bool.Decides.{nat_tests}
use Rattle.bsp_model.specs.declared.request.Put.{Put}
use Rattle.bsp_step.specs.OutcomeParts.{OutcomeParts}
use Rattle.bsp_deliver.specs.Cost.{h_relation}
use Rattle.bsp_deliver.specs.Delivery.{written}
use Rattle.bsp_deliver.specs.Requests.{each_below}
use Rattle.bsp_right.proofs.OneWordPuts.{word_put, after_puts, after_puts-cons, after_puts-on, after_puts-away, after_puts-beside}
use Rattle.bsp_right.proofs.WordsMoved.{words_to, words_from, received_by, h_relation-puts}
use Rattle.bsp_right.proofs.WordsWritten.{writes_to, written_by, written_by-last, written_by-none}

-- The put of a word to the process above, over its word at the address that it keeps for the process below.
abbrev pub puts_up : ℕ → (ℕ → ℕ) → ℕ → ℕ → List Put
puts_up n from_below up p = cond (nat_lt (p + 1) n) (word_put (p + 1) (from_below (p + 1)) up ∷ []) []

-- Before that one to the process below, over its word at the address that it keeps for the process above.
abbrev pub puts_in_row : ℕ → (ℕ → ℕ) → (ℕ → ℕ) → ℕ → ℕ → ℕ → List Put
puts_in_row n from_below from_above down up p =
    cond (p == 0) (puts_up n from_below up p) (word_put (p - 1) (from_above (p - 1)) down ∷ puts_up n from_below up p)

-- the put upwards reaches no other word
up-beside : (n : ℕ) (from_below : ℕ → ℕ) (up p d a w : ℕ) → (p + 1 ≡ d → from_below d ≢ a) → after_puts d a (puts_up n from_below up p) w ≡ w
up-beside n from_below up p d a w h =
    elim (nat_lt (p + 1) n) as (λ b. after_puts d a (cond b (word_put (p + 1) (from_below (p + 1)) up ∷ []) []) w ≡ w) [
      | true ↦
          elim (cases_eq (p + 1) d) [
            | inl same ↦ after_puts-beside d a (p + 1) (from_below (p + 1)) up w (λ e. h same (sym (ap from_below same) ∙ e))
            | inr apart ↦ after_puts-away d a (p + 1) (from_below (p + 1)) up w apart
          ]
      | false ↦ refl
    ]

down-beside : (from_above : ℕ → ℕ) (down p d a w : ℕ) → (p ≡ d → from_above d ≢ a) → after_puts d a (word_put p (from_above p) down ∷ []) w ≡ w
down-beside from_above down p d a w h =
    elim (cases_eq p d) [
      | inl same ↦ after_puts-beside d a p (from_above p) down w (λ e. h same (sym (ap from_above same) ∙ e))
      | inr apart ↦ after_puts-away d a p (from_above p) down w apart
    ]

-- what a process writes to a word that neither of its puts reaches: nothing
row-beside : (n : ℕ) (from_below from_above : ℕ → ℕ) (down up p d a w : ℕ) → (p + 1 ≡ d → from_below d ≢ a) → (p ≡ d + 1 → from_above d ≢ a)
    → after_puts d a (puts_in_row n from_below from_above down up p) w ≡ w
row-beside n from_below from_above down up zero d a w below above = up-beside n from_below up zero d a w below
row-beside n from_below from_above down up (suc q) d a w below above =
    let p : ℕ = suc q in
    let x : Put = word_put (p - 1) (from_above (p - 1)) down in
    let not_first : (p == 0) ≡ false = grind (arith, nat_tests) in
    ap (λ b. after_puts d a (cond b (puts_up n from_below up p) (x ∷ puts_up n from_below up p)) w) not_first
    ∙ after_puts-cons d a x (puts_up n from_below up p) w
    ∙ ap (after_puts d a (puts_up n from_below up p)) (down-beside from_above down (p - 1) d a w (λ e. above (omega (arith, e))))
    ∙ up-beside n from_below up p d a w below

up-hits : (n : ℕ) (from_below : ℕ → ℕ) (up p d w : ℕ) → p + 1 ≡ d → d < n → after_puts d (from_below d) (puts_up n from_below up p) w ≡ up
up-hits n from_below up p d w next l =
    let there : nat_lt (p + 1) n ≡ true = grind (arith, nat_tests) in
    ap (λ b. after_puts d (from_below d) (cond b (word_put (p + 1) (from_below (p + 1)) up ∷ []) []) w) there
    ∙ after_puts-on d (from_below d) (p + 1) (from_below (p + 1)) up w next (ap from_below next)

-- the word from the process below
row-from_below : (n : ℕ) (from_below from_above : ℕ → ℕ) (down up p d w : ℕ) → p + 1 ≡ d → d < n → after_puts d (from_below d) (puts_in_row n from_below from_above down up p) w ≡ up
row-from_below n from_below from_above down up p d w next l =
    let ups = puts_up n from_below up p in
    let x : Put = word_put (p - 1) (from_above (p - 1)) down in
    elim (p == 0) as (λ b. after_puts d (from_below d) (cond b ups (x ∷ ups)) w ≡ up) [
      | true ↦ up-hits n from_below up p d w next l
      | false ↦ after_puts-cons d (from_below d) x ups w ∙ up-hits n from_below up p d (after_puts d (from_below d) (x ∷ []) w) next l
    ]

-- the word from the process above
row-from_above : (n : ℕ) (from_below from_above : ℕ → ℕ) (down up d w : ℕ) → after_puts d (from_above d) (puts_in_row n from_below from_above down up (d + 1)) w ≡ down
row-from_above n from_below from_above down up d w =
    let p : ℕ = d + 1 in
    let ups = puts_up n from_below up p in
    let x : Put = word_put (p - 1) (from_above (p - 1)) down in
    let not_first : (p == 0) ≡ false = grind (arith, nat_tests) in
    let back : p - 1 ≡ d = omega arith in
    ap (λ b. after_puts d (from_above d) (cond b ups (x ∷ ups)) w) not_first
    ∙ after_puts-cons d (from_above d) x ups w
    ∙ ap (after_puts d (from_above d) ups) (after_puts-on d (from_above d) (p - 1) (from_above (p - 1)) down w back (ap from_above back))
    ∙ up-beside n from_below up p d (from_above d) down (λ e. absurd (omega (arith, e)))

-- outcomes with such puts
pub record AllPutInRow (n : ℕ) (from_below from_above down up : ℕ → ℕ) (out : ℕ → OutcomeParts) : Type 0 where
  pub puts : (p : ℕ) → p < n → (out p).puts ≡ puts_in_row n from_below from_above (down p) (up p) p

writes-row : (n : ℕ) (from_below from_above down up : ℕ → ℕ) (out : ℕ → OutcomeParts) → AllPutInRow n from_below from_above down up out → (p d a w : ℕ) → p < n
    → written (writes_to d (out p)) a w ≡ after_puts d a (puts_in_row n from_below from_above (down p) (up p) p) w
writes-row n from_below from_above down up out h p d a w l = ap (λ (puts : List Put). after_puts d a puts w) (h.puts p l)

-- The word that a process keeps for the process below becomes the word that this one puts up.
pub row_written-below : (n : ℕ) (from_below from_above down up : ℕ → ℕ) (out : ℕ → OutcomeParts) → AllPutInRow n from_below from_above down up out → (d word : ℕ) → 1 ≤ d → d < n → from_above d ≢ from_below d
    → written_by d (from_below d) out 0 n word ≡ up (d - 1)
row_written-below n from_below from_above down up out h d word some l apart =
    written_by-last d (from_below d) (d - 1) (up (d - 1)) out n 0 word (omega arith) (omega arith)
    (λ w. writes-row n from_below from_above down up out h (d - 1) d (from_below d) w (omega arith) ∙ row-from_below n from_below from_above (down (d - 1)) (up (d - 1)) (d - 1) d w (omega arith) l)
    (λ p after m. writes-row n from_below from_above down up out h p d (from_below d) (up (d - 1)) (omega arith)
    ∙ row-beside n from_below from_above (down p) (up p) p d (from_below d) (up (d - 1)) (λ e. absurd (omega (arith, e))) (λ _. apart))

-- The word that it keeps for the process above becomes the word that this one puts down.
pub row_written-above : (n : ℕ) (from_below from_above down up : ℕ → ℕ) (out : ℕ → OutcomeParts) → AllPutInRow n from_below from_above down up out → (d word : ℕ) → d + 1 < n
    → written_by d (from_above d) out 0 n word ≡ down (d + 1)
row_written-above n from_below from_above down up out h d word l =
    written_by-last d (from_above d) (d + 1) (down (d + 1)) out n 0 word (omega arith) (omega arith)
    (λ w. writes-row n from_below from_above down up out h (d + 1) d (from_above d) w (omega arith) ∙ row-from_above n from_below from_above (down (d + 1)) (up (d + 1)) d w)
    (λ p after m. writes-row n from_below from_above down up out h p d (from_above d) (down (d + 1)) (omega arith)
    ∙ row-beside n from_below from_above (down p) (up p) p d (from_above d) (down (d + 1)) (λ e. absurd (omega (arith, e))) (λ e. absurd (omega (arith, e))))

-- Every other word stays.
pub row_written-beside : (n : ℕ) (from_below from_above down up : ℕ → ℕ) (out : ℕ → OutcomeParts) → AllPutInRow n from_below from_above down up out → (d a word : ℕ) → (1 ≤ d → from_below d ≢ a) → (d + 1 < n → from_above d ≢ a)
    → written_by d a out 0 n word ≡ word
row_written-beside n from_below from_above down up out h d a word below above =
    written_by-none d a out n 0 word (λ p _ m. writes-row n from_below from_above down up out h p d a word (omega arith)
    ∙ row-beside n from_below from_above (down p) (up p) p d a word (λ e. below (omega (arith, e))) (λ e. above (omega (arith, e))))

-- a word, if there is one
abbrev one_if : Bool → ℕ
one_if b = cond b 1 0

abbrev words_in : List Put → ℕ
words_in puts = sum_by (λ (q : Put). length q.words) puts

-- what a process puts to others: a word to each neighbour
abbrev row_words : ℕ → ℕ → ℕ
row_words n p = one_if (nat_lt 0 p) + one_if (nat_lt (p + 1) n)

sent-up : (n : ℕ) (from_below : ℕ → ℕ) (up p : ℕ) → words_from p (puts_up n from_below up p) ≡ one_if (nat_lt (p + 1) n)
sent-up n from_below up p =
    let other : ((p + 1) == p) ≡ false = grind (arith, nat_tests) in
    let x : Put = word_put (p + 1) (from_below (p + 1)) up in
    elim (nat_lt (p + 1) n) as (λ b. words_from p (cond b (x ∷ []) []) ≡ one_if b) [
      | true ↦ ap (λ t. words_in (cond (not t) (x ∷ []) [])) other
      | false ↦ refl
    ]

sent-row : (n : ℕ) (from_below from_above : ℕ → ℕ) (down up p : ℕ) → words_from p (puts_in_row n from_below from_above down up p) ≡ row_words n p
sent-row n from_below from_above down up zero = let e = sent-up n from_below up zero in omega (arith, e)
sent-row n from_below from_above down up (suc q) =
    let p : ℕ = suc q in
    let ups = puts_up n from_below up p in
    let x : Put = word_put (p - 1) (from_above (p - 1)) down in
    let others = filter (λ (r : Put). not (r.target == p)) ups in
    let not_first : (p == 0) ≡ false = grind (arith, nat_tests) in
    let other : ((p - 1) == p) ≡ false = grind (arith, nat_tests) in
    let below : one_if (nat_lt 0 p) ≡ 1 = ap one_if (lt-ltb 0 p (omega arith)) in
    ap (λ b. words_from p (cond b ups (x ∷ ups))) not_first
    ∙ ap (λ t. words_in (cond (not t) (x ∷ others) others)) other
    ∙ omega (arith, sum_by-cons (λ (r : Put). length r.words) x others, sent-up n from_below up p)

received-up : (n : ℕ) (from_below : ℕ → ℕ) (up p d : ℕ) → words_to d (puts_up n from_below up p) ≤ one_if ((p + 1) == d)
received-up n from_below up p d =
    let x : Put = word_put (p + 1) (from_below (p + 1)) up in
    elim (nat_lt (p + 1) n) as (λ b. words_to d (cond b (x ∷ []) []) ≤ one_if ((p + 1) == d)) [
      | true ↦ elim ((p + 1) == d) as (λ b. words_in (cond b (x ∷ []) []) ≤ one_if b) [ true ↦ omega arith | false ↦ omega arith ]
      | false ↦ omega arith
    ]

received-row : (n : ℕ) (from_below from_above : ℕ → ℕ) (down up p d : ℕ) → words_to d (puts_in_row n from_below from_above down up p) ≤ one_if ((p + 1) == d) + one_if (p == (d + 1))
received-row n from_below from_above down up zero d = omega (arith, received-up n from_below up zero d)
received-row n from_below from_above down up (suc q) d =
    let p : ℕ = suc q in
    let ups = puts_up n from_below up p in
    let x : Put = word_put (p - 1) (from_above (p - 1)) down in
    let to_it = filter (λ (r : Put). r.target == d) ups in
    let not_first : (p == 0) ≡ false = grind (arith, nat_tests) in
    let back : ((p - 1) == d) ≡ (p == (d + 1)) = grind (arith, nat_tests) in
    let is : words_to d (puts_in_row n from_below from_above down up p) ≡ words_in (cond (p == (d + 1)) (x ∷ to_it) to_it) =
    ap (λ b. words_to d (cond b ups (x ∷ ups))) not_first ∙ ap (λ b. words_in (cond b (x ∷ to_it) to_it)) back in
    let above : words_in to_it ≤ one_if ((p + 1) == d) = received-up n from_below up p d in
    let few : words_in (cond (p == (d + 1)) (x ∷ to_it) to_it) ≤ one_if ((p + 1) == d) + one_if (p == (d + 1)) =
    elim (p == (d + 1)) as (λ b. words_in (cond b (x ∷ to_it) to_it) ≤ one_if ((p + 1) == d) + one_if b) [
      | true ↦ omega (arith, above, sum_by-cons (λ (r : Put). length r.words) x to_it)
      | false ↦ omega (arith, above)
    ] in
    omega (arith, is, few)

-- one process more
more_received : (n d k c rest : ℕ) → k < n → c ≤ one_if ((k + 1) == d) + one_if (k == (d + 1)) → rest ≤ one_if (nat_lt (k + 1) d) + one_if (nat_le (k + 1) (d + 1) && nat_lt (d + 1) n)
    → cond (k == d) 0 c + rest ≤ one_if (nat_lt k d) + one_if (nat_le k (d + 1) && nat_lt (d + 1) n)
more_received n d k c rest l own later = grind (arith, nat_tests)

-- what a process receives from those from k on
received-from : (n : ℕ) (from_below from_above down up : ℕ → ℕ) (out : ℕ → OutcomeParts) → AllPutInRow n from_below from_above down up out → (d m k : ℕ) → k + m ≡ n
    → received_by d out k m ≤ one_if (nat_lt k d) + one_if (nat_le k (d + 1) && nat_lt (d + 1) n)
received-from n from_below from_above down up out h d zero k e = omega arith
received-from n from_below from_above down up out h d (suc m) k e =
    let same : words_to d (out k).puts ≡ words_to d (puts_in_row n from_below from_above (down k) (up k) k) = ap (words_to d) (h.puts k (omega arith)) in
    more_received n d k (words_to d (out k).puts) (received_by d out (k + 1) m) (omega arith) (omega (arith, same, received-row n from_below from_above (down k) (up k) k d))
    (received-from n from_below from_above down up out h d m (k + 1) (omega arith))

received-all : (n : ℕ) (from_below from_above down up : ℕ → ℕ) (out : ℕ → OutcomeParts) → AllPutInRow n from_below from_above down up out → (d : ℕ) → received_by d out 0 n ≤ row_words n d
received-all n from_below from_above down up out h d =
    let all : received_by d out 0 n ≤ one_if (nat_lt 0 d) + one_if (nat_le 0 (d + 1) && nat_lt (d + 1) n) = received-from n from_below from_above down up out h d n 0 (omega arith) in
    let first : nat_le 0 (d + 1) ≡ true = grind (arith, nat_tests) in
    let same : one_if (nat_le 0 (d + 1) && nat_lt (d + 1) n) ≡ one_if (nat_lt (d + 1) n) = ap (λ b. one_if (b && nat_lt (d + 1) n)) first in
    omega (arith, all, same)

row_words-le : (n p : ℕ) → p < n → row_words n p ≤ min (n - 1) 2
row_words-le n p l =
    elim (cases_lt 0 p) [
      | inl some ↦
          let below : one_if (nat_lt 0 p) ≡ 1 = ap one_if (lt-ltb 0 p some) in
          elim (cases_lt (p + 1) n) [
            | inl more ↦ let above : one_if (nat_lt (p + 1) n) ≡ 1 = ap one_if (lt-ltb (p + 1) n more) in omega arith
            | inr last ↦ let above : one_if (nat_lt (p + 1) n) ≡ 0 = ap one_if (le-ltb (p + 1) n last) in omega arith
          ]
      | inr none ↦
          let below : one_if (nat_lt 0 p) ≡ 0 = ap one_if (le-ltb 0 p none) in
          elim (cases_lt (p + 1) n) [
            | inl more ↦ let above : one_if (nat_lt (p + 1) n) ≡ 1 = ap one_if (lt-ltb (p + 1) n more) in omega arith
            | inr last ↦ let above : one_if (nat_lt (p + 1) n) ≡ 0 = ap one_if (le-ltb (p + 1) n last) in omega arith
          ]
    ]

-- process 1 puts the most, and process 0 where it is alone
row_words-most : (n : ℕ) → 1 ≤ n → row_words n (min (n - 1) 1) ≡ min (n - 1) 2
row_words-most zero l = absurd (omega arith)
row_words-most (suc zero) l = refl
row_words-most (suc (suc zero)) l = refl
row_words-most (suc (suc (suc n))) l =
    let p : ℕ = min (suc (suc (suc n)) - 1) 1 in
    let one : p ≡ 1 = omega arith in
    let above : one_if (nat_lt 2 (suc (suc (suc n)))) ≡ 1 = ap one_if (lt-ltb 2 (suc (suc (suc n))) (omega arith)) in
    ap (row_words (suc (suc (suc n)))) one ∙ omega (arith, above)

-- The h-relation of a superstep in which each process puts a word to each neighbour: 2, and less where there are less than three processes.
pub h_relation-row : (n : ℕ) (from_below from_above down up : ℕ → ℕ) (out : ℕ → OutcomeParts) → 1 ≤ n → AllPutInRow n from_below from_above down up out
    → ((p : ℕ) → p < n → (out p).gets ≡ []) → ((p : ℕ) → p < n → (out p).sends ≡ []) → h_relation (each_below n out) ≡ min (n - 1) 2
h_relation-row n from_below from_above down up out some h gets sends =
    let s : ℕ = min (n - 1) 1 in
    let known : s < n = omega arith in
    let is : (p : ℕ) → p < n → words_from p (out p).puts ≡ row_words n p = λ p l. ap (words_from p) (h.puts p l) ∙ sent-row n from_below from_above (down p) (up p) p in
    h_relation-puts n (min (n - 1) 2) s out gets sends known (is s known ∙ row_words-most n some)
    (λ p l. omega (arith, is p l, row_words-le n p l))
    (λ d l. omega (arith, received-all n from_below from_above down up out h d, row_words-le n d l))
