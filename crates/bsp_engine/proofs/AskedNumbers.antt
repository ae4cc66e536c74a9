-- Numbers that words write.
use Rattle.std.proofs.Common.{◌≡◌, ℕ, ◌+◌, ◌-◌, ◌*◌, ◌^◌, ◌<◌, ◌≤◌, Bool, true, false, cond, ◌&&◌, List, [], ◌∷◌, length, drop, get_or, Option, None, Some, nat_lt, refl, sym, ap, ◌∙◌, arith}
use Rattle.std.specs.Char.{digit_value}
use Rattle.std.specs.Str.{all_ascii_digits}
use Rattle.std.specs.Str.Parse.{digits_value_after}
use Rattle.std.proofs.lemmas.Bool.Decides.{nat_tests}
use Rattle.std.proofs.lemmas.List.{drop_all, drop_more}
use Rattle.bsp_engine.specs.Asked.{number_after, number_of}

-- more digits make a number no smaller
value_grows : (n : ℕ) (digits : List ℕ) → n ≤ digits_value_after 10 n digits
value_grows n [] = omega arith
value_grows n (c ∷ cs) = omega (arith, value_grows (n * 10 + digit_value c) cs)

number_if : (all : Bool) (value : ℕ) → 2 ^ 64 ≤ value → cond (all && nat_lt value (2 ^ 64)) (Some value) None ≡ None
number_if all value large =
    let past : nat_lt value (2 ^ 64) ≡ false = grind (arith, nat_tests) in
    rw past (elim all as (λ b. cond (b && false) (Some value) None ≡ None) [ true ↦ refl | false ↦ refl ])

-- a number that is too large with its next digit is none
number-too_large : (n c : ℕ) (cs : List ℕ) → 2 ^ 64 ≤ n * 10 + digit_value c → number_after n (c ∷ cs) ≡ None
number-too_large n c cs large =
    number_if (all_ascii_digits (c ∷ cs)) (digits_value_after 10 n (c ∷ cs)) (omega (arith, large, value_grows (n * 10 + digit_value c) cs))

number_of-some : (word : List ℕ) → 0 < length word → number_of word ≡ number_after 0 word
number_of-some [] some = absurd (omega arith)
number_of-some (c ∷ cs) some = refl

pub value_of_digit : (c : ℕ) → 48 ≤ c → c ≤ 57 → digit_value c ≡ c - 48
value_of_digit c low high = grind (arith, nat_tests)

-- none where the digits so far, and the next, are too large a number
pub too_large : (word : List ℕ) (n i : ℕ) (r : Option ℕ) → i < length word → number_after n (drop i word) ≡ number_after 0 word → 2 ^ 64 ≤ n * 10 + digit_value (get_or word i 0) → r ≡ None → r ≡ number_of word
too_large word n i r within so_far large none =
    none ∙ sym (number-too_large n (get_or word i 0) (drop (i + 1) word) large) ∙ sym (ap (number_after n) (drop_more word i 0 within)) ∙ so_far ∙ sym (number_of-some word (omega arith))

-- all digits are read
pub all_read : (word : List ℕ) (n i : ℕ) → 0 < length word → length word ≤ i → n < 2 ^ 64 → number_after n (drop i word) ≡ number_after 0 word → Some n ≡ number_of word
all_read word n i some all fits so_far =
    let below : nat_lt n (2 ^ 64) ≡ true = grind (arith, nat_tests) in
    let here : number_after n [] ≡ Some n = rw below refl in
    sym here ∙ sym (ap (number_after n) (drop_all i word all)) ∙ so_far ∙ sym (number_of-some word some)
