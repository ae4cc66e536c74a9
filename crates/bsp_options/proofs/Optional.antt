-- What `clap` reads of an option is what the definition says of its text.
use Rattle.std.proofs.Common.{◌≡◌, ℕ, ◌^◌, ◌<◌, ◌≤◌, true, false, ◌&&◌, List, [], ◌∷◌, length, cond, Option, None, Some, Result, Ok, Err, refl, arith}
use Rattle.std.proofs.lemmas.Bool.{and_parts}
use Rattle.std.proofs.lemmas.Bool.Decides.{nat_tests}
use Rattle.std.specs.Prelude.{nat_le, nat_lt}
use Rattle.std.specs.List.{list_all}
use Rattle.std.specs.Str.Parse.{AllDigits, IsNumeral, ParsesUnsigned, without_leading_plus}
use Rattle.std.specs.Char.{digit_value}
use Rattle.clap.specs.Matches.{ReadsOne}
use Rattle.clap.specs.ValueTests.{is_numeral}
use Rattle.clap.specs.Words.{Text}
use Rattle.bsp_model.specs.Limits.{most_workers}
use Rattle.bsp_options.specs.Options.{number_of, is_workers_text, workers_of}
use Rattle.bsp_options.specs.Inside.Options.{number_or_1}

digits_pass : (ds : List ℕ) → AllDigits 10 ds → list_all (λ d. nat_lt (digit_value d) 10) ds ≡ true
digits_pass [] h = refl
digits_pass (d ∷ ds) h =
    let below : digit_value d < 10 = h.0 in
    let one : nat_lt (digit_value d) 10 ≡ true = grind (arith, nat_tests) in
    rw one (digits_pass ds h.1)

passed_digits : (ds : List ℕ) → list_all (λ d. nat_lt (digit_value d) 10) ds ≡ true → AllDigits 10 ds
passed_digits [] h = tt
passed_digits (d ∷ ds) h =
    let one : nat_lt (digit_value d) 10 ≡ true = (and_parts (nat_lt (digit_value d) 10) (list_all (λ d. nat_lt (digit_value d) 10) ds) h).0 in
    let below : digit_value d < 10 = grind (arith, nat_tests) in
    (below, passed_digits ds (and_parts (nat_lt (digit_value d) 10) (list_all (λ d. nat_lt (digit_value d) 10) ds) h).1)

numeral_passes : (ds : List ℕ) → IsNumeral 10 ds → is_numeral ds ≡ true
numeral_passes ds h =
    let long : 0 < length ds = h.0 in
    let some : nat_lt 0 (length ds) ≡ true = grind (arith, nat_tests) in
    rw (some, digits_pass ds h.1) refl

passed_numeral : (ds : List ℕ) → is_numeral ds ≡ true → IsNumeral 10 ds
passed_numeral ds h =
    let both = and_parts (nat_lt 0 (length ds)) (list_all (λ d. nat_lt (digit_value d) 10) ds) h in
    let some : nat_lt 0 (length ds) ≡ true = both.0 in
    let long : 0 < length ds = grind (arith, nat_tests) in
    (long, passed_digits ds both.1)

-- a number of workers is one of 8 bits
small : (text : Text) → is_workers_text text ≡ true → IsNumeral 10 (without_leading_plus text) × (number_of text < 2 ^ 8)
small text h =
    let both = and_parts (is_numeral (without_leading_plus text)) (nat_le 1 (number_of text) && nat_le (number_of text) most_workers) h in
    let most : nat_le (number_of text) most_workers ≡ true = (and_parts (nat_le 1 (number_of text)) (nat_le (number_of text) most_workers) both.1).1 in
    let below : number_of text ≤ most_workers = grind (arith, nat_tests) in
    (passed_numeral (without_leading_plus text) both.0, omega arith)

module _ {E : Type 0} (G : List ℕ → Result ℕ E → Type 0) (parses : (u : List ℕ) (r : Result ℕ E) → G u r → ParsesUnsigned 8 10 u r) where
  reads_number : (text : Text) (read : Option ℕ) → ReadsOne G text read → number_or_1 read ≡ workers_of (Some text)
  reads_number text (Some v) h =
      let parsed = parses text (Ok v) h in
      rw (parsed.1, numeral_passes (without_leading_plus text) parsed.0.0) refl
  reads_number text None h =
      elim (is_workers_text text) as (λ b. is_workers_text text ≡ b → 1 ≡ cond b (number_of text) 1) [
        | true ↦ λ e. absurd (parses text (Err h.0) h.1 (small text e))
        | false ↦ λ e. refl
      ] refl

  -- the number of workers
  pub reads_workers : (text : Option Text) (read : Option ℕ) → (text ≡ None → read ≡ None) → ((t : Text) → text ≡ Some t → ReadsOne G t read) → number_or_1 read ≡ workers_of text
  reads_workers None read none value = rw (none refl) refl
  reads_workers (Some t) read none value = reads_number t read (value t refl)
