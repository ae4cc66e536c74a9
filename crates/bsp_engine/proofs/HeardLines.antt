-- The lines of a text, split at its LFs, are those that are kept byte by byte.
use Rattle.std.proofs.Common.{◌≡◌, ℕ, ◌+◌, List, [], ◌∷◌, ◌++◌, length, map, take, cond, true, false, refl, sym, ap, ◌∙◌, inl, inr, append_assoc, add-one, arith, nat_lt}
use Rattle.std.specs.Prelude.{◌==◌, if◌then◌else◌}
use Rattle.std.proofs.lemmas.Bool.{cases_lt}
use Rattle.std.proofs.lemmas.Bool.Decides.{nat_tests}
use Rattle.std.proofs.lemmas.List.{append-nil, length-take, length-append, take_all, take-append-le, map-append}
use Rattle.bsp_model.specs.Limits.{most_document_bytes}
use Rattle.bsp_engine.specs.Talk.{begun_with, split, cut, whole_lines, all_lines, unless_empty}
use Rattle.bsp_engine.specs.Inside.Talk.{kept, lines_from, rest_from}

-- a byte more is kept of a line that is cut
kept_cut : (n : ℕ) (line : List ℕ) (b : ℕ) → (if nat_lt n (length (take (n + 1) line)) then take (n + 1) line else take (n + 1) line ++ b ∷ []) ≡ take (n + 1) (line ++ b ∷ [])
kept_cut n line b =
    let long = length-take (n + 1) line in
    elim (cases_lt n (length line)) [
      | inl more ↦
          let yes : nat_lt n (length (take (n + 1) line)) ≡ true = grind (arith, nat_tests, long) in
          rw yes (sym (take-append-le (n + 1) line (b ∷ []) (omega arith)))
      | inr few ↦
          let no : nat_lt n (length (take (n + 1) line)) ≡ false = grind (arith, nat_tests, long) in
          rw no (ap (λ l. l ++ b ∷ []) (take_all (n + 1) line (omega arith)) ∙ sym (take_all (n + 1) (line ++ b ∷ []) (omega (arith, length-append line (b ∷ [])))))
    ]

kept_is : (line : List ℕ) (b : ℕ) → kept (cut line) b ≡ cut (line ++ b ∷ [])
unfolding kept cut
kept_is line b = kept_cut most_document_bytes line b

cut_none : cut [] ≡ []
unfolding cut
cut_none = take_all (most_document_bytes + 1) [] (omega arith)

-- whole lines and a rest, where these bytes stand before them
abbrev lines_after : List ℕ → List (List ℕ) → List (List ℕ)
lines_after begun [] = []
lines_after begun (line ∷ lines) = (begun ++ line) ∷ lines

abbrev rest_after : List ℕ → List (List ℕ) → List ℕ → List ℕ
rest_after begun [] rest = begun ++ rest
rest_after begun (line ∷ lines) rest = rest

lines_after-none : (lines : List (List ℕ)) → lines_after [] lines ≡ lines
lines_after-none [] = refl
lines_after-none (line ∷ lines) = refl

rest_after-none : (lines : List (List ℕ)) (rest : List ℕ) → rest_after [] lines rest ≡ rest
rest_after-none [] rest = refl
rest_after-none (line ∷ lines) rest = refl

lines_after-more : (begun : List ℕ) (b : ℕ) (lines : List (List ℕ)) (rest : List ℕ) → lines_after (begun ++ b ∷ []) lines ≡ lines_after begun (begun_with b lines rest).0
lines_after-more begun b [] rest = refl
lines_after-more begun b (line ∷ lines) rest = ap (λ l. l ∷ lines) (append_assoc begun (b ∷ []) line)

rest_after-more : (begun : List ℕ) (b : ℕ) (lines : List (List ℕ)) (rest : List ℕ) → rest_after (begun ++ b ∷ []) lines rest ≡ rest_after begun (begun_with b lines rest).0 (begun_with b lines rest).1
rest_after-more begun b [] rest = append_assoc begun (b ∷ []) rest
rest_after-more begun b (line ∷ lines) rest = refl

lines_kept : (begun bytes : List ℕ) → lines_from (cut begun) bytes ≡ map cut (lines_after begun (split bytes).0)
lines_kept begun [] = refl
lines_kept begun (b ∷ bs) =
    elim (b == 10) as (λ t. cond t (cut begun ∷ lines_from [] bs) (lines_from (kept (cut begun) b) bs) ≡ map cut (lines_after begun (cond t ([] ∷ (split bs).0, (split bs).1) (begun_with b (split bs).0 (split bs).1)).0)) [
      | true ↦
          ap (λ l. l ∷ lines_from [] bs) (ap cut (sym (append-nil begun)))
          ∙ ap (λ ls. cut (begun ++ []) ∷ ls) (ap (λ l. lines_from l bs) (sym cut_none) ∙ lines_kept [] bs ∙ ap (map cut) (lines_after-none (split bs).0))
      | false ↦ ap (λ l. lines_from l bs) (kept_is begun b) ∙ lines_kept (begun ++ b ∷ []) bs ∙ ap (map cut) (lines_after-more begun b (split bs).0 (split bs).1)
    ]

rest_kept : (begun bytes : List ℕ) → rest_from (cut begun) bytes ≡ cut (rest_after begun (split bytes).0 (split bytes).1)
rest_kept begun [] = ap cut (sym (append-nil begun))
rest_kept begun (b ∷ bs) =
    elim (b == 10) as (λ t. cond t (rest_from [] bs) (rest_from (kept (cut begun) b) bs)
    ≡ cut (rest_after begun (cond t ([] ∷ (split bs).0, (split bs).1) (begun_with b (split bs).0 (split bs).1)).0 (cond t ([] ∷ (split bs).0, (split bs).1) (begun_with b (split bs).0 (split bs).1)).1)) [
      | true ↦ ap (λ l. rest_from l bs) (sym cut_none) ∙ rest_kept [] bs ∙ ap cut (rest_after-none (split bs).0 (split bs).1)
      | false ↦ ap (λ l. rest_from l bs) (kept_is begun b) ∙ rest_kept (begun ++ b ∷ []) bs ∙ ap cut (rest_after-more begun b (split bs).0 (split bs).1)
    ]

pub whole_are : (bytes : List ℕ) → lines_from [] bytes ≡ whole_lines bytes
whole_are bytes = ap (λ l. lines_from l bytes) (sym cut_none) ∙ lines_kept [] bytes ∙ ap (map cut) (lines_after-none (split bytes).0)

rest_is : (bytes : List ℕ) → rest_from [] bytes ≡ cut (split bytes).1
rest_is bytes = ap (λ l. rest_from l bytes) (sym cut_none) ∙ rest_kept [] bytes ∙ ap cut (rest_after-none (split bytes).0 (split bytes).1)

last_cut : (n : ℕ) (rest : List ℕ) → map (take (n + 1)) (unless_empty rest) ≡ unless_empty (take (n + 1) rest)
last_cut n [] = ap unless_empty (sym (take_all (n + 1) [] (omega arith)))
last_cut n (b ∷ bs) = rw add-one refl

cut_last : (rest : List ℕ) → map cut (unless_empty rest) ≡ unless_empty (cut rest)
unfolding cut
cut_last rest = last_cut most_document_bytes rest

pub all_are : (bytes : List ℕ) → all_lines bytes ≡ whole_lines bytes ++ unless_empty (rest_from [] bytes)
all_are bytes =
    map-append cut (split bytes).0 (unless_empty (split bytes).1)
    ∙ ap (λ ls. whole_lines bytes ++ ls) (cut_last (split bytes).1 ∙ ap unless_empty (sym (rest_is bytes)))
