-- What the puts of prefix sums write.
use Rattle.std.proofs.Common.{◌&&◌, ◌+◌, ◌-◌, ◌<◌, ◌==◌, Bool, List, None, Some, [], ap, arith, cond, false, filter, get_or, inl, inr, length, map, nat_le, nat_lt, refl, set, sym, true, ℕ, ◌∙◌, ◌∷◌, ◌≡◌, ◌≢◌, ◌≤◌}
use Rattle.std.proofs.lemmas.Bool.{cases_eq}
use Rattle.std.proofs.lemmas.List.{get_or-set_other, get_or-set_same, length-set}
use Rattle.std.proofs.lemmas.Bool.Decides.{nat_tests}
use Rattle.bsp_model.specs.declared.request.Put.{Put}
use Rattle.bsp_deliver.specs.Delivery.{word_of, write_of, written}
use Rattle.bsp_programs.specs.Doubling.{distance}
use Rattle.bsp_right.proofs.PrefixTurns.{added, length-added_at, passes}
use Rattle.bsp_right.proofs.WordsWritten.{writes_to, written_by, written_by-last, written_by-none}

-- the memory of a process after the delivery of superstep s
abbrev pub passed_on : ℕ → (ℕ → List ℕ) → ℕ → List ℕ
passed_on s memory p =
    cond (nat_le (distance s) p) (set (added s memory p) 1 (get_or (added s memory (p - distance s)) 0 0)) (added s memory p)

-- what a process that is not that far off writes to d: nothing
away : (n s : ℕ) (memory : ℕ → List ℕ) (d a p w : ℕ) → p + distance s ≢ d → written (writes_to d (passes n s memory p)) a w ≡ w
away n s memory d a p w h =
    let x : Put = record { target = p + distance s; start = 1; words = get_or (added s memory p) 0 0 ∷ [] } in
    let off : ((p + distance s) == d) ≡ false = grind (arith, nat_tests) in
    elim (nat_lt (p + distance s) n) as (λ b. written (map write_of (filter (λ (q : Put). q.target == d) (cond b (x ∷ []) []))) a w ≡ w) [
      | true ↦ ap (λ b. written (map write_of (cond b (x ∷ []) [])) a w) off
      | false ↦ refl
    ]

uncovered : (a : ℕ) → a ≢ 1 → (nat_le 1 a && nat_lt a 2) ≡ false
uncovered a h = grind (arith, nat_tests)

-- no other word than word 1 is written
beside : (n s : ℕ) (memory : ℕ → List ℕ) (d a p w : ℕ) → a ≢ 1 → written (writes_to d (passes n s memory p)) a w ≡ w
beside n s memory d a p w h =
    let x : Put = record { target = p + distance s; start = 1; words = get_or (added s memory p) 0 0 ∷ [] } in
    elim (nat_lt (p + distance s) n) as (λ b. written (map write_of (filter (λ (q : Put). q.target == d) (cond b (x ∷ []) []))) a w ≡ w) [
      | true ↦
          elim ((p + distance s) == d) as (λ b. written (map write_of (cond b (x ∷ []) [])) a w ≡ w) [
            | true ↦ ap (λ t. word_of a (cond t (Some (write_of x)) None) w) (uncovered a h)
            | false ↦ refl
          ]
      | false ↦ refl
    ]

-- the process that far off writes its sum
hits : (n s : ℕ) (memory : ℕ → List ℕ) (d p w : ℕ) → p + distance s ≡ d → d < n → written (writes_to d (passes n s memory p)) 1 w ≡ get_or (added s memory p) 0 0
hits n s memory d p w h l =
    let x : Put = record { target = p + distance s; start = 1; words = get_or (added s memory p) 0 0 ∷ [] } in
    let there : nat_lt (p + distance s) n ≡ true = grind (arith, nat_tests) in
    let on : ((p + distance s) == d) ≡ true = grind (arith, nat_tests) in
    ap (λ b. written (map write_of (filter (λ (q : Put). q.target == d) (cond b (x ∷ []) []))) 1 w) there
    ∙ ap (λ b. written (map write_of (cond b (x ∷ []) [])) 1 w) on

passed_if : (b : Bool) (n s : ℕ) (memory : ℕ → List ℕ) (d a : ℕ) → nat_le (distance s) d ≡ b → d < n → 2 ≤ length (memory d)
    → written_by d a (passes n s memory) 0 n (get_or (added s memory d) a 0) ≡ get_or (cond b (set (added s memory d) 1 (get_or (added s memory (d - distance s)) 0 0)) (added s memory d)) a 0
passed_if false n s memory d a e l h =
    let short : d < distance s = grind (arith, nat_tests) in
    written_by-none d a (passes n s memory) n 0 (get_or (added s memory d) a 0) (λ p _ _. away n s memory d a p (get_or (added s memory d) a 0) (λ k. omega (arith, k)))
passed_if true n s memory d a e l h =
    let long : distance s ≤ d = grind (arith, nat_tests) in
    let value = get_or (added s memory (d - distance s)) 0 0 in
    elim (cases_eq a 1) [
      | inl one ↦
          ap (λ k. written_by d k (passes n s memory) 0 n (get_or (added s memory d) k 0)) one
          ∙ written_by-last d 1 (d - distance s) value (passes n s memory) n 0 (get_or (added s memory d) 1 0) (omega arith) (omega arith)
          (λ w. hits n s memory d (d - distance s) w (omega arith) l)
          (λ p after _. away n s memory d 1 p value (λ k. omega (arith, k)))
          ∙ sym (get_or-set_same (added s memory d) 1 value 0 (omega (arith, length-added_at s memory d)))
          ∙ ap (λ k. get_or (set (added s memory d) 1 value) k 0) (sym one)
      | inr not_one ↦
          written_by-none d a (passes n s memory) n 0 (get_or (added s memory d) a 0) (λ p _ _. beside n s memory d a p (get_or (added s memory d) a 0) not_one)
          ∙ sym (get_or-set_other (added s memory d) 1 a value 0 not_one)
    ]

-- Word by word after the delivery.
pub passed_written : (n s : ℕ) (memory : ℕ → List ℕ) (d a : ℕ) → d < n → 2 ≤ length (memory d) → written_by d a (passes n s memory) 0 n (get_or (added s memory d) a 0) ≡ get_or (passed_on s memory d) a 0
passed_written n s memory d a l h = passed_if (nat_le (distance s) d) n s memory d a refl l h

length-passed_if : (b : Bool) (m : List ℕ) (w : ℕ) → length (cond b (set m 1 w) m) ≡ length m
length-passed_if true m w = length-set m 1 w
length-passed_if false m w = refl

pub length-passed_on : (s : ℕ) (memory : ℕ → List ℕ) (p : ℕ) → length (passed_on s memory p) ≡ length (memory p)
length-passed_on s memory p = length-passed_if (nat_le (distance s) p) (added s memory p) (get_or (added s memory (p - distance s)) 0 0) ∙ length-added_at s memory p
