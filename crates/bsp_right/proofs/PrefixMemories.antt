-- The memories with which prefix sums end.
use Rattle.std.proofs.Common.{◌≡◌, ◌≤◌, ◌<◌, ◌+◌, ◌-◌, ◌%◌, ◌^◌, ◌==◌, ℕ, zero, suc, Bool, true, false, cond, List, [], ◌∷◌, length, get_or, set, nat_le, arith, refl, sym, ap, ◌∙◌}
use Rattle.std.proofs.Math.Nat.{pow-succ'}
use Rattle.std.proofs.lemmas.Nat.{pow_pos}
use Rattle.std.proofs.lemmas.Bool.Decides.{nat_tests}
use Rattle.std.proofs.lemmas.List.{get_or-set_same, get_or-set_other}
use Rattle.bsp_model.specs.declared.input.Input.{Input}
use Rattle.bsp_programs.specs.Prefix.{has_received}
use Rattle.bsp_programs.specs.Doubling.{distance}
use Rattle.bsp_right.specs.Summed.{reach, word_of_process, word_received, prefix_sum, memory_summed}
use Rattle.bsp_right.proofs.PrefixTurns.{added, added_if, length-added_at}
use Rattle.bsp_right.proofs.PrefixSupersteps.{EndsAfter, first_of, memory_after, has_words, distance-is}
use Rattle.bsp_right.proofs.PrefixSums.{sums, window, window-all}

-- two words in front of the words from the third on
pub record IsBefore (rest memory : List ℕ) : Type 0 where
  pub first : ℕ
  pub second : ℕ
  pub is : memory ≡ first ∷ second ∷ rest

-- the words from the third on
abbrev pub rest_of : List ℕ → List ℕ
rest_of [] = []
rest_of (a ∷ []) = []
rest_of (a ∷ b ∷ rest) = rest

two_words-first : (memory : List ℕ) → 2 ≤ length memory → IsBefore (rest_of memory) memory
two_words-first [] h = absurd (omega arith)
two_words-first (a ∷ []) h = absurd (omega arith)
two_words-first (a ∷ b ∷ rest) h = record { first = a; second = b; is = refl }

IsBefore-added : (b : Bool) (rest memory : List ℕ) → IsBefore rest memory → IsBefore rest (added_if b memory)
IsBefore-added true rest memory h =
    record {
      first = (h.first + h.second) % 2 ^ 64;
      second = h.second;
      is = ap (λ (m : List ℕ). set m 0 ((get_or m 0 0 + get_or m 1 0) % 2 ^ 64)) h.is;
    }
IsBefore-added false rest memory h = h

IsBefore-passed : (b : Bool) (rest memory : List ℕ) (word : ℕ) → IsBefore rest memory → IsBefore rest (cond b (set memory 1 word) memory)
IsBefore-passed true rest memory word h = record { first = h.first; second = word; is = ap (λ (m : List ℕ). set m 1 word) h.is }
IsBefore-passed false rest memory word h = h

IsBefore-after : (first : ℕ → List ℕ) (t p : ℕ) → 2 ≤ length (first p) → IsBefore (rest_of (first p)) (memory_after first t p)
IsBefore-after first zero p h = two_words-first (first p) h
IsBefore-after first (suc t) p h =
    IsBefore-passed (nat_le (distance (suc t)) p) (rest_of (first p)) (added (suc t) (memory_after first t) p) (get_or (added (suc t) (memory_after first t) (p - distance (suc t))) 0 0)
    (IsBefore-added (has_received (suc t) p) (rest_of (first p)) (memory_after first t p) (IsBefore-after first t p h))

-- a memory is the first one but for the two words
but_for_two : (first memory : List ℕ) → 2 ≤ length first → IsBefore (rest_of first) memory → memory ≡ set (set first 1 (get_or memory 1 0)) 0 (get_or memory 0 0)
but_for_two [] memory l h = absurd (omega arith)
but_for_two (a ∷ []) memory l h = absurd (omega arith)
but_for_two (a ∷ b ∷ rest) memory l h = h.is ∙ ap (λ (m : List ℕ). get_or m 0 0 ∷ get_or m 1 0 ∷ rest) (sym h.is)

-- adding keeps word 1
second-added : (b : Bool) (memory : List ℕ) → get_or (added_if b memory) 1 0 ≡ get_or memory 1 0
second-added true memory = get_or-set_other memory 0 1 ((get_or memory 0 0 + get_or memory 1 0) % 2 ^ 64) 0 (λ e. omega (arith, e))
second-added false memory = refl

-- the word 1 of process p that came from so far off, if one did
received_from : Input → ℕ → ℕ → ℕ
received_from input p far = cond (far == 0) (get_or (first_of input p) 1 0) (window (word_of_process input) (p - far) far % 2 ^ 64)

received_if : (b : Bool) (input : Input) (p far old : ℕ) (memory : List ℕ) (word : ℕ) → 2 ≤ length memory → 1 ≤ far → nat_le far p ≡ b → get_or memory 1 0 ≡ received_from input p old
    → (far ≤ p → word ≡ window (word_of_process input) (p - far) far % 2 ^ 64) → get_or (cond b (set memory 1 word) memory) 1 0 ≡ received_from input p (cond b far old)
unfolding received_from
received_if true input p far old memory word long some e h g =
    let reached : far ≤ p = grind (arith, nat_tests) in
    let not_none : (far == 0) ≡ false = grind (arith, nat_tests) in
    get_or-set_same memory 1 word 0 (omega arith) ∙ g reached ∙ ap (λ b. cond b (get_or (first_of input p) 1 0) (window (word_of_process input) (p - far) far % 2 ^ 64)) (sym not_none)
received_if false input p far old memory word long some e h g = h

-- word 1 of a process after superstep t
received : (input : Input) (k : ℕ) → EndsAfter input k → k ≤ 6 → (t : ℕ) → t ≤ k → (p : ℕ) → p < length input.mems → get_or (memory_after (first_of input) t p) 1 0 ≡ received_from input p (reach t p)
unfolding received_from
received input k h few zero l p m = refl
received input k h few (suc t) l p m =
    let memory = memory_after (first_of input) t in
    let D : distance (suc t) ≡ 2 ^ t = distance-is t (omega arith) in
    let A = added (suc t) memory p in
    let word : ℕ → ℕ = λ far. get_or (added (suc t) memory (p - far)) 0 0 in
    ap (λ far. get_or (cond (nat_le far p) (set A 1 (word far)) A) 1 0) D
    ∙ received_if (nat_le (2 ^ t) p) input p (2 ^ t) (reach t p) A (word (2 ^ t)) (omega (arith, length-added_at (suc t) memory p, has_words input k h t p m)) (pow_pos t) refl
    (second-added (has_received (suc t) p) (memory p) ∙ received input k h few t (omega arith) p m)
    (λ r. sums input k h t (omega arith) (p - 2 ^ t) (omega arith) ∙ ap (λ far. window (word_of_process input) (p - 2 ^ t) far % 2 ^ 64) D)

double : (t : ℕ) → 2 ^ suc t ≡ 2 ^ t + 2 ^ t
double t = let e = pow-succ' 2 t in omega (arith, e)

half_if : (b : Bool) (t p r : ℕ) → nat_le (2 ^ t) p ≡ b → p < 2 ^ suc t → (p < 2 ^ t → p < r + r) → p < cond b (2 ^ t) r + cond b (2 ^ t) r
half_if true t p r e l h = omega (arith, double t)
half_if false t p r e l h = let short : p < 2 ^ t = grind (arith, nat_tests) in h short

-- the word that came last came from more than half the way
reach-half : (t p : ℕ) → 1 ≤ p → p < 2 ^ t → p < reach t p + reach t p
reach-half zero p some l = absurd (omega arith)
reach-half (suc t) p some l = half_if (nat_le (2 ^ t) p) t p (reach t p) refl l (λ m. reach-half t p some m)

reach_if : (b : Bool) (t p r : ℕ) → nat_le (2 ^ t) p ≡ b → r ≤ p → cond b (2 ^ t) r ≤ p
reach_if true t p r e h = grind (arith, nat_tests)
reach_if false t p r e h = h

reach-le : (t p : ℕ) → reach t p ≤ p
reach-le zero p = omega arith
reach-le (suc t) p = reach_if (nat_le (2 ^ t) p) t p (reach t p) refl (reach-le t p)

is_received : (input : Input) (k p : ℕ) → p < 2 ^ k → received_from input p (reach k p) ≡ word_received input k p
unfolding received_from
is_received input k zero l =
    let none : reach k zero ≡ zero = (let h : reach k zero ≤ zero = reach-le k zero in omega arith) in
    ap (λ far. cond (far == 0) (get_or (first_of input zero) 1 0) (window (word_of_process input) (zero - far) far % 2 ^ 64)) none
is_received input k (suc p) l =
    let far = reach k (suc p) in
    let near : far ≤ suc p = reach-le k (suc p) in
    let half : suc p < far + far = reach-half k (suc p) (omega arith) l in
    let some : (far == 0) ≡ false = grind (arith, nat_tests) in
    let not_first : (suc p == 0) ≡ false = grind (arith, nat_tests) in
    ap (λ b. cond b (get_or (first_of input (suc p)) 1 0) (window (word_of_process input) (suc p - far) far % 2 ^ 64)) some
    ∙ ap (λ w. w % 2 ^ 64) (window-all (word_of_process input) (suc p - far) far (omega arith))
    ∙ ap (λ b. cond b (get_or (first_of input (suc p)) 1 0) (prefix_sum input (suc p - far))) (sym not_first)

-- The memory of a process at the end.
pub memory_at_end : (input : Input) (k : ℕ) → EndsAfter input k → k ≤ 6 → (p : ℕ) → p < length input.mems → p < 2 ^ k
    → get_or (added (suc k) (memory_after (first_of input) k) p) 0 0 ≡ prefix_sum input p
    → added (suc k) (memory_after (first_of input) k) p ≡ memory_summed input k p
memory_at_end input k h few p l m sum =
    let memory = memory_after (first_of input) k in
    let b = has_received (suc k) p in
    let long : 2 ≤ length (first_of input p) = h.words p [] l in
    let second : get_or (added (suc k) memory p) 1 0 ≡ word_received input k p = second-added b (memory p) ∙ received input k h few k (omega arith) p l ∙ is_received input k p m in
    but_for_two (first_of input p) (added (suc k) memory p) long (IsBefore-added b (rest_of (first_of input p)) (memory p) (IsBefore-after (first_of input) k p long))
    ∙ (λ i. set (set (first_of input p) 1 (second i)) 0 (sum i))
