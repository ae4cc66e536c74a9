-- The sums.
use Rattle.std.proofs.Common.{◌%◌, ◌&&◌, ◌+◌, ◌-◌, ◌<◌, Bool, List, [], ◌^◌, ap, arith, cond, false, get_or, length, nat_le, refl, set, suc, sym, true, zero, ℕ, ◌∙◌, ◌≡◌, ◌≤◌}
use Rattle.std.proofs.Math.Nat.{add-mod, mod-eq_of_lt}
use Rattle.std.proofs.lemmas.List.{get_or-set_other, get_or-set_same, length-set}
use Rattle.std.specs.Prelude.{min}
use Rattle.std.proofs.lemmas.Bool.Decides.{nat_tests}
use Rattle.bsp_model.specs.Limits.{most_processes}
use Rattle.bsp_model.specs.declared.input.Input.{Input}
use Rattle.bsp_model.proofs.Inputs.{lawful_input}
use Rattle.bsp_programs.specs.Doubling.{distance}
use Rattle.bsp_programs.specs.Prefix.{has_received}
use Rattle.bsp_right.specs.Sums.{sum_before}
use Rattle.bsp_right.specs.Summed.{word_of_process}
use Rattle.bsp_right.proofs.PrefixSupersteps.{EndsAfter, first_of, has_words, memory_after}
use Rattle.bsp_right.proofs.PrefixTurns.{added, added_if, length-added_at}
use Rattle.bsp_right.proofs.PrefixWords.{passed_on}

-- The sums.
distance-late : (s : ℕ) → 8 ≤ s → distance s ≡ 128
distance-late s h = let e : min s 8 ≡ 8 = omega arith in ap (λ x. 2 ^ (x - 1)) e

distance-doubles : (t : ℕ) → distance (suc t) < 64 → distance (suc (suc t)) ≡ distance (suc t) + distance (suc t)
distance-doubles zero h = refl
distance-doubles (suc zero) h = refl
distance-doubles (suc (suc zero)) h = refl
distance-doubles (suc (suc (suc zero))) h = refl
distance-doubles (suc (suc (suc (suc zero)))) h = refl
distance-doubles (suc (suc (suc (suc (suc zero))))) h = refl
distance-doubles (suc (suc (suc (suc (suc (suc zero)))))) h = refl
distance-doubles (suc (suc (suc (suc (suc (suc (suc t))))))) h = absurd (omega (arith, distance-late (suc (suc (suc (suc (suc (suc (suc (suc t)))))))) (omega arith)))

grows : (x : ℕ → ℕ) (i j : ℕ) → sum_before x i ≤ sum_before x (i + j)
grows x i zero = let e : sum_before x i ≡ sum_before x (i + zero) = ap (sum_before x) (omega arith) in omega arith
grows x i (suc j) = let e : sum_before x (i + suc j) ≡ sum_before x (i + j) + x (i + j) = ap (sum_before x) (let f : i + suc j ≡ suc (i + j) = omega arith in f) in omega (arith, grows x i j)

received_is : (t p : ℕ) → has_received (suc (suc t)) p ≡ nat_le (distance (suc t)) p
received_is t p =
    let two : nat_le 2 (suc (suc t)) ≡ true = grind (arith, nat_tests) in
    let one : suc (suc t) - 1 ≡ suc t = omega arith in
    λ i. two i && nat_le (distance (one i)) p

-- the sum of the words of the processes up to p that are less than this far off
abbrev pub window : (ℕ → ℕ) → ℕ → ℕ → ℕ
window x p far = sum_before x (p + 1) - sum_before x (p + 1 - far)

window-one : (x : ℕ → ℕ) (p : ℕ) → window x p 1 ≡ x p
window-one x p =
    let a : sum_before x (p + 1) ≡ sum_before x p + x p = ap (sum_before x) (let f : p + 1 ≡ suc p = omega arith in f) in
    let b : sum_before x (p + 1 - 1) ≡ sum_before x p = ap (sum_before x) (omega arith) in
    omega arith

window-more : (x : ℕ → ℕ) (p far : ℕ) → far ≤ p → window x p far + window x (p - far) far ≡ window x p (far + far)
window-more x p far h =
    let a : sum_before x (p - far + 1) ≡ sum_before x (p + 1 - far) = ap (sum_before x) (omega arith) in
    let b : sum_before x (p - far + 1 - far) ≡ sum_before x (p + 1 - (far + far)) = ap (sum_before x) (omega arith) in
    let c : sum_before x (p + 1 - far) ≤ sum_before x (p + 1) = (let e : sum_before x (p + 1 - far + far) ≡ sum_before x (p + 1) = ap (sum_before x) (omega arith) in omega (arith, grows x (p + 1 - far) far)) in
    let d : sum_before x (p + 1 - (far + far)) ≤ sum_before x (p + 1 - far) = (let e : sum_before x (p + 1 - (far + far) + (p + 1 - far - (p + 1 - (far + far)))) ≡ sum_before x (p + 1 - far) = ap (sum_before x) (omega arith) in omega (arith, grows x (p + 1 - (far + far)) (p + 1 - far - (p + 1 - (far + far))))) in
    omega arith

pub window-all : (x : ℕ → ℕ) (p far : ℕ) → p < far → window x p far ≡ sum_before x (p + 1)
window-all x p far h = let z : p + 1 - far ≡ zero = omega arith in let e : sum_before x (p + 1 - far) ≡ sum_before x zero = ap (sum_before x) z in omega (arith, e)

add_mods : (a b m : ℕ) → (a % m + b % m) % m ≡ (a + b) % m
add_mods a b m = sym (add-mod a b m)

below_mod : (a m : ℕ) → a < m → a % m ≡ a
below_mod a m h = mod-eq_of_lt h

sum_if : (b : Bool) (A : List ℕ) (v : ℕ) → 2 ≤ length A → get_or (added_if b (cond b (set A 1 v) A)) 0 0 ≡ cond b ((get_or A 0 0 + v) % 2 ^ 64) (get_or A 0 0)
sum_if true A v h =
    let zeroth : get_or (set A 1 v) 0 0 ≡ get_or A 0 0 = get_or-set_other A 1 0 v 0 (λ e. omega (arith, e)) in
    let next : get_or (set A 1 v) 1 0 ≡ v = get_or-set_same A 1 v 0 (omega arith) in
    get_or-set_same (set A 1 v) 0 ((get_or (set A 1 v) 0 0 + get_or (set A 1 v) 1 0) % 2 ^ 64) 0 (omega (arith, length-set A 1 v))
    ∙ (λ i. (zeroth i + next i) % 2 ^ 64)
sum_if false A v h = refl

window_if : (b : Bool) (x : ℕ → ℕ) (p far a v : ℕ) → nat_le far p ≡ b → a ≡ window x p far % 2 ^ 64 → (far ≤ p → v ≡ window x (p - far) far % 2 ^ 64) → cond b ((a + v) % 2 ^ 64) a ≡ window x p (far + far) % 2 ^ 64
window_if true x p far a v e h g =
    let reach : far ≤ p = grind (arith, nat_tests) in
    (λ i. (h i + g reach i) % 2 ^ 64) ∙ add_mods (window x p far) (window x (p - far) far) (2 ^ 64) ∙ ap (λ w. w % 2 ^ 64) (window-more x p far reach)
window_if false x p far a v e h g =
    let short : p < far = grind (arith, nat_tests) in
    let more : p < far + far = omega arith in
    h ∙ ap (λ w. w % 2 ^ 64) (window-all x p far short ∙ sym (window-all x p (far + far) more))

-- word 0 of a process after it adds in superstep t + 1
pub sums : (input : Input) (k : ℕ) → EndsAfter input k → (t : ℕ) → t ≤ k → (p : ℕ) → p < length input.mems → get_or (added (suc t) (memory_after (first_of input) t) p) 0 0 ≡ window (word_of_process input) p (distance (suc t)) % 2 ^ 64
sums input k h zero l p m = sym (ap (λ w. w % 2 ^ 64) (window-one (word_of_process input) p) ∙ below_mod (word_of_process input p) (2 ^ 64) (h.small p [] m))
sums input k h (suc t) l p m =
    let x = word_of_process input in
    let D = distance (suc t) in
    let memory = memory_after (first_of input) t in
    let A = added (suc t) memory p in
    let v = get_or (added (suc t) memory (p - D)) 0 0 in
    let long : 2 ≤ length A = omega (arith, length-added_at (suc t) memory p, has_words input k h t p m) in
    let near : distance (suc t) < length input.mems = h.before t (omega arith) in
    let few : length input.mems ≤ most_processes = (lawful_input input h.lawful).few_processes in
    let doubles : distance (suc (suc t)) ≡ D + D = distance-doubles t (omega arith) in
    ap (λ b. get_or (added_if b (passed_on (suc t) memory p)) 0 0) (received_is t p)
    ∙ sum_if (nat_le D p) A v long
    ∙ window_if (nat_le D p) x p D (get_or A 0 0) v refl (sums input k h t (omega arith) p m) (λ d. sums input k h t (omega arith) (p - D) (omega arith))
    ∙ ap (λ f. window x p f % 2 ^ 64) (sym doubles)
