-- What the gets of list ranking read.
use Rattle.std.proofs.Common.{◌&&◌, ◌-◌, ◌<◌, All, List, None, Some, [], ◌^◌, ap, arith, cond, false, get_or, min, nat_le, nat_lt, refl, subst, suc, sym, zero, ℕ, ◌∙◌, ◌∷◌, ◌≡◌}
use Rattle.std.proofs.lemmas.Bool.Decides.{nat_tests}
use Rattle.bsp_model.specs.declared.request.Get.{Get}
use Rattle.bsp_deliver.specs.Delivery.{Write, delivery_parts, next_memory, word_of, written}
use Rattle.bsp_deliver.specs.Requests.{each_below}
use Rattle.bsp_right.specs.Orders.{IsOrder}
use Rattle.bsp_right.proofs.GetsRead.{next_memory-reads}
use Rattle.bsp_right.proofs.RankTurns.{Linked, ask, asks, double, fourth_word, memory_found, memory_left, onward, third_word}
use Rattle.bsp_right.proofs.WordsWritten.{written_by, written_by-none}

-- two words that are written as the third and the fourth
two_words_at : ℕ → ℕ → Write
two_words_at x y = record { start = 2; words = x ∷ y ∷ [] }

later : (a : ℕ) → (nat_le 2 (suc (suc (suc (suc a)))) && nat_lt (suc (suc (suc (suc a)))) 4) ≡ false
later a = grind (arith, nat_tests)

-- word a of a memory with these words, after that write
pub two_written : (p q r s x y : ℕ) (rest : List ℕ) (a : ℕ) → written (record { start = 2; words = x ∷ y ∷ [] } ∷ []) a (get_or (p ∷ q ∷ r ∷ s ∷ rest) a 0) ≡ get_or (p ∷ q ∷ x ∷ y ∷ rest) a 0
unfolding two_words_at
two_written p q r s x y rest zero = refl
two_written p q r s x y rest (suc zero) = refl
two_written p q r s x y rest (suc (suc zero)) = refl
two_written p q r s x y rest (suc (suc (suc zero))) = refl
two_written p q r s x y rest (suc (suc (suc (suc a)))) = ap (λ b. word_of (suc (suc (suc (suc a)))) (cond b (Some (two_words_at x y)) None) (get_or rest a 0)) (later a)

-- the element so far on is a process
pub onward-below : (n : ℕ) (list : Linked) → IsOrder n list.element list.successors → (far p : ℕ) → p < n → onward list far p < n
onward-below n list order far p l = (order.elements (list.successors p - far) (omega (arith, (order.places p l).0))).0

-- how many successors it has
pub onward-successors : (n : ℕ) (list : Linked) → IsOrder n list.element list.successors → (far p : ℕ) → p < n → list.successors (onward list far p) ≡ list.successors p - far
onward-successors n list order far p l = (order.elements (list.successors p - far) (omega (arith, (order.places p l).0))).1

-- The memory of process d in the next superstep.
pub found_next : (n : ℕ) (list : Linked) → IsOrder n list.element list.successors → (t d : ℕ) → d < n → next_memory (delivery_parts (each_below n (asks list t)) d) ≡ memory_found list (suc t) d
found_next n list order t d l =
    let far = 2 ^ t in
    let owner = onward list far d in
    let left : list.successors owner ≡ list.successors d - far = onward-successors n list order far d l in
    let twice : list.successors owner - far ≡ list.successors d - 2 ^ suc t = omega (arith, double t) in
    let third : onward list far owner ≡ onward list (2 ^ suc t) d = ap list.element twice in
    let fourth : min far (list.successors owner) ≡ min far (list.successors d - far) = ap (min far) left in
    let known : All (λ (g : Get). g.owner < n) (ask owner ∷ []) = λ k e m. (let first : k ≡ 0 = omega arith in subst (λ j. (get_or (ask owner ∷ []) j e).owner < n) (sym first) (onward-below n list order far d l)) in
    next_memory-reads n d (asks list t) (memory_found list (suc t) d) l known refl (λ a _.
    (λ i. written_by d a (asks list t) 0 n (written (record { start = 2; words = third i ∷ fourth i ∷ [] } ∷ []) a (get_or (memory_left list t d) a 0)))
    ∙ written_by-none d a (asks list t) n 0 (written (record { start = 2; words = onward list (2 ^ suc t) d ∷ min far (list.successors d - far) ∷ [] } ∷ []) a (get_or (memory_left list t d) a 0)) (λ p _ _. refl)
    ∙ two_written (onward list far d) (min far (list.successors d)) (third_word list t d) (fourth_word list t d) (onward list (2 ^ suc t) d) (min far (list.successors d - far)) (list.rest d) a)
