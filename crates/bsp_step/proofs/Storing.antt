-- One call that stores several words is as many stores.
use Rattle.std.proofs.Common.{◌≡◌, ◌≤◌, ◌<◌, ◌+◌, ◌-◌, ◌++◌, ◌∷◌, [], ℕ, List, true, false, Some, None, length, min, take, drop, refl, sym, ap, ◌∙◌, arith, add-zero, append_assoc, append-nil, take-append-drop}
use Rattle.std.specs.Prelude.{nat_lt, slice_set}
use Rattle.std.proofs.lemmas.Bool.Decides.{nat_tests}
use Rattle.std.proofs.lemmas.Grind.{common_steps}
use Rattle.bsp_model.specs.Memory.{memory_written}
use Rattle.bsp_model.specs.declared.request.Store.{Store}
use Rattle.bsp_model.specs.declared.fault.Fault.TheVariants.{BadLocal}
use Rattle.bsp_step.specs.Context.{Context}
use Rattle.bsp_step.specs.Act.{store}
use Rattle.bsp_step.specs.Perform.{perform, perform_all, done}
use Rattle.bsp_model.specs.Stores.{records}
use Rattle.bsp_step.specs.Blocks.{stores, stored, with_stored}
use Rattle.bsp_step.proofs.Performing.{perform_all-kept, perform_all-append}

pub perform-store : (c : Context) (a value : ℕ) → c.fault ≡ None → a < length c.memory → perform c (store a value) ≡ done c (store a value)
perform-store c a value none within = let test : nat_lt a (length c.memory) ≡ true = grind (arith, nat_tests) in rw (none, test) refl

perform-store_past : (c : Context) (a value : ℕ) → c.fault ≡ None → length c.memory ≤ a → perform c (store a value) ≡ record c { fault = Some BadLocal }
perform-store_past c a value none past = let test : nat_lt a (length c.memory) ≡ false = grind (arith, nat_tests) in rw (none, test) refl

pub perform_all-stores : (c : Context) (start : ℕ) (words : List ℕ) → c.fault ≡ None → length words ≤ length c.memory - start → perform_all c (stores start words) ≡ with_stored c start words
perform_all-stores c start [] none within = ap (λ (kept : List Store). record c { stores = kept }) (sym (append-nil c.stores))
perform_all-stores c start (word ∷ words) none within =
    let long : length (slice_set c.memory start word) ≡ length c.memory = grind (arith, common_steps) in
    ap (λ (d : Context). perform_all d (stores (start + 1) words)) (perform-store c start word none (omega arith))
    ∙ (perform_all-stores (done c (store start word)) (start + 1) words none (omega arith)
    ∙ ap (λ (kept : List Store). record c { memory = stored (slice_set c.memory start word) (start + 1) words; stores = kept }) (append_assoc c.stores _ (records (start + 1) words)))

perform_all-stores_past : (c : Context) (start : ℕ) (words : List ℕ) → c.fault ≡ None → length c.memory ≤ start → 0 < length words → perform_all c (stores start words) ≡ record c { fault = Some BadLocal }
perform_all-stores_past c start [] none past some = absurd (omega arith)
perform_all-stores_past c start (word ∷ words) none past some =
    ap (λ (d : Context). perform_all d (stores (start + 1) words)) (perform-store_past c start word none past)
    ∙ (perform_all-kept (record c { fault = Some BadLocal }) (stores (start + 1) words) BadLocal refl)

pub stores-append : (start : ℕ) (xs ys : List ℕ) → stores start (xs ++ ys) ≡ stores start xs ++ stores (start + length xs) ys
stores-append start [] ys = ap (λ k. stores k ys) (sym (add-zero start))
stores-append start (x ∷ xs) ys =
    let next : start + 1 + length xs ≡ start + length (x ∷ xs) = omega arith in
    ap (λ acts. store start x ∷ acts) (stores-append (start + 1) xs ys ∙ ap (λ k. stores (start + 1) xs ++ stores k ys) next)

pub length-stored : (memory : List ℕ) (start : ℕ) (words : List ℕ) → length (stored memory start words) ≡ length memory
length-stored memory start [] = refl
length-stored memory start (word ∷ words) =
    let long : length (slice_set memory start word) ≡ length memory = grind (arith, common_steps) in
    length-stored (slice_set memory start word) (start + 1) words ∙ long

-- a call whose words are all within the memory
pub stores_within : (c new : Context) (start n : ℕ) (words inside past : List ℕ) → c.fault ≡ None → inside ≡ take n words → past ≡ drop n words → length inside ≤ length c.memory - start → length past ≡ 0 → new ≡ with_stored c start inside → (new ≡ perform_all c (stores start words)) × (new ≡ with_stored c start words)
stores_within c new start n words inside past none front back within all e =
    let same : inside ≡ words = grind (arith, common_steps) in
    (e ∙ sym (perform_all-stores c start inside none within) ∙ ap (λ ws. perform_all c (stores start ws)) same, e ∙ ap (with_stored c start) same)

-- a call whose words pass the end of the memory
pub stores_past : (c new : Context) (start n : ℕ) (words inside past : List ℕ) → c.fault ≡ None → inside ≡ take n words → past ≡ drop n words → n ≡ min (length words) (length c.memory - start) → 0 < length past → new ≡ record (with_stored c start inside) { fault = Some BadLocal } → new ≡ perform_all c (stores start words)
stores_past c new start n words inside past none front back few some e =
    let whole : inside ++ past ≡ words = ap (λ ws. ws ++ past) front ∙ ap (λ ws. take n words ++ ws) back ∙ take-append-drop n words in
    let long : length inside ≡ n = grind (arith, common_steps) in
    let end : length c.memory ≤ start + length inside = grind (arith, common_steps) in
    e
    ∙ sym (perform_all-stores_past (with_stored c start inside) (start + length inside) past none (omega (arith, length-stored c.memory start inside)) some)
    ∙ ap (λ (d : Context). perform_all d (stores (start + length inside) past)) (sym (perform_all-stores c start inside none (omega arith)))
    ∙ sym (perform_all-append c (stores start inside) (stores (start + length inside) past))
    ∙ ap (perform_all c) (sym (stores-append start inside past))
    ∙ ap (λ ws. perform_all c (stores start ws)) whole

pub stored-is : (memory : List ℕ) (start : ℕ) (words : List ℕ) → start + length words ≤ length memory → stored memory start words ≡ take start memory ++ words ++ drop (start + length words) memory
stored-is memory start [] within = grind (arith, common_steps)
stored-is memory start (word ∷ words) within =
    let long : length (slice_set memory start word) ≡ length memory = grind (arith, common_steps) in
    stored-is (slice_set memory start word) (start + 1) words (omega arith) ∙ grind (arith, common_steps)

-- the stores are one write
pub stored-written : (memory : List ℕ) (start : ℕ) (words : List ℕ) → length words ≤ length memory - start → memory_written memory start words ≡ stored memory start words
stored-written memory start [] within = grind (arith, common_steps, nat_tests)
stored-written memory start (word ∷ words) within = let whole = stored-is memory start (word ∷ words) (omega arith) in grind (arith, nat_tests)
