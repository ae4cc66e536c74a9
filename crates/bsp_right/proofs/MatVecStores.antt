-- Stores of a list of words, and what they leave.
use Rattle.std.proofs.Common.{◌+◌, ◌++◌, ◌<◌, List, None, [], ap, append_assoc, arith, get_or, length, refl, set, suc, sym, zero, ℕ, ◌∙◌, ◌∷◌, ◌≡◌, ◌≢◌, ◌≤◌}
use Rattle.std.proofs.lemmas.List.{append-nil, get_or-set_other, get_or-set_same, length-set}
use Rattle.bsp_model.specs.declared.request.Store.{Store}
use Rattle.bsp_step.specs.Context.{Context}
use Rattle.bsp_step.specs.Perform.{perform_all}
use Rattle.bsp_step.specs.Blocks.{stored, stores}
use Rattle.bsp_right.proofs.ActsAllowed.{perform-store}

-- the record of these stores
abbrev pub logged : ℕ → List ℕ → List Store
logged start [] = []
logged start (word ∷ words) = record { addr = start; value = word } ∷ logged (start + 1) words

pub length-stored : (words memory : List ℕ) (start : ℕ) → length (stored memory start words) ≡ length memory
length-stored [] memory start = refl
length-stored (word ∷ words) memory start = length-stored words (set memory start word) (start + 1) ∙ length-set memory start word

pub perform_all-stores : (words : List ℕ) (start : ℕ) (c : Context) → c.fault ≡ None → start + length words ≤ length c.memory
    → perform_all c (stores start words) ≡ record c { memory = stored c.memory start words; stores = c.stores ++ logged start words }
perform_all-stores [] start c faultless inside = ap (λ ss. record c { stores = ss }) (sym (append-nil c.stores))
perform_all-stores (word ∷ words) start c faultless inside =
    let next : Context = record c { memory = set c.memory start word; stores = c.stores ++ record { addr = start; value = word } ∷ [] } in
    ap (λ d. perform_all d (stores (start + 1) words)) (perform-store c start word faultless (omega arith))
    ∙ perform_all-stores words (start + 1) next faultless (omega (arith, length-set c.memory start word))
    ∙ ap (λ ss. record c { memory = stored (set c.memory start word) (start + 1) words; stores = ss }) (append_assoc c.stores (record { addr = start; value = word } ∷ []) (logged (start + 1) words))

-- a word outside is as it was
pub stored-outside : (words memory : List ℕ) (start a : ℕ) → (start ≤ a → start + length words ≤ a) → get_or (stored memory start words) a 0 ≡ get_or memory a 0
stored-outside [] memory start a h = refl
stored-outside (word ∷ words) memory start a h =
    let apart : a ≢ start = λ e. (let past : start + suc (length words) ≤ a = h (omega (arith, e)) in omega (arith, e)) in
    stored-outside words (set memory start word) (start + 1) a (λ l. (let past : start + suc (length words) ≤ a = h (omega arith) in omega arith))
    ∙ get_or-set_other memory start a word 0 apart

-- a word inside is the one that was stored
pub stored-inside : (words memory : List ℕ) (start i : ℕ) → i < length words → start + length words ≤ length memory → get_or (stored memory start words) (start + i) 0 ≡ get_or words i 0
stored-inside [] memory start i l h = absurd (omega arith)
stored-inside (word ∷ words) memory start zero l h =
    let here : start + zero ≡ start = omega arith in
    stored-outside words (set memory start word) (start + 1) (start + zero) (λ m. absurd (omega arith))
    ∙ ap (λ a. get_or (set memory start word) a 0) here
    ∙ get_or-set_same memory start word 0 (omega arith)
stored-inside (word ∷ words) memory start (suc i) l h =
    let next : start + suc i ≡ start + 1 + i = omega arith in
    ap (λ a. get_or (stored (set memory start word) (start + 1) words) a 0) next
    ∙ stored-inside words (set memory start word) (start + 1) i (omega arith) (omega (arith, length-set memory start word))
