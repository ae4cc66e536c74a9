-- What puts of one word write.
use Rattle.std.proofs.Common.{◌≡◌, ◌≢◌, ◌+◌, ◌-◌, ◌==◌, ◌&&◌, ◌∙◌, ℕ, true, false, cond, List, Some, None, [], ◌∷◌, map, filter, get_or, nat_le, nat_lt, arith, ap, refl}
use Rattle.std.proofs.lemmas.Bool.Decides.{nat_tests}
use Rattle.bsp_model.specs.declared.request.Put.{Put}
use Rattle.bsp_deliver.specs.Delivery.{word_of, write_of, written}
use Rattle.bsp_deliver.proofs.Writes.{written-append}

-- a put of one word
abbrev pub word_put : ℕ → ℕ → ℕ → Put
word_put target start word = record { target = target; start = start; words = word ∷ [] }

-- what these puts leave at word a of process d
abbrev pub after_puts : ℕ → ℕ → List Put → ℕ → ℕ
after_puts d a puts word = written (map write_of (filter (λ (q : Put). q.target == d) puts)) a word

-- one put after the other
pub after_puts-cons : (d a : ℕ) (x : Put) (rest : List Put) (word : ℕ) → after_puts d a (x ∷ rest) word ≡ after_puts d a rest (after_puts d a (x ∷ []) word)
after_puts-cons d a x rest word =
    let later = filter (λ (q : Put). q.target == d) rest in
    elim (x.target == d) as (λ b. written (map write_of (cond b (x ∷ later) later)) a word ≡ written (map write_of later) a (written (map write_of (cond b (x ∷ []) [])) a word)) [
      | true ↦ written-append (write_of x ∷ []) (map write_of later) a word
      | false ↦ refl
    ]

on_word : (start a : ℕ) → start ≡ a → (nat_le start a && nat_lt a (start + 1)) ≡ true
on_word start a h = grind (arith, nat_tests)

off_word : (start a : ℕ) → start ≢ a → (nat_le start a && nat_lt a (start + 1)) ≡ false
off_word start a h = grind (arith, nat_tests)

-- a put to that word
pub after_puts-on : (d a target start word w : ℕ) → target ≡ d → start ≡ a → after_puts d a (word_put target start word ∷ []) w ≡ word
after_puts-on d a target start word w to at =
    let x = word_put target start word in
    let there : (target == d) ≡ true = grind (arith, nat_tests) in
    let first : a - start ≡ 0 = omega arith in
    ap (λ b. written (map write_of (cond b (x ∷ []) [])) a w) there
    ∙ ap (λ b. word_of a (cond b (Some (write_of x)) None) w) (on_word start a at)
    ∙ ap (λ k. get_or (word ∷ []) k 0) first

-- a put to another process
pub after_puts-away : (d a target start word w : ℕ) → target ≢ d → after_puts d a (word_put target start word ∷ []) w ≡ w
after_puts-away d a target start word w other =
    let x = word_put target start word in
    let off : (target == d) ≡ false = grind (arith, nat_tests) in
    ap (λ b. written (map write_of (cond b (x ∷ []) [])) a w) off

-- a put to another word
pub after_puts-beside : (d a target start word w : ℕ) → start ≢ a → after_puts d a (word_put target start word ∷ []) w ≡ w
after_puts-beside d a target start word w other =
    let x = word_put target start word in
    elim (target == d) as (λ b. written (map write_of (cond b (x ∷ []) [])) a w ≡ w) [
      | true ↦ ap (λ b. word_of a (cond b (Some (write_of x)) None) w) (off_word start a other)
      | false ↦ refl
    ]
