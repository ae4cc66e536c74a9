-- The turn in which a process takes the blocks of all processes.
use Rattle.std.proofs.Common.{◌*◌, ◌+◌, ◌++◌, ◌<◌, ◌==◌, List, None, Some, [], ap, append_assoc, arith, cond, get_or, inl, inr, length, map, nat_lt, refl, suc, sym, true, zero, ℕ, ◌∙◌, ◌∷◌, ◌≡◌, ◌≤◌}
use Rattle.std.proofs.lemmas.Bool.{cases_lt, eq-eqb, lt-ltb}
use Rattle.std.proofs.lemmas.List.{append-nil}
use Rattle.std.specs.List.{range_with_len}
use Rattle.bsp_model.specs.declared.request.Message.{Message}
use Rattle.bsp_model.specs.declared.request.Store.{Store}
use Rattle.bsp_step.specs.Act.{move_into}
use Rattle.bsp_step.specs.Context.{Context}
use Rattle.bsp_step.specs.Perform.{perform, perform_all}
use Rattle.bsp_step.specs.Plan.{Plan, after}
use Rattle.bsp_programs.specs.MatVec.{given_sender, matvec_multiplying, matvec_receiving, vector_start}
use Rattle.bsp_step.specs.Blocks.{stored, stores}
use Rattle.bsp_right.proofs.ActsAllowed.{leaves, leaves-after, perform-move}
use Rattle.bsp_right.proofs.MatVecStores.{length-stored, logged, perform_all-stores, stored-inside, stored-outside}

-- the block of process q, as a message
abbrev pub block_message : (ℕ → List ℕ) → ℕ → Message
block_message block q = record { tag = q ∷ []; words = block q }

-- a memory after the blocks of m processes from k on were stored, each at its process's place
abbrev pub received : ℕ → ℕ → (ℕ → List ℕ) → List ℕ → ℕ → ℕ → List ℕ
received place b block memory k zero = memory
received place b block memory k (suc m) = received place b block (stored memory (place + k * b) (block k)) (k + 1) m

abbrev pub received_log : ℕ → ℕ → (ℕ → List ℕ) → ℕ → ℕ → List Store
received_log place b block k zero = []
received_log place b block k (suc m) = logged (place + k * b) (block k) ++ received_log place b block (k + 1) m

-- the state of a turn that has taken them
abbrev pub taken : ℕ → ℕ → (ℕ → List ℕ) → Context → ℕ → ℕ → Context
taken place b block c k m = record c { memory = received place b block c.memory k m; left = []; stores = c.stores ++ received_log place b block k m }

pub length-received : (place b : ℕ) (block : ℕ → List ℕ) (m k : ℕ) (memory : List ℕ) → length (received place b block memory k m) ≡ length memory
length-received place b block zero k memory = refl
length-received place b block (suc m) k memory = length-received place b block m (k + 1) (stored memory (place + k * b) (block k)) ∙ length-stored (block k) memory (place + k * b)

-- one block: it is taken, and its words are stored
block_taken : (n b k : ℕ) (block : ℕ → List ℕ) (rest : List Message) (c : Context) → c.fault ≡ None → k < n → length (block k) ≡ b → c.left ≡ block_message block k ∷ rest → vector_start n b + k * b + b ≤ length c.memory
    → leaves c (matvec_receiving n b c.memory (block_message block k ∷ rest))
    ≡ leaves (record c { memory = stored c.memory (vector_start n b + k * b) (block k); left = rest; stores = c.stores ++ logged (vector_start n b + k * b) (block k) }) (matvec_receiving n b (stored c.memory (vector_start n b + k * b) (block k)) rest)
block_taken n b k block rest c faultless known full is inside =
    let place = vector_start n b in
    let acts = move_into b ∷ stores (place + k * b) (block k) in
    let later : Plan = matvec_receiving n b (stored c.memory (place + k * b) (block k)) rest in
    let same : (length (block k) == b) ≡ true = eq-eqb (length (block k)) b full in
    let below : nat_lt k n ≡ true = lt-ltb k n known in
    let moved : perform c (move_into b) ≡ record c { left = rest } = perform-move c b (block_message block k) rest faultless is in
    (λ i. leaves c (given_sender (cond (same i) (cond (below i) (Some k) None) None) (λ j. after (move_into b ∷ stores (place + j * b) (block k)) (matvec_receiving n b (stored c.memory (place + j * b) (block k)) rest))))
    ∙ leaves-after c acts later
    ∙ ap (λ d. leaves (perform_all d (stores (place + k * b) (block k))) later) moved
    ∙ ap (λ d. leaves d later) (perform_all-stores (block k) (place + k * b) (record c { left = rest }) faultless (omega arith))

-- All blocks.
pub blocks_taken : (n b : ℕ) (block : ℕ → List ℕ) → ((q : ℕ) → length (block q) ≡ b) → (m k : ℕ) (c : Context) → c.fault ≡ None → k + m ≤ n → c.left ≡ map (block_message block) (range_with_len k m) → vector_start n b + (k + m) * b ≤ length c.memory
    → leaves c (matvec_receiving n b c.memory (map (block_message block) (range_with_len k m))) ≡ leaves (taken (vector_start n b) b block c k m) (matvec_multiplying n b (received (vector_start n b) b block c.memory k m))
blocks_taken n b block full zero k c faultless known is inside =
    λ i. leaves (record c { left = is i; stores = sym (append-nil c.stores) i }) (matvec_multiplying n b c.memory)
blocks_taken n b block full (suc m) k c faultless known is inside =
    let place = vector_start n b in
    let rest = map (block_message block) (range_with_len (k + 1) m) in
    let memory = stored c.memory (place + k * b) (block k) in
    let next : Context = record c { memory = memory; left = rest; stores = c.stores ++ logged (place + k * b) (block k) } in
    let size : length memory ≡ length c.memory = length-stored (block k) c.memory (place + k * b) in
    block_taken n b k block rest c faultless (omega arith) (full k) is (omega arith)
    ∙ blocks_taken n b block full m (k + 1) next faultless (omega arith) refl (omega arith)
    ∙ ap (λ ss. leaves (record c { memory = received place b block memory (k + 1) m; left = []; stores = ss }) (matvec_multiplying n b (received place b block memory (k + 1) m))) (append_assoc c.stores (logged (place + k * b) (block k)) (received_log place b block (k + 1) m))

-- a word outside the places is as it was
pub received-outside : (place b : ℕ) (block : ℕ → List ℕ) → ((q : ℕ) → length (block q) ≡ b) → (m k : ℕ) (memory : List ℕ) (a : ℕ) → (place + k * b ≤ a → place + (k + m) * b ≤ a) → get_or (received place b block memory k m) a 0 ≡ get_or memory a 0
received-outside place b block full zero k memory a h = refl
received-outside place b block full (suc m) k memory a h =
    received-outside place b block full m (k + 1) (stored memory (place + k * b) (block k)) a (λ l. (let past : place + (k + suc m) * b ≤ a = h (omega arith) in omega arith))
    ∙ stored-outside (block k) memory (place + k * b) a (λ l. (let past : place + (k + suc m) * b ≤ a = h l in omega (arith, full k)))

-- word i at the place of process q is that of its block
pub received-inside : (place b : ℕ) (block : ℕ → List ℕ) → ((q : ℕ) → length (block q) ≡ b) → (m k : ℕ) (memory : List ℕ) (q i : ℕ) → k ≤ q → q < k + m → i < b → place + (k + m) * b ≤ length memory
    → get_or (received place b block memory k m) (place + q * b + i) 0 ≡ get_or (block q) i 0
received-inside place b block full zero k memory q i low high l h = absurd (omega arith)
received-inside place b block full (suc m) k memory q i low high l h =
    let next = stored memory (place + k * b) (block k) in
    let size : length next ≡ length memory = length-stored (block k) memory (place + k * b) in
    elim (cases_lt k q) [
      | inl less ↦ received-inside place b block full m (k + 1) next q i (omega arith) (omega arith) l (omega arith)
      | inr more ↦
          let same : q ≡ k = omega arith in
          ap (λ j. get_or (received place b block next (k + 1) m) (place + j * b + i) 0) same
          ∙ received-outside place b block full m (k + 1) next (place + k * b + i) (λ past. absurd (omega arith))
          ∙ stored-inside (block k) memory (place + k * b) i (omega (arith, full k)) (omega (arith, full k))
          ∙ ap (λ j. get_or (block j) i 0) (sym same)
    ]
