-- Acts that pass their checks.
use Rattle.std.proofs.Common.{◌≡◌, ◌≤◌, ◌<◌, ◌+◌, ◌++◌, ◌∙◌, ℕ, zero, suc, List, None, Some, [], ◌∷◌, map, length, get_or, set, nat_le, nat_lt, true, arith, ap, refl, sym, append_assoc, inl, inr}
use Rattle.std.specs.List.{range_with_len}
use Rattle.std.proofs.lemmas.Bool.{cases_lt, le-leb, lt-ltb}
use Rattle.std.proofs.lemmas.List.{append-nil, length-set, get_or-set_same, get_or-set_other}
use Rattle.bsp_model.specs.Limits.{most_requests}
use Rattle.bsp_model.specs.declared.fault.Fault.TheVariants.{BadLocal, TooManyRequests}
use Rattle.bsp_model.specs.declared.request.Store.{Store}
use Rattle.bsp_table.specs.declared.area.Area.{Area}
use Rattle.bsp_step.specs.Act.{push_reg, put, store}
use Rattle.bsp_step.specs.Context.{Context}
use Rattle.bsp_step.specs.Perform.{count_of_requests, fault_unless, first_fault, perform, perform_all, performed, target_area}
use Rattle.bsp_right.proofs.ActsAllowed.{perform-store}
use Rattle.bsp_right.proofs.PutsAllowed.{perform-put}

-- A put of a word to the start of an area.
pub perform-put_at_start : (c : Context) (pid word area : ℕ) (a : Area) → c.fault ≡ None → count_of_requests c < most_requests → pid < c.view.nprocs → target_area c.view pid area ≡ Some a → 1 ≤ a.len
    → perform c (put pid (word ∷ []) area 0) ≡ record c { puts = c.puts ++ record { target = pid; start = a.start; words = word ∷ [] } ∷ [] }
perform-put_at_start c pid word area a faultless few known at some =
    let start : a.start + 0 ≡ a.start = omega arith in
    perform-put c pid word area 0 a faultless few known at (omega arith)
    ∙ ap (λ s. record c { puts = c.puts ++ record { target = pid; start = s; words = word ∷ [] } ∷ [] }) start

-- A registration within the memory.
pub perform-push_reg : (c : Context) (start len : ℕ) → c.fault ≡ None → count_of_requests c < most_requests → start + len ≤ length c.memory
    → perform c (push_reg start len) ≡ record c { pushes = c.pushes ++ record { start = start; len = len } ∷ [] }
perform-push_reg c start len faultless few inside =
    let room : nat_lt (count_of_requests c) most_requests ≡ true = lt-ltb (count_of_requests c) most_requests few in
    let fits : nat_le (start + len) (length c.memory) ≡ true = le-leb (start + len) (length c.memory) inside in
    λ i. performed (faultless i) (first_fault (fault_unless (room i) TooManyRequests) (fault_unless (fits i) BadLocal)) c (record c { pushes = c.pushes ++ record { start = start; len = len } ∷ [] })

-- a memory after stores at n addresses in a row, the word of each being a function of the address
abbrev pub stored : (ℕ → ℕ) → ℕ → ℕ → List ℕ → List ℕ
stored word a zero memory = memory
stored word a (suc n) memory = stored word (a + 1) n (set memory a (word a))

-- these stores, as an outcome has them
abbrev pub stores_made : (ℕ → ℕ) → ℕ → ℕ → List Store
stores_made word a n = map (λ i. record { addr = i; value = word i }) (range_with_len a n)

pub length-stored : (word : ℕ → ℕ) (a n : ℕ) (memory : List ℕ) → length (stored word a n memory) ≡ length memory
length-stored word a zero memory = refl
length-stored word a (suc n) memory = length-stored word (a + 1) n (set memory a (word a)) ∙ length-set memory a (word a)

-- before these addresses the words stay
pub stored_before : (word : ℕ → ℕ) (a n : ℕ) (memory : List ℕ) (i : ℕ) → i < a → get_or (stored word a n memory) i 0 ≡ get_or memory i 0
stored_before word a zero memory i l = refl
stored_before word a (suc n) memory i l =
    stored_before word (a + 1) n (set memory a (word a)) i (omega arith) ∙ get_or-set_other memory a i (word a) 0 (λ e. omega (arith, e))

-- and after them
pub stored_after : (word : ℕ → ℕ) (a n : ℕ) (memory : List ℕ) (i : ℕ) → a + n ≤ i → get_or (stored word a n memory) i 0 ≡ get_or memory i 0
stored_after word a zero memory i l = refl
stored_after word a (suc n) memory i l =
    stored_after word (a + 1) n (set memory a (word a)) i (omega arith) ∙ get_or-set_other memory a i (word a) 0 (λ e. omega (arith, e))

-- at each of them the word is the one that was stored
pub stored_within : (word : ℕ → ℕ) (a n : ℕ) (memory : List ℕ) (i : ℕ) → a + n ≤ length memory → a ≤ i → i < a + n → get_or (stored word a n memory) i 0 ≡ word i
stored_within word a zero memory i inside low high = absurd (omega arith)
stored_within word a (suc n) memory i inside low high =
    elim (cases_lt a i) [
      | inl less ↦ stored_within word (a + 1) n (set memory a (word a)) i (omega (arith, length-set memory a (word a))) (omega arith) (omega arith)
      | inr more ↦
          let same : i ≡ a = omega arith in
          ap (λ k. get_or (stored word (a + 1) n (set memory a (word a))) k 0) same
          ∙ stored_before word (a + 1) n (set memory a (word a)) a (omega arith)
          ∙ get_or-set_same memory a (word a) 0 (omega arith)
          ∙ ap word (sym same)
    ]

-- Stores at addresses in a row.
pub perform_all-stores : (word : ℕ → ℕ) (n a : ℕ) (c : Context) → c.fault ≡ None → a + n ≤ length c.memory
    → perform_all c (map (λ i. store i (word i)) (range_with_len a n)) ≡ record c { memory = stored word a n c.memory; stores = c.stores ++ stores_made word a n }
perform_all-stores word zero a c faultless inside = ap (λ (ss : List Store). record c { stores = ss }) (sym (append-nil c.stores))
perform_all-stores word (suc n) a c faultless inside =
    let next : Context = record c { memory = set c.memory a (word a); stores = c.stores ++ record { addr = a; value = word a } ∷ [] } in
    ap (λ (d : Context). perform_all d (map (λ i. store i (word i)) (range_with_len (a + 1) n))) (perform-store c a (word a) faultless (omega arith))
    ∙ perform_all-stores word n (a + 1) next faultless (omega (arith, length-set c.memory a (word a)))
    ∙ ap (λ (ss : List Store). record c { memory = stored word (a + 1) n (set c.memory a (word a)); stores = ss }) (append_assoc c.stores (record { addr = a; value = word a } ∷ []) (stores_made word (a + 1) n))
