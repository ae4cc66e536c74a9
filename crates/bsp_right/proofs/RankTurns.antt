-- The turns of list ranking.
use Rattle.std.proofs.Common.{◌%◌, ◌+◌, ◌-◌, ◌<◌, ◌==◌, List, None, [], ◌^◌, ap, arith, cond, false, length, min, refl, suc, zero, ℕ, ◌∙◌, ◌∷◌, ◌≡◌, ◌≤◌}
use Rattle.std.proofs.Math.Nat.{mod-eq_of_lt, pow-succ'}
use Rattle.std.proofs.lemmas.Bool.{le-leb, le-ltb, lt-ltb, ne_eqb}
use Rattle.bsp_model.specs.declared.fault.Fault.TheVariants.{BadLocal}
use Rattle.bsp_model.specs.declared.fault.End.TheVariants.{Halt, Sync}
use Rattle.bsp_model.specs.declared.request.Get.{Get}
use Rattle.bsp_model.specs.declared.request.Store.{Store}
use Rattle.bsp_table.specs.declared.area.Area.{Area}
use Rattle.bsp_step.specs.Act.{charge, get, print, push_reg, store}
use Rattle.bsp_step.specs.Context.{Context, fresh}
use Rattle.bsp_step.specs.declared.outcome.Ended.TheVariants.{Halt as HaltEnd}
use Rattle.bsp_step.specs.OutcomeParts.{OutcomeParts}
use Rattle.bsp_step.specs.Perform.{fault_unless, perform, performed}
use Rattle.bsp_step.specs.Plan.{does}
use Rattle.bsp_step.specs.Turn.{closed}
use Rattle.bsp_step.specs.ViewParts.{ViewParts}
use Rattle.bsp_programs.specs.Doubling.{distance}
use Rattle.bsp_programs.specs.Rank.{rank_adding, rank_asking}
use Rattle.bsp_right.specs.Ranked.{rank_turn}
use Rattle.bsp_right.proofs.ActsAllowed.{leaves, leaves-after, perform-store}
use Rattle.bsp_right.proofs.GetsRead.{perform-get}
use Rattle.bsp_right.proofs.PrefixTurns.{two_slot, two_words}
use Rattle.bsp_right.proofs.PutsAllowed.{area-one_slot}
use Rattle.bsp_right.proofs.DescribedStates.{no_queue, of_plan, quiet, view_described}

-- A list: the element with so many successors, how many each process has, and the words of each process from the third on.
pub record Linked : Type 0 where
  pub element : ℕ → ℕ
  pub successors : ℕ → ℕ
  pub third : ℕ → ℕ
  pub fourth : ℕ → ℕ
  pub rest : ℕ → List ℕ

-- the element so far on from process p, the last one where there is none, and how far that is
abbrev pub onward : Linked → ℕ → ℕ → ℕ
onward list far p = list.element (list.successors p - far)

abbrev pub known : Linked → ℕ → ℕ → ℕ
known list far p = min far (list.successors p)

-- the two words that a process received, before superstep t + 1
abbrev pub third_word : Linked → ℕ → ℕ → ℕ
third_word list zero p = list.third p
third_word list (suc t) p = onward list (2 ^ suc t) p

abbrev pub fourth_word : Linked → ℕ → ℕ → ℕ
fourth_word list zero p = list.fourth p
fourth_word list (suc t) p = min (2 ^ t) (list.successors p - 2 ^ t)

-- the memory of a process in superstep t + 1: as the turn leaves it, and as it finds it
abbrev pub memory_left : Linked → ℕ → ℕ → List ℕ
memory_left list t p = onward list (2 ^ t) p ∷ known list (2 ^ t) p ∷ third_word list t p ∷ fourth_word list t p ∷ list.rest p

abbrev pub memory_found : Linked → ℕ → ℕ → List ℕ
memory_found list zero p = memory_left list zero p
memory_found list (suc t) p = onward list (2 ^ t) p ∷ known list (2 ^ t) p ∷ third_word list (suc t) p ∷ fourth_word list (suc t) p ∷ list.rest p

-- what the adding of superstep t + 1 stores and charges
abbrev pub stores_at : Linked → ℕ → ℕ → List Store
stores_at list zero p = []
stores_at list (suc t) p = record { addr = 0; value = onward list (2 ^ suc t) p } ∷ record { addr = 1; value = known list (2 ^ suc t) p } ∷ []

abbrev pub work_at : ℕ → ℕ
work_at zero = 0
work_at (suc t) = 1

-- the get of a process: the first two words of the element so far on, into the own third and fourth
abbrev pub ask : ℕ → Get
ask owner = record { owner = owner; start = 0; len = 2; into = 2 }

-- the turns
abbrev pub registers_pair : (ℕ → List ℕ) → ℕ → OutcomeParts
registers_pair memory p = record (quiet (memory p)) { pushes = two_words ∷ [] }

abbrev pub asks : Linked → ℕ → ℕ → OutcomeParts
asks list t p = record (quiet (memory_left list t p)) { stores = stores_at list t p; gets = ask (onward list (2 ^ t) p) ∷ []; work = work_at t }

abbrev pub prints_rank : Linked → ℕ → ℕ → OutcomeParts
prints_rank list t p = record (quiet (memory_left list t p)) { ended = HaltEnd; stores = stores_at list t p; lines = (known list (2 ^ t) p ∷ []) ∷ []; work = work_at t }

pub turn_registers_pair : (args : List (List ℕ)) (n : ℕ) (memory : ℕ → List ℕ) (p : ℕ) → 2 ≤ length (memory p) → rank_turn (view_described args 0 n memory no_queue [] 0 p) ≡ registers_pair memory p
turn_registers_pair args n memory p h =
    let v = view_described args 0 n memory no_queue [] 0 p in
    ap (λ b. closed (performed None (fault_unless b BadLocal) (fresh v) (record (fresh v) { pushes = two_words ∷ [] })) Sync) (le-leb 2 (length (memory p)) h)

-- the state of the turn after the adding
abbrev pub added : ViewParts → List ℕ → List Store → ℕ → Context
added v memory stores work = record (fresh v) { memory = memory; stores = stores; work = work }

pub double : (t : ℕ) → 2 ^ suc t ≡ 2 ^ t + 2 ^ t
double t = let e = pow-succ' 2 t in omega (arith, e)

-- the known distances of a process and of the one that it asked add up
pub known-doubles : (list : Linked) (t p : ℕ) → list.successors p < 2 ^ 64 → (known list (2 ^ t) p + min (2 ^ t) (list.successors p - 2 ^ t)) % 2 ^ 64 ≡ known list (2 ^ suc t) p
known-doubles list t p small =
    let sum : known list (2 ^ t) p + min (2 ^ t) (list.successors p - 2 ^ t) ≡ known list (2 ^ suc t) p = omega (arith, double t) in
    let fits : known list (2 ^ suc t) p < 2 ^ 64 = omega arith in
    ap (λ w. w % 2 ^ 64) sum ∙ mod-eq_of_lt fits

not_zero : (t : ℕ) → (suc (suc t) == 0) ≡ false
not_zero t = ne_eqb (suc (suc t)) 0 (λ e. omega (arith, e))

not_one : (t : ℕ) → (suc (suc t) == 1) ≡ false
not_one t = ne_eqb (suc (suc t)) 1 (λ e. omega (arith, e))

-- after the adding, the turn asks or prints
adds : (args : List (List ℕ)) (list : Linked) (n : ℕ) (table : List (List Area)) (t p : ℕ) → list.successors p < 2 ^ 64
    → rank_turn (view_described args (suc t) n (memory_found list t) no_queue table 0 p)
    ≡ leaves (added (view_described args (suc t) n (memory_found list t) no_queue table 0 p) (memory_left list t p) (stores_at list t p) (work_at t)) (rank_asking (view_described args (suc t) n (memory_found list t) no_queue table 0 p) (memory_left list t p))
adds args list n table zero p small = refl
adds args list n table (suc t) p small =
    let v = view_described args (suc (suc t)) n (memory_found list (suc t)) no_queue table 0 p in
    let far = onward list (2 ^ suc t) p in
    let sum = (known list (2 ^ t) p + min (2 ^ t) (list.successors p - 2 ^ t)) % 2 ^ 64 in
    let total : sum ≡ known list (2 ^ suc t) p = known-doubles list t p small in
    let tail = far ∷ fourth_word list (suc t) p ∷ list.rest p in
    let stored : List ℕ = far ∷ known list (2 ^ t) p ∷ tail in
    let first : Context = record (fresh v) { memory = stored; stores = record { addr = 0; value = far } ∷ [] } in
    ap (λ b. of_plan v (cond b (does (push_reg 0 2 ∷ []) Sync) (cond (suc (suc t) == 1) (rank_asking v v.memory) (rank_adding v v.memory)))) (not_zero t)
    ∙ ap (λ b. of_plan v (cond b (rank_asking v v.memory) (rank_adding v v.memory))) (not_one t)
    ∙ leaves-after (fresh v) (store 0 far ∷ store 1 sum ∷ charge 1 ∷ []) (rank_asking v (far ∷ sum ∷ tail))
    ∙ ap (λ c. leaves (perform (perform c (store 1 sum)) (charge 1)) (rank_asking v (far ∷ sum ∷ tail))) (perform-store (fresh v) 0 far refl (omega arith))
    ∙ ap (λ c. leaves (perform c (charge 1)) (rank_asking v (far ∷ sum ∷ tail))) (perform-store first 1 sum refl (omega arith))
    ∙ ap (λ w. leaves (added v (far ∷ w ∷ tail) (record { addr = 0; value = far } ∷ record { addr = 1; value = w } ∷ []) 1) (rank_asking v (far ∷ w ∷ tail))) total

-- The turn of superstep t + 1 where it is not the last.
pub turn_asks : (args : List (List ℕ)) (list : Linked) (n t p : ℕ) → list.successors p < 2 ^ 64 → p < n → onward list (2 ^ t) p < n → distance (suc t) < n
    → rank_turn (view_described args (suc t) n (memory_found list t) no_queue (two_slot n) 0 p) ≡ asks list t p
turn_asks args list n t p small below there far =
    let v = view_described args (suc t) n (memory_found list t) no_queue (two_slot n) 0 p in
    let c : Context = added v (memory_left list t p) (stores_at list t p) (work_at t) in
    let owner = onward list (2 ^ t) p in
    adds args list n (two_slot n) t p small
    ∙ ap (λ b. leaves c (cond b (does (get owner 0 0 2 2 ∷ []) Sync) (does (print (known list (2 ^ t) p ∷ []) ∷ []) Halt))) (lt-ltb (distance (suc t)) n far)
    ∙ ap (λ (d : Context). closed d Sync) (perform-get c owner 0 0 2 2 two_words refl (omega arith) there (area-one_slot n p owner two_words below there v refl refl) (omega arith) (omega arith))

-- That of the last.
pub turn_prints_rank : (args : List (List ℕ)) (list : Linked) (n t p : ℕ) → list.successors p < 2 ^ 64 → n ≤ distance (suc t)
    → rank_turn (view_described args (suc t) n (memory_found list t) no_queue (two_slot n) 0 p) ≡ prints_rank list t p
turn_prints_rank args list n t p small near =
    let v = view_described args (suc t) n (memory_found list t) no_queue (two_slot n) 0 p in
    let c : Context = added v (memory_left list t p) (stores_at list t p) (work_at t) in
    adds args list n (two_slot n) t p small
    ∙ ap (λ b. leaves c (cond b (does (get (onward list (2 ^ t) p) 0 0 2 2 ∷ []) Sync) (does (print (known list (2 ^ t) p ∷ []) ∷ []) Halt))) (le-ltb (distance (suc t)) n near)
