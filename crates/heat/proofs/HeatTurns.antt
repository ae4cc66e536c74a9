-- The turns of heat in a rod.
use Rattle.std.proofs.Common.{◌≡◌, ◌≢◌, ◌≤◌, ◌<◌, ◌+◌, ◌-◌, ◌%◌, ◌^◌, ◌==◌, ◌++◌, ◌∙◌, ℕ, Bool, true, false, cond, List, None, Some, [], ◌∷◌, length, get_or, map, sum, zero, suc, nat_lt, length-append, append_assoc, arith, ap, refl, sym}
use Rattle.std.specs.Prelude.{slice_get}
use Rattle.std.specs.List.{range_with_len}
use Rattle.std.proofs.lemmas.Bool.{eqb-false, le-ltb, ltb-true}
use Rattle.std.proofs.lemmas.Bool.Decides.{nat_tests}
use Rattle.std.proofs.lemmas.List.{append-nil}
use Rattle.std.proofs.lemmas.List.FromFn.{get_or-map-range_with_len, length-map-range_with_len}
use Rattle.std.proofs.lemmas.Grind.{same_number_lists}
use Rattle.bsp_model.specs.Limits.{most_memory_words, most_requests}
use Rattle.bsp_model.specs.declared.fault.End.TheVariants.{Abort, Halt, Sync}
use Rattle.bsp_model.specs.declared.request.Put.{Put}
use Rattle.bsp_model.specs.declared.request.Store.{Store}
use Rattle.bsp_table.specs.declared.area.Area.{Area}
use Rattle.bsp_table.specs.NextTable.{no_area}
use Rattle.bsp_step.specs.declared.outcome.Ended.TheVariants.{Halt as HaltEnd}
use Rattle.bsp_step.specs.Act.{Act, charge, print, push_reg, put, store}
use Rattle.bsp_step.specs.Blocks.{stores}
use Rattle.bsp_step.specs.Context.{Context, fresh}
use Rattle.bsp_step.specs.OutcomeParts.{OutcomeParts}
use Rattle.bsp_step.specs.Perform.{count_of_requests, perform, perform_all}
use Rattle.bsp_step.specs.Plan.{Plan, after, does, given_argument}
use Rattle.bsp_step.specs.Turn.{closed}
use Rattle.bsp_step.specs.ViewParts.{ViewParts}
use Rattle.bsp_step.proofs.Performing.{perform_all-append}
use Rattle.bsp_right.proofs.ActsAllowed.{perform-charge}
use Rattle.bsp_right.proofs.ActsPerformed.{length-stored, perform-push_reg, perform-put_at_start, perform_all-stores, stored_within, stores_made}
use Rattle.bsp_right.proofs.AreasPushed.{area-pushed}
use Rattle.bsp_right.proofs.SuperstepEnds.{slots_pushed}
use Rattle.bsp_right.proofs.DescribedStates.{no_queue, of_plan, quiet, view_described}
use Rattle.bsp_right.proofs.OneWordPuts.{word_put}
use Rattle.bsp_right.proofs.RowPuts.{puts_in_row, puts_up}
use Rattle.heat.specs.Heat.{are_steps_left, heat_advancing, heat_charging, heat_telling, heat_working, next_cell_at, next_cells, own_cells, put_above, puts_to_neighbours}
use Rattle.heat.specs.Cells.{length_of_next_cells, length_of_own_cells, own_cell}
use Rattle.heat.specs.Rod.{heat_turn}
use Rattle.heat.proofs.Pieces.{AreDealt, stepped}
use Rattle.heat.proofs.CellsPut.{first_address, first_cell, last_address, last_cell}

-- the areas that a process registers: its first word and its last
abbrev pub end_words : List ℕ → List Area
end_words memory = record { start = 0; len = 1 } ∷ record { start = length memory - 1; len = 1 } ∷ []

-- the table from superstep 1 on
abbrev pub rod_table : List (List ℕ) → List (List Area)
rod_table mems = slots_pushed (length mems) 2 (λ p. end_words (get_or mems p []))

abbrev pub registers : (ℕ → List ℕ) → ℕ → OutcomeParts
registers memory p = record (quiet (memory p)) { pushes = end_words (memory p) }

-- what is left of a turn where a process has an argument and words enough
works : (v : ViewParts) (steps : ℕ) → slice_get v.args 0 ≡ Some steps → 3 ≤ length v.memory → heat_turn v ≡ of_plan v (heat_working v steps v.memory)
works v steps named long =
    ap (λ o. of_plan v (given_argument o (λ t. cond (nat_lt (length v.memory) 3) (does [] (Abort 1)) (heat_working v t v.memory)))) named
    ∙ ap (λ b. of_plan v (cond b (does [] (Abort 1)) (heat_working v steps v.memory))) (le-ltb (length v.memory) 3 long)

-- The turn of superstep 0.
pub turn_registers : (args : List (List ℕ)) (n steps : ℕ) (memory : ℕ → List ℕ) (p : ℕ) → slice_get (get_or args p []) 0 ≡ Some steps → 3 ≤ length (memory p)
    → heat_turn (view_described args 0 n memory no_queue [] 0 p) ≡ registers memory p
turn_registers args n steps memory p named long =
    let v = view_described args 0 n memory no_queue [] 0 p in
    let last : ℕ = length (memory p) - 1 in
    let one : Context = record (fresh v) { pushes = record { start = 0; len = 1 } ∷ [] } in
    works v steps named long
    ∙ ap (λ (c : Context). closed (perform c (push_reg last 1)) Sync) (perform-push_reg (fresh v) 0 1 refl (omega arith) (omega arith))
    ∙ ap (λ (c : Context). closed c Sync) (perform-push_reg one last 1 refl (omega arith) (omega arith))

-- the state of a turn after its time step
abbrev pub worked : ViewParts → List ℕ → List Store → ℕ → Context
worked v memory stores work = record (fresh v) { memory = memory; stores = stores; work = work }

-- what the rest of the turn leaves
abbrev pub then_tells : ViewParts → ℕ → List ℕ → List Store → ℕ → List ℕ → OutcomeParts
then_tells v steps memory stores work cells =
    closed (perform_all (worked v memory stores work) (heat_telling v steps cells).acts) (heat_telling v steps cells).ending

-- The turn of superstep 1 has no time step.
pub turn_first : (args : List (List ℕ)) (n steps : ℕ) (memory : ℕ → List ℕ) (table : List (List Area)) (p : ℕ) → slice_get (get_or args p []) 0 ≡ Some steps → 3 ≤ length (memory p)
    → heat_turn (view_described args 1 n memory no_queue table 0 p) ≡ then_tells (view_described args 1 n memory no_queue table 0 p) steps (memory p) [] 0 (own_cells (memory p))
turn_first args n steps memory table p named long = works (view_described args 1 n memory no_queue table 0 p) steps named long

-- where each own cell became what it becomes in a time step, the own cells are the next ones
own_cells-next : (old new : List ℕ) → length new ≡ length old → ((k : ℕ) → k < length old - 2 → get_or new (k + 1) 0 ≡ next_cell_at old (k + 1)) → own_cells new ≡ next_cells old
own_cells-next old new long became =
    same_number_lists (own_cells new) (next_cells old) (omega (arith, length_of_own_cells new, length_of_next_cells old)) (λ k within.
    let here : k < length old - 2 = omega (arith, length_of_own_cells new) in
    own_cell new k (omega arith) ∙ became k here ∙ sym (get_or-map-range_with_len (next_cell_at old) 1 (length old - 2) k (k + 1) 0 here (omega arith)))

cells-stepped : (memory : List ℕ) → own_cells (stepped memory) ≡ next_cells memory
cells-stepped memory =
    own_cells-next memory (stepped memory) (length-stored (next_cell_at memory) 1 (length memory - 2) memory) (λ k h.
    stored_within (next_cell_at memory) 1 (length memory - 2) memory (k + 1) (omega arith) (omega arith) (omega arith))

-- the stores of a time step
abbrev pub cells_stored : List ℕ → List Store
cells_stored memory = stores_made (next_cell_at memory) 1 (length memory - 2)

stores-map : (f : ℕ → ℕ) (n start : ℕ) → stores start (map f (range_with_len start n)) ≡ map (λ i. store i (f i)) (range_with_len start n)
stores-map f zero start = refl
stores-map f (suc n) start = ap (λ acts. store start (f start) ∷ acts) (stores-map f n (start + 1))

advances : (v : ViewParts) (steps : ℕ) → 3 ≤ length v.memory → length v.memory ≤ most_memory_words → of_plan v (heat_advancing v steps v.memory) ≡ then_tells v steps (stepped v.memory) (cells_stored v.memory) (length v.memory - 2) (own_cells (stepped v.memory))
advances v steps long short =
    let m : List ℕ = v.memory in
    let part : List Act = map (λ i. store i (next_cell_at m i)) (range_with_len 1 (length m - 2)) in
    let rest : Plan = heat_telling v steps (next_cells m) in
    let stepping : Context = worked v (stepped m) (cells_stored m) 0 in
    let number : length (next_cells m) ≡ length m - 2 = length-map-range_with_len (next_cell_at m) 1 (length m - 2) in
    let work : 0 + length (next_cells m) ≡ length m - 2 = omega arith in
    ap (λ acts. of_plan v (after acts (heat_charging v steps (next_cells m)))) (stores-map (next_cell_at m) (length m - 2) 1)
    ∙ ap (λ (c : Context). closed c rest.ending) (perform_all-append (fresh v) part (charge (length (next_cells m)) ∷ rest.acts))
    ∙ ap (λ (c : Context). closed (perform_all c (charge (length (next_cells m)) ∷ rest.acts)) rest.ending) (perform_all-stores (next_cell_at m) (length m - 2) 1 (fresh v) refl (omega arith))
    ∙ ap (λ (c : Context). closed (perform_all c rest.acts) rest.ending) (perform-charge stepping (length (next_cells m)) refl (omega arith))
    ∙ ap (λ w. then_tells v steps (stepped m) (cells_stored m) w (next_cells m)) work
    ∙ ap (then_tells v steps (stepped m) (cells_stored m) (length m - 2)) (sym (cells-stepped m))

not_first : (s : ℕ) → 2 ≤ s → (s == 0) ≡ false
not_first s h = grind (arith, nat_tests)

not_second : (s : ℕ) → 2 ≤ s → (s == 1) ≡ false
not_second s h = grind (arith, nat_tests)

-- That of each later superstep begins with one.
pub turn_later : (args : List (List ℕ)) (s n steps : ℕ) (memory : ℕ → List ℕ) (table : List (List Area)) (p : ℕ) → 2 ≤ s → slice_get (get_or args p []) 0 ≡ Some steps → 3 ≤ length (memory p) → length (memory p) ≤ most_memory_words
    → heat_turn (view_described args s n memory no_queue table 0 p)
    ≡ then_tells (view_described args s n memory no_queue table 0 p) steps (stepped (memory p)) (cells_stored (memory p)) (length (memory p) - 2) (own_cells (stepped (memory p)))
turn_later args s n steps memory table p late named long short =
    let v = view_described args s n memory no_queue table 0 p in
    let m : List ℕ = memory p in
    let first : Plan = does (push_reg 0 1 ∷ push_reg (length m - 1) 1 ∷ []) Sync in
    works v steps named long
    ∙ ap (λ b. of_plan v (cond b first (cond (s == 1) (heat_telling v steps (own_cells m)) (heat_advancing v steps m)))) (not_first s late)
    ∙ ap (λ b. of_plan v (cond b (heat_telling v steps (own_cells m)) (heat_advancing v steps m))) (not_second s late)
    ∙ advances v steps long short

-- a process of a rod within its turn, with room for a request
pub record IsAtWork (mems : List (List ℕ)) (c : Context) (cells : List ℕ) : Type 0 where
  pub dealt : AreDealt mems
  pub faultless : c.fault ≡ None
  pub few : count_of_requests c < most_requests
  pub nprocs : c.view.nprocs ≡ length mems
  pub known : c.view.pid < length mems
  pub table : c.view.table ≡ rod_table mems
  pub number : length cells + 2 ≡ length (get_or mems c.view.pid [])

up_if : (b : Bool) (mems : List (List ℕ)) (c : Context) (cells : List ℕ) → IsAtWork mems c cells → nat_lt (c.view.pid + 1) c.view.nprocs ≡ b
    → perform_all c (cond b (put (c.view.pid + 1) (get_or cells (length cells - 1) 0 ∷ []) 0 0 ∷ []) []) ≡ record c { puts = c.puts ++ cond b (word_put (c.view.pid + 1) 0 (get_or cells (length cells - 1) 0) ∷ []) [] }
up_if false mems c cells h e = ap (λ (ps : List Put). record c { puts = ps }) (sym (append-nil c.puts))
up_if true mems c cells h e =
    let pid : ℕ = c.view.pid in
    let there : pid + 1 < c.view.nprocs = ltb-true (pid + 1) c.view.nprocs e in
    let ends : ℕ → List Area = λ p. end_words (get_or mems p []) in
    let long : 3 ≤ length (get_or mems pid []) = h.dealt.words pid h.known in
    perform-put_at_start c (pid + 1) (get_or cells (length cells - 1) 0) 0 (record { start = 0; len = 1 }) h.faultless h.few there
    (area-pushed c.view (length mems) 2 ends 0 (pid + 1) 0 h.table h.known (omega (arith, h.nprocs)) (omega arith) refl (λ j l m at.
    let one : j ≡ 1 = omega arith in
    let last : length (get_or mems pid []) - 1 ≡ 0 = sym (ap (λ k. (get_or (ends pid) k no_area).start) one) ∙ at in
    omega arith))
    (omega arith)

-- the put to the process above
tells_up : (mems : List (List ℕ)) (c : Context) (cells : List ℕ) → IsAtWork mems c cells
    → perform_all c (put_above c.view cells) ≡ record c { puts = c.puts ++ puts_up c.view.nprocs first_address (get_or cells (length cells - 1) 0) c.view.pid }
tells_up mems c cells h = up_if (nat_lt (c.view.pid + 1) c.view.nprocs) mems c cells h refl

row_if : (b : Bool) (mems : List (List ℕ)) (c : Context) (cells : List ℕ) → IsAtWork mems c cells → count_of_requests c + 1 < most_requests → (c.view.pid == 0) ≡ b
    → perform_all c (cond b (put_above c.view cells) (put (c.view.pid - 1) (get_or cells 0 0 ∷ []) (length cells + 1) 0 ∷ put_above c.view cells))
    ≡ record c { puts = c.puts ++ cond b (puts_up c.view.nprocs first_address (get_or cells (length cells - 1) 0) c.view.pid) (word_put (c.view.pid - 1) (last_address mems (c.view.pid - 1)) (get_or cells 0 0) ∷ puts_up c.view.nprocs first_address (get_or cells (length cells - 1) 0) c.view.pid) }
row_if true mems c cells h room e = tells_up mems c cells h
row_if false mems c cells h room e =
    let pid : ℕ = c.view.pid in
    let ends : ℕ → List Area = λ p. end_words (get_or mems p []) in
    let x : Put = word_put (pid - 1) (last_address mems (pid - 1)) (get_or cells 0 0) in
    let next : Context = record c { puts = c.puts ++ x ∷ [] } in
    let ups : List Put = puts_up c.view.nprocs first_address (get_or cells (length cells - 1) 0) pid in
    let some : pid ≢ 0 = eqb-false pid 0 e in
    let count : count_of_requests next ≡ count_of_requests c + 1 = omega (arith, length-append c.puts (x ∷ [])) in
    let start : length (get_or mems pid []) - 1 ≡ length cells + 1 = omega (arith, h.number) in
    let at_next : IsAtWork mems next cells = record {
      dealt = h.dealt;
      faultless = h.faultless;
      few = omega arith;
      nprocs = h.nprocs;
      known = h.known;
      table = h.table;
      number = h.number;
    } in
    ap (λ (d : Context). perform_all d (put_above c.view cells))
    (perform-put_at_start c (pid - 1) (get_or cells 0 0) (length cells + 1) (record { start = last_address mems (pid - 1); len = 1 }) h.faultless h.few (omega (arith, h.nprocs, h.known))
    (area-pushed c.view (length mems) 2 ends 1 (pid - 1) (length cells + 1) h.table h.known (omega (arith, h.known)) (omega arith) start (λ j l m _. absurd (omega arith)))
    (omega arith))
    ∙ tells_up mems next cells at_next
    ∙ ap (λ (ps : List Put). record c { puts = ps }) (append_assoc c.puts (x ∷ []) ups)

-- the puts to the neighbours
tells_row : (mems : List (List ℕ)) (c : Context) (cells : List ℕ) → IsAtWork mems c cells → count_of_requests c + 1 < most_requests
    → perform_all c (puts_to_neighbours c.view cells) ≡ record c { puts = c.puts ++ puts_in_row c.view.nprocs first_address (last_address mems) (get_or cells 0 0) (get_or cells (length cells - 1) 0) c.view.pid }
tells_row mems c cells h room = row_if (c.view.pid == 0) mems c cells h room refl

-- what a turn leaves that goes on, and the last
abbrev pub tells : List (List ℕ) → List ℕ → List Store → ℕ → ℕ → OutcomeParts
tells mems memory stores work p =
    record (quiet memory) {
      stores = stores;
      puts = puts_in_row (length mems) first_address (last_address mems) (first_cell memory) (last_cell memory) p;
      work = work;
    }

abbrev pub prints : List ℕ → List Store → ℕ → OutcomeParts
prints memory stores work =
    record (quiet memory) {
      ended = HaltEnd;
      stores = stores;
      lines = (sum (own_cells memory) % 2 ^ 64 ∷ []) ∷ [];
      work = work;
    }

-- superstep s is followed by others where s is at most the number of time steps
steps_left : (v : ViewParts) (steps : ℕ) → v.step ≤ steps → are_steps_left v steps ≡ true
steps_left v steps h = grind (arith, nat_tests)

no_steps_left : (v : ViewParts) (steps : ℕ) → steps < v.step → are_steps_left v steps ≡ false
no_steps_left v steps h = grind (arith, nat_tests)

-- Where time steps are left.
pub then_puts : (mems args : List (List ℕ)) (s steps : ℕ) (seen : ℕ → List ℕ) (memory : List ℕ) (stores : List Store) (work p : ℕ) → AreDealt mems → p < length mems → length memory ≡ length (get_or mems p []) → s ≤ steps
    → then_tells (view_described args s (length mems) seen no_queue (rod_table mems) 0 p) steps memory stores work (own_cells memory) ≡ tells mems memory stores work p
then_puts mems args s steps seen memory stores work p dealt known size left =
    let v = view_described args s (length mems) seen no_queue (rod_table mems) 0 p in
    let c : Context = worked v memory stores work in
    let cells : List ℕ = own_cells memory in
    let on : Plan = does (puts_to_neighbours v cells) Sync in
    let off : Plan = does (print (sum cells % 2 ^ 64 ∷ []) ∷ []) Halt in
    let at_work : IsAtWork mems c cells = record {
      dealt = dealt;
      faultless = refl;
      few = omega arith;
      nprocs = refl;
      known = known;
      table = refl;
      number = omega (arith, length_of_own_cells memory, dealt.words p known);
    } in
    ap (λ b. closed (perform_all c (cond b on off).acts) (cond b on off).ending) (steps_left v steps left)
    ∙ ap (λ (d : Context). closed d Sync) (tells_row mems c cells at_work (omega arith))

-- Where none are.
pub then_prints : (mems args : List (List ℕ)) (s steps : ℕ) (seen : ℕ → List ℕ) (memory : List ℕ) (stores : List Store) (work p : ℕ) → steps < s
    → then_tells (view_described args s (length mems) seen no_queue (rod_table mems) 0 p) steps memory stores work (own_cells memory) ≡ prints memory stores work
then_prints mems args s steps seen memory stores work p done =
    let v = view_described args s (length mems) seen no_queue (rod_table mems) 0 p in
    let c : Context = worked v memory stores work in
    let cells : List ℕ = own_cells memory in
    let on : Plan = does (puts_to_neighbours v cells) Sync in
    let off : Plan = does (print (sum cells % 2 ^ 64 ∷ []) ∷ []) Halt in
    ap (λ b. closed (perform_all c (cond b on off).acts) (cond b on off).ending) (no_steps_left v steps done)
