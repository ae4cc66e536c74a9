-- The turns of a broadcast.
use Rattle.std.proofs.Common.{◌+◌, ◌++◌, ◌<◌, ◌==◌, Bool, List, None, Some, [], ap, append_assoc, arith, cond, false, filter, get_or, length, length-append, map, not, refl, suc, sym, true, zero, ℕ, ◌∙◌, ◌∷◌, ◌≡◌, ◌≤◌}
use Rattle.std.proofs.lemmas.List.{append-nil}
use Rattle.std.proofs.lemmas.Bool.{le-leb}
use Rattle.std.specs.List.{range_with_len}
use Rattle.std.specs.Prelude.{slice_get}
use Rattle.bsp_model.specs.Limits.{most_processes, most_requests}
use Rattle.bsp_model.specs.declared.fault.Fault.TheVariants.{BadLocal}
use Rattle.bsp_model.specs.declared.fault.End.TheVariants.{Halt, Sync}
use Rattle.bsp_model.specs.declared.request.Put.{Put}
use Rattle.bsp_table.specs.declared.area.Area.{Area}
use Rattle.bsp_step.specs.Context.{Context, fresh}
use Rattle.bsp_step.specs.declared.outcome.Ended.TheVariants.{Halt as HaltEnd}
use Rattle.bsp_step.specs.OutcomeParts.{OutcomeParts}
use Rattle.bsp_step.specs.Plan.{Plan, does, given_argument, given_word}
use Rattle.bsp_step.specs.ViewParts.{ViewParts}
use Rattle.bsp_step.specs.Turn.{closed}
use Rattle.bsp_step.specs.Perform.{count_of_requests, fault_unless, perform, perform_all, performed, target_area}
use Rattle.bsp_step.specs.Act.{print, put}
use Rattle.bsp_programs.specs.Broadcast.{puts_to_others}
use Rattle.bsp_right.specs.Told.{broadcast_turn}
use Rattle.bsp_right.proofs.PutsAllowed.{area-one_slot, perform-put}
use Rattle.bsp_right.proofs.DescribedStates.{no_queue, of_plan, quiet, view_described}

abbrev pub word_area : Area
word_area = record { start = 0; len = 1 }

-- the put of a word to word 0 of a process
abbrev pub tell : ℕ → ℕ → Put
tell word pid = record { target = pid; start = 0; words = word ∷ [] }

abbrev pub others : ℕ → ℕ → ℕ → List ℕ
others own k m = filter (λ pid. not (pid == own)) (range_with_len k m)

-- the three turns of a process
abbrev pub registers : (ℕ → List ℕ) → ℕ → OutcomeParts
registers memory p = record (quiet (memory p)) { pushes = word_area ∷ [] }

abbrev pub tells : ℕ → ℕ → ℕ → (ℕ → List ℕ) → ℕ → OutcomeParts
tells n root word memory p = record (quiet (memory p)) { puts = cond (root == p) (map (tell word) (others p 0 n)) [] }

abbrev pub prints : ℕ → (ℕ → List ℕ) → ℕ → OutcomeParts
prints word memory p = record (quiet (memory p)) { ended = HaltEnd; lines = (word ∷ []) ∷ [] }

pub turn_registers : (args : List (List ℕ)) (n : ℕ) (memory : ℕ → List ℕ) (p : ℕ) → 1 ≤ length (memory p) → broadcast_turn (view_described args 0 n memory no_queue [] 0 p) ≡ registers memory p
turn_registers args n memory p h =
    let v = view_described args 0 n memory no_queue [] 0 p in
    ap (λ b. closed (performed None (fault_unless b BadLocal) (fresh v) (record (fresh v) { pushes = word_area ∷ [] })) Sync) (le-leb 1 (length (memory p)) h)

empty_queue : (v : ViewParts) (plan : Plan) (puts : List Put) (own : Bool) → own ≡ false → of_plan v (cond own plan (does [] Sync)) ≡ record (quiet v.memory) { puts = cond own puts [] }
empty_queue v plan puts own e = ap (λ b. of_plan v (cond b plan (does [] Sync))) e ∙ ap (λ b. record (quiet v.memory) { puts = cond b puts [] }) (sym e)

told_if : (t : Bool) {own : Bool} → own ≡ t → (v : ViewParts) (plan : Plan) (puts : List Put) → (own ≡ true → of_plan v plan ≡ record (quiet v.memory) { puts = puts }) → of_plan v (cond own plan (does [] Sync)) ≡ record (quiet v.memory) { puts = cond own puts [] }
told_if true {own = own} e v plan puts h = ap (λ b. of_plan v (cond b plan (does [] Sync))) e ∙ h e ∙ ap (λ b. record (quiet v.memory) { puts = cond b puts [] }) (sym e)
told_if false {own = own} e v plan puts h = empty_queue v plan puts own e

-- The puts of the root.
pub perform_all-tells : (own word m k : ℕ) (c : Context) → c.fault ≡ None → count_of_requests c + m ≤ most_requests → k + m ≤ c.view.nprocs → ((pid : ℕ) → pid < c.view.nprocs → target_area c.view pid 0 ≡ Some (record { start = 0; len = 1 }))
    → perform_all c (puts_to_others own word (range_with_len k m)) ≡ record c { puts = c.puts ++ map (tell word) (others own k m) }
perform_all-tells own word zero k c faultless few below at = ap (λ ps. record c { puts = ps }) (sym (append-nil c.puts))
perform_all-tells own word (suc m) k c faultless few below at =
    let next : Context = record c { puts = c.puts ++ tell word k ∷ [] } in
    let first : perform c (put k (word ∷ []) 0 0) ≡ next = perform-put c k word 0 0 (record { start = 0; len = 1 }) faultless (omega arith) (omega arith) (at k (omega arith)) (omega arith) in
    let count : count_of_requests next ≡ count_of_requests c + 1 = omega (arith, length-append c.puts (tell word k ∷ [])) in
    elim (k == own) as (λ t. perform_all c (map (λ pid. put pid (word ∷ []) 0 0) (cond (not t) (k ∷ others own (k + 1) m) (others own (k + 1) m))) ≡ record c { puts = c.puts ++ map (tell word) (cond (not t) (k ∷ others own (k + 1) m) (others own (k + 1) m)) }) [
      | true ↦ perform_all-tells own word m (k + 1) c faultless (omega arith) (omega arith) at
      | false ↦
          ap (λ d. perform_all d (puts_to_others own word (range_with_len (k + 1) m))) first
          ∙ perform_all-tells own word m (k + 1) next faultless (omega arith) (omega arith) at
          ∙ ap (λ ps. record c { puts = ps }) (append_assoc c.puts (tell word k ∷ []) (map (tell word) (others own (k + 1) m)))
    ]

pub turn_tells : (args : List (List ℕ)) (n root word : ℕ) (memory : ℕ → List ℕ) (p : ℕ) → n ≤ most_processes → p < n → slice_get (get_or args p []) 0 ≡ Some root → (root == p ≡ true → slice_get (memory p) 0 ≡ Some word)
    → broadcast_turn (view_described args 1 n memory no_queue (map (λ q. word_area) (range_with_len 0 n) ∷ []) 0 p) ≡ tells n root word memory p
turn_tells args n root word memory p few below named own =
    let v = view_described args 1 n memory no_queue (map (λ q. word_area) (range_with_len 0 n) ∷ []) 0 p in
    let as_root : root == p ≡ true → of_plan v (given_word (slice_get (memory p) 0) (λ w. does (puts_to_others p w (range_with_len 0 n)) Sync)) ≡ record (quiet (memory p)) { puts = map (tell word) (others p 0 n) } = λ t.
    ap (λ o. of_plan v (given_word o (λ w. does (puts_to_others p w (range_with_len 0 n)) Sync))) (own t)
    ∙ ap (λ (c : Context). closed c Sync) (perform_all-tells p word n 0 (fresh v) refl (omega arith) (omega arith) (λ pid l. area-one_slot n p pid word_area below l v refl refl))
    in
    ap (λ o. of_plan v (given_argument o (λ r. cond (r == p) (given_word (slice_get (memory p) 0) (λ w. does (puts_to_others p w (range_with_len 0 n)) Sync)) (does [] Sync)))) named
    ∙ told_if (root == p) refl v (given_word (slice_get (memory p) 0) (λ w. does (puts_to_others p w (range_with_len 0 n)) Sync)) (map (tell word) (others p 0 n)) as_root

pub turn_prints : (args : List (List ℕ)) (n word : ℕ) (memory : ℕ → List ℕ) (table : List (List Area)) (p : ℕ) → slice_get (memory p) 0 ≡ Some word → broadcast_turn (view_described args 2 n memory no_queue table 0 p) ≡ prints word memory p
turn_prints args n word memory table p h =
    let v = view_described args 2 n memory no_queue table 0 p in
    ap (λ o. of_plan v (given_word o (λ w. does (print (w ∷ []) ∷ []) Halt))) h
