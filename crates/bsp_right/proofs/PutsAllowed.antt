-- Puts that pass their checks, and the areas of a table of one slot.
use Rattle.std.proofs.Common.{◌+◌, ◌++◌, ◌<◌, ◌==◌, None, Some, [], ap, arith, cond, map, nat_le, nat_lt, true, ℕ, ◌∙◌, ◌∷◌, ◌≡◌, ◌≤◌}
use Rattle.std.proofs.lemmas.Bool.{le-leb}
use Rattle.std.proofs.lemmas.Bool.Decides.{nat_tests}
use Rattle.std.specs.List.{range_with_len}
use Rattle.bsp_model.specs.Limits.{most_requests}
use Rattle.bsp_model.specs.declared.fault.Fault.TheVariants.{BadPid, TooManyRequests}
use Rattle.bsp_table.specs.declared.area.Area.{Area}
use Rattle.bsp_step.specs.Context.{Context}
use Rattle.bsp_step.specs.ViewParts.{ViewParts}
use Rattle.bsp_step.specs.Perform.{area_fault, count_of_requests, fault_unless, first_fault, perform, performed, start_of, target_area}
use Rattle.bsp_step.specs.Act.{put}
use Rattle.bsp_right.proofs.TablesAlike.{target_area-alike}

-- A put that is allowed.
pub perform-put : (c : Context) (pid word area offset : ℕ) (a : Area) → c.fault ≡ None → count_of_requests c < most_requests → pid < c.view.nprocs → target_area c.view pid area ≡ Some a → offset + 1 ≤ a.len
    → perform c (put pid (word ∷ []) area offset) ≡ record c { puts = c.puts ++ record { target = pid; start = a.start + offset; words = word ∷ [] } ∷ [] }
perform-put c pid word area offset a faultless few known at inside =
    let room : nat_lt (count_of_requests c) most_requests ≡ true = grind (arith, nat_tests) in
    let below : nat_lt pid c.view.nprocs ≡ true = grind (arith, nat_tests) in
    let fits : nat_le (offset + 1) a.len ≡ true = le-leb (offset + 1) a.len inside in
    (λ i. performed (faultless i) (first_fault (fault_unless (room i) TooManyRequests) (first_fault (fault_unless (below i) (BadPid pid)) (area_fault (at i) area (offset + 1)))) c
    (record c { puts = c.puts ++ record { target = pid; start = start_of (at i) + offset; words = word ∷ [] } ∷ [] }))
    ∙ ap (λ b. performed None (fault_unless b Rattle.bsp_model.specs.declared.fault.Fault.TheVariants.OutOfArea) c (record c { puts = c.puts ++ record { target = pid; start = a.start + offset; words = word ∷ [] } ∷ [] })) fits

-- Of a table of one slot, in which every process has the same area.
pub area-one_slot : (n own pid : ℕ) (a : Area) → own < n → pid < n → (v : ViewParts) → v.pid ≡ own → v.table ≡ map (λ p. a) (range_with_len 0 n) ∷ [] → target_area v pid a.start ≡ Some a
area-one_slot n own pid a l m v is table =
    let same : (a.start == a.start) ≡ true = grind (arith, nat_tests) in
    target_area-alike n own pid a.start (a ∷ []) l m v is table ∙ ap (λ b. cond b (Some a) None) same
