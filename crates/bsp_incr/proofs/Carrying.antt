-- What is carried over from the previous run to the next superstep, and what is put in its places.
use Rattle.std.proofs.Common.{◌≡◌, ◌<◌, ℕ, true, false, List, [], ◌∷◌, map, length, get_or, arith, refl, ap, ◌∙◌}
use Rattle.std.proofs.lemmas.List.{get_or-map, length-map}
use Rattle.bsp_model.specs.declared.request.Message.{Message}
use Rattle.bsp_step.specs.ViewParts.{ViewParts}
use Rattle.bsp_step.specs.OutcomeParts.{OutcomeParts}
use Rattle.bsp_deliver.specs.Delivery.{delivery_parts, next_memory, next_queue}
use Rattle.bsp_run.specs.State.{cell_of}
use Rattle.bsp_run.specs.Condition.{no_view, deliveries_of}
use Rattle.bsp_run.specs.Shares.{deliveries_to}
use Rattle.bsp_run.proofs.Shares.{deliveries_to-all}
use Rattle.bsp_incr.specs.Inside.Changes.{is_touched}
use Rattle.bsp_model.specs.ProcessSet.{processes_where}
use Rattle.bsp_incr.specs.Inside.Marks.{AreDelivered}
use Rattle.bsp_model.specs.Replaced.{replaced}
use Rattle.bsp_incr.proofs.Gathering.{all_where}
use Rattle.bsp_incr.proofs.Patching.{patched, patched_is}
use Rattle.bsp_incr.proofs.Propagation.{untouched_is, touched-none}

-- the memory and the queue that are delivered to a process
abbrev pub cell : List OutcomeParts → ℕ → List ℕ × List Message
cell os d = (next_memory (delivery_parts os d), next_queue (delivery_parts os d))

-- it is what the process saw next before, where the delivery stays
cell_kept : (old os : List OutcomeParts) (views : List ViewParts) (p : ℕ) → AreDelivered old views → is_touched old os p ≡ false → cell_of (get_or views p no_view) ≡ cell os p
cell_kept old os views p h t =
    let same = untouched_is old os p t in
    let memory = h.memory p same.0 ∙ ap next_memory same.1 in
    let queue = h.queue p same.0 ∙ ap next_queue same.1 in
    λ i. (memory i, queue i)

pub nothing : {X : Type 0} (xs : List X) → length xs ≡ 0 → xs ≡ []
nothing [] e = refl
nothing (x ∷ xs) e = absurd (omega arith)

-- Where nothing was delivered before, all cells are made.
pub cells_of_none : (old os : List OutcomeParts) (touched : List ℕ) (made : List (List ℕ × List Message)) → length old ≡ 0 → touched ≡ processes_where (length os) (is_touched old os) → made ≡ deliveries_to os touched → made ≡ deliveries_of os
cells_of_none old os touched made none t m =
    let all : (p : ℕ) → p < length os → is_touched old os p ≡ true = λ p l. ap (λ (xs : List OutcomeParts). is_touched xs os p) (nothing old none) ∙ touched-none os p in
    m ∙ ap (deliveries_to os) (t ∙ all_where (length os) (is_touched old os) all) ∙ deliveries_to-all os

-- Else the others are those that were seen.
pub cells_in_place : (old os : List OutcomeParts) (views : List ViewParts) (touched : List ℕ) (made : List (List ℕ × List Message)) → AreDelivered old views → length old ≡ length os → touched ≡ processes_where (length os) (is_touched old os) → made ≡ deliveries_to os touched
    → replaced (map cell_of views) touched made ≡ deliveries_of os
cells_in_place old os views touched made h long t m =
    let n = length os in
    let cells = map cell_of views in
    let seen : length views ≡ n = h.count ∙ long in
    let there : (p : ℕ) → p < n → is_touched old os p ≡ false → get_or cells p ([], []) ≡ cell os p =
    λ p l f. get_or-map cell_of views p no_view ([], []) (omega (arith, l, seen)) ∙ cell_kept old os views p h f in
    ap (replaced cells touched) m ∙ ap (λ (ps : List ℕ). patched (cell os) cells ps) t ∙ patched_is (cell os) (is_touched old os) n cells ([], []) (length-map views cell_of ∙ seen) there
    ∙ deliveries_to-all os
