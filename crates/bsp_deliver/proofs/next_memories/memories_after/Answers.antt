use Rattle.std.proofs.Common.{◌≡◌, ◌<◌, ◌∙◌, ℕ, List, All, length, map, fold, ap, sym, subst, refl, arith}
use Rattle.std.specs.List.{range_with_len}
use Rattle.std.proofs.lemmas.List.{ext_get_or, length-map}
use Rattle.std.proofs.lemmas.List.FromFn.{get_or-range_with_len, length-range_with_len}
use Rattle.std.proofs.lemmas.Result.{on_ok_weaker}
use Rattle.bsp_model.proofs.Replaced.{all_places}
use Rattle.bsp_step.specs.OutcomeParts.{OutcomeParts}
use Rattle.bsp_deliver.specs.Requests.{all_puts}
use Rattle.bsp_model.specs.Replaced.{IsAscending}
use Rattle.bsp_deliver.specs.Delivery.{get_write, delivery_parts}
use Rattle.bsp_deliver.specs.Inside.Gathering.{overlay, put_at, ArePlaces}
use Rattle.bsp_deliver.proofs.AllProcesses.{at_own_place}
use Rattle.bsp_deliver.proofs.Gathered.{memories_gathered}
use Rattle.bsp_deliver.proofs.next_memories.memories_after.Goals as goal

-- as many processes as there are, in ascending order, are all of them
all_numbers : (n : ℕ) (ps : List ℕ) → All (λ d. d < n) ps → IsAscending ps → length ps ≡ n → ps ≡ range_with_len 0 n
all_numbers n ps known ascending count =
    ext_get_or 0 ps (range_with_len 0 n) (count ∙ sym (length-range_with_len 0 n))
    (λ k inside. omega (arith, all_places ps k (subst (λ m. All (λ d. d < m) ps) (sym count) known) ascending inside, get_or-range_with_len 0 n k 0 (omega (arith, inside, count))))

-- what the processes have after computing, with the words that their gets read
abbrev computed : List OutcomeParts → ℕ → List ℕ
computed os d = overlay (delivery_parts os d).memory (map get_write (delivery_parts os d).gets)

pub write_some-requires-clause-count : goal.write_some-requires-clause-count
write_some-requires-clause-count c = ap length c.in_ok-load_memories.ensures ∙ length-map c.args.processes.now (computed c.args.outcomes.now)

pub returns-then-processes-len : goal.returns-then-processes-len
returns-then-processes-len c =
    let os = c.args.outcomes.now in
    let n = length os in
    let ps = c.args.processes.now in
    let all = all_numbers n ps c.requires.known c.requires.ascending (c.if-processes-len.true ∙ c.len.ensures) in
    let at : ArePlaces n ps ps = subst (λ (l : List ℕ). ArePlaces n l l) (sym all) (at_own_place n) in
    let all_written = ap (λ (ms : List (List ℕ)). fold (λ xs s. put_at ps xs s.1) ms (all_puts os)) c.in_ok-load_memories.ensures
    ∙ memories_gathered os ps ps (map (computed os) ps) c.requires.deliverable c.requires.known at refl in
    on_ok_weaker c.write_all_puts.result (λ e. e ∙ all_written) c.write_all_puts.ensures

pub returns : goal.returns
returns c =
    let os = c.args.outcomes.now in
    let ps = c.args.processes.now in
    on_ok_weaker c.write_some.result
    (λ some.
    some.2
    ∙ ap (λ (ms : List (List ℕ)). fold (λ xs s. put_at some.0 xs s.1) ms (all_puts os)) c.in_ok-load_memories.ensures
    ∙ memories_gathered os ps some.0 (map (computed os) ps) c.requires.deliverable c.requires.known some.1 refl)
    c.write_some.ensures
