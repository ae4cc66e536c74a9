use Rattle.std.proofs.Common.{◌≡◌, ◌≤◌, ℕ, List, arith, length, subst, sym, take}
use Rattle.std.proofs.lemmas.Result.{on_ok_weaker}
use Rattle.bsp_model.specs.Limits.{most_processes}
use Rattle.bsp_step.specs.OutcomeParts.{OutcomeParts}
use Rattle.bsp_deliver.specs.Condition.{CanDeliver}
use Rattle.bsp_deliver.specs.Inside.Gathering.{ArePlaces, AreTargets}
use Rattle.bsp_deliver.proofs.Gathered.{fewer_places}
use Rattle.bsp_deliver.proofs.SkippedSenders.{targets_of}
use Rattle.bsp_deliver.proofs.next_memories.write_some.Goals as goal

-- the places of all processes that there are
placed : (os : List OutcomeParts) (ps places : List ℕ) (n : ℕ) → n ≡ length os → CanDeliver os ps → ArePlaces most_processes ps places → ArePlaces (length os) ps (take n places)
placed os ps places n count can are =
    subst (λ m. ArePlaces m ps (take n places)) count (fewer_places n most_processes ps places (omega (arith, count, can.deliverable.few)) are)

pub places_of-places-requires-clause-known : goal.places_of-places-requires-clause-known
places_of-places-requires-clause-known c = λ k d l. omega (arith, c.requires.can.known k d l, c.requires.can.deliverable.few)

pub write_puts_to-requires-clause-targets : goal.write_puts_to-requires-clause-targets
write_puts_to-requires-clause-targets c =
    let os = c.args.outcomes.now in
    let ps = c.args.processes.now in
    let places = take c.len-count.result c.places_of-places.result in
    subst (λ n. AreTargets n places c.set_of-targets.result) (sym c.requires.count)
    (targets_of (length os) ps places c.set_of-targets.result (placed os ps c.places_of-places.result c.len-count.result c.len-count.ensures c.requires.can c.places_of-places.ensures) c.set_of-targets.ensures)

pub returns : goal.returns
returns c =
    let places = take c.len-count.result c.places_of-places.result in
    on_ok_weaker c.write_puts_to.result
    (λ e. (places, placed c.args.outcomes.now c.args.processes.now c.places_of-places.result c.len-count.result c.len-count.ensures c.requires.can c.places_of-places.ensures, e))
    c.write_puts_to.ensures
