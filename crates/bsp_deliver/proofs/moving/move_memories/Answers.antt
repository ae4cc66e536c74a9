use Rattle.std.proofs.Common.{◌≡◌, List, length, map, sym, ap, subst, ◌∙◌}
use Rattle.std.proofs.lemmas.List.FromFn.{length-range_with_len}
use Rattle.std.proofs.lemmas.Result.{on_ok_weaker}
use Rattle.bsp_step.specs.OutcomeParts.{OutcomeParts}
use Rattle.bsp_deliver.specs.Condition.{CanDeliver}
use Rattle.bsp_deliver.specs.Delivery.{delivery_parts, next_memory}
use Rattle.bsp_deliver.proofs.AllProcesses.{can_deliver_all}
use Rattle.bsp_deliver.proofs.BothOk.{on_first_ok}
use Rattle.bsp_deliver.proofs.MovedMemories.{targets_all, memories_moved}
use Rattle.bsp_deliver.proofs.moving.move_memories.Goals as goal

pub write_rows-written-requires : goal.write_rows-written-requires
write_rows-written-requires c =
    let os = c.args.outcomes.now in
    let count : length c.args.processes.now ≡ length os = ap length c.requires.processes ∙ length-range_with_len 0 (length os) in
    targets_all c.args.processes.now os c.in-Some.puts c.requires.deliverable.inside count c.in-Some.ensures.puts

pub memories_after-requires : goal.memories_after-requires
memories_after-requires c =
    subst (λ (os : List OutcomeParts). CanDeliver os c.args.processes.now) (sym c.in-None.ensures.unchanged)
    (can_deliver_all c.args.outcomes.now c.args.processes.now c.requires.deliverable c.requires.processes)

pub returns-in-Some : goal.returns-in-Some
returns-in-Some c =
    on_ok_weaker c.and.result
    (λ written. written
    ∙ memories_moved c.args.outcomes.now c.args.processes.now c.replace-room.new.dest c.in-Some.puts c.requires.deliverable c.requires.unread c.requires.processes
    (c.replace-room.ensures.after ∙ c.in-Some.ensures.memories) c.in-Some.ensures.puts)
    (on_first_ok _ c.write_rows-written.result c.keep_room-kept.result c.and.result c.and.ensures c.write_rows-written.ensures)

pub returns-in-None : goal.returns-in-None
returns-in-None c =
    on_ok_weaker c.memories_after.result
    (λ e. e ∙ ap (λ (os : List OutcomeParts). map (λ d. next_memory (delivery_parts os d)) c.args.processes.now) c.in-None.ensures.unchanged)
    c.memories_after.ensures
