use Rattle.std.proofs.Common.{◌∙◌, ap, sym, length, map, ◌≡◌, ◌+◌, ◌≤◌, ℕ, List, All, subst, get_or}
use Rattle.bsp_model.specs.declared.request.Put.{Put}
use Rattle.bsp_model.specs.declared.request.Send.{Send}
use Rattle.bsp_step.specs.ViewParts.{IsQueue}
use Rattle.bsp_deliver.specs.Delivery.{get_write, put_write, message_of, delivery_parts, next_memory, next_queue}
use Rattle.bsp_deliver.specs.Inside.Gathering.{overlay}
use Rattle.bsp_deliver.specs.Inbox.{InboxParts}
use Rattle.bsp_deliver.specs.Condition.{sizes_of}
use Rattle.bsp_deliver.proofs.Writes.{overlay-next_memory, length-overlay, length-next_memory}
use Rattle.bsp_deliver.proofs.Senders.{sizes-outcome_of, puts_inside}
use Rattle.bsp_deliver.proofs.one_process.deliver_inbox.Goals as goal

pub write_sent_puts-requires : goal.write_sent_puts-requires
unfolding delivery_parts
write_sent_puts-requires c =
    let os = c.args.outcomes.now in let d = c.args.d in
    let parts = delivery_parts os d in
    let puts : c.as_slice.result.now ≡ parts.puts = c.as_slice.ensures ∙ ap (λ (i : InboxParts). i.puts) (c.inbox.view_is ∙ c.requires.own) in
    let long : get_or (sizes_of os) d 0 ≡ length c.in_ok-memory.memory =
    sizes-outcome_of os d c.requires.known ∙ sym (length-overlay parts.memory (map get_write parts.gets)) ∙ sym (ap length c.in_ok-memory.ensures) in
    subst (λ (ps : List (ℕ × Put)). All (λ (p : ℕ × Put). p.1.start + length p.1.words ≤ length c.in_ok-memory.memory) ps) (sym puts)
    (subst (λ n. All (λ (p : ℕ × Put). p.1.start + length p.1.words ≤ n) parts.puts) long (puts_inside os d c.requires.deliverable))

pub returns-clause-memory : goal.returns-clause-memory
returns-clause-memory c =
    let parts = delivery_parts c.args.outcomes.now c.args.d in
    c.in_ok-write_sent_puts.ensures
    ∙ ap (λ (ps : List (ℕ × Put)). overlay c.in_ok-memory.memory (map put_write ps)) (c.as_slice.ensures ∙ ap (λ (i : InboxParts). i.puts) (c.inbox.view_is ∙ c.requires.own))
    ∙ ap (λ (m : List ℕ). overlay m (map put_write parts.puts)) c.in_ok-memory.ensures
    ∙ overlay-next_memory parts

pub returns-clause-queue : goal.returns-clause-queue
unfolding next_queue
returns-clause-queue c =
    c.in_ok-queue.ensures ∙ ap (map (λ (m : ℕ × Send). message_of m.1)) (c.as_slice-2.ensures ∙ ap (λ (i : InboxParts). i.sends) (c.inbox.view_is ∙ c.requires.own))

pub returns-clause-len : goal.returns-clause-len
unfolding delivery_parts next_memory
returns-clause-len c = ap length (returns-clause-memory c) ∙ length-next_memory (delivery_parts c.args.outcomes.now c.args.d)

pub returns-clause-limits : goal.returns-clause-limits
returns-clause-limits c = subst IsQueue (sym (c.in_ok-queue.ensures ∙ ap (map (λ (m : ℕ × Send). message_of m.1)) c.as_slice-2.ensures)) c.inbox.invariant
