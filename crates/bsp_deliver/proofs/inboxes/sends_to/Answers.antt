use Rattle.std.proofs.Common.{◌≡◌, ℕ, ◌<◌, length, Bool, ◌+◌, ◌==◌, ◌++◌, ◌∙◌, ap, sym, arith, map, filter, List, subst}
use Rattle.std.proofs.lemmas.List.{map-append}
use Rattle.bsp_model.specs.declared.request.Send.{Send}
use Rattle.bsp_model.specs.declared.request.Message.{Message}
use Rattle.bsp_step.specs.OutcomeParts.{OutcomeParts, outcome_of, IsOutcome}
use Rattle.bsp_deliver.specs.Requests.{all_sends}
use Rattle.bsp_deliver.specs.Delivery.{message_of}
use Rattle.bsp_deliver.proofs.Senders.{outcome_at, map_twice}
use Rattle.bsp_deliver.proofs.AddressedRequests.{addressed_more}
use Rattle.bsp_deliver.proofs.Queues.{IsQueueOf, no_senders, sender_more, queue_of_few}
use Rattle.bsp_deliver.proofs.inboxes.sends_to.Goals as goal

abbrev messages_of : List (ℕ × Send) → List Message
messages_of ms = map (λ (m : ℕ × Send). message_of m.1) ms

pub loop-sender-init : goal.loop-sender-init
unfolding all_sends
loop-sender-init c = record { sends = c.new-sends.ensures; limits = subst (λ (ms : List (ℕ × Send)). IsQueueOf 0 (messages_of ms)) (sym c.new-sends.ensures) no_senders }

pub loop-sender-preserved : goal.loop-sender-preserved
unfolding all_sends
loop-sender-preserved c =
    let os = c.args.outcomes.now in
    let i = c.loop-sender.sender in
    let here : i < length os = omega (arith, c.loop-sender-test.true, c.len-sender-end.ensures) in
    let o = outcome_of os i in
    let to : Send → Bool = λ m. m.target == c.args.d in
    let sent = λ (ms : List Send). map {B = ℕ × Send} (λ (m : Send). (i, m)) (filter to ms) in
    let grown : c.add_sends.new.list ≡ c.loop-sender.sends ++ sent o.sends =
    c.in_ok-add_sends.ensures ∙ ap (λ ms. c.loop-sender.sends ++ sent ms) (ap (λ (x : OutcomeParts). x.sends) (c.outcome.view_is ∙ c.get-outcome.ensures)) in
    let queue : messages_of c.add_sends.new.list ≡ messages_of c.loop-sender.sends ++ map message_of (filter to o.sends) =
    ap messages_of grown
    ∙ map-append (λ (m : ℕ × Send). message_of m.1) c.loop-sender.sends (sent o.sends)
    ∙ ap (λ ms. messages_of c.loop-sender.sends ++ ms) (sym (map_twice (λ (m : ℕ × Send). message_of m.1) (λ (m : Send). (i, m)) (filter to o.sends))) in
    record {
      sends =
          grown
          ∙ ap (λ (ms : List (ℕ × Send)). ms ++ sent o.sends) c.loop-sender.invariant.sends
          ∙ sym (addressed_more (λ (x : OutcomeParts). x.sends) to os i o here (outcome_at os i here));
      limits =
          subst (IsQueueOf (i + 1)) (sym queue)
          (sender_more c.args.d i (messages_of c.loop-sender.sends) o c.loop-sender.invariant.limits (subst IsOutcome (c.outcome.view_is ∙ c.get-outcome.ensures) c.outcome.invariant));
    }

pub returns-clause-limits : goal.returns-clause-limits
returns-clause-limits c = queue_of_few c.loop-sender.sender (messages_of c.loop-sender.sends) (omega (arith, c.requires)) c.loop-sender.invariant.limits
