use Rattle.std.proofs.Common.{ℕ, ◌<◌, length, arith, Bool, ◌==◌, ◌++◌, ◌∙◌, ap, sym, map, filter, List}
use Rattle.bsp_model.specs.declared.request.Put.{Put}
use Rattle.bsp_step.specs.OutcomeParts.{OutcomeParts, outcome_of}
use Rattle.bsp_deliver.specs.Requests.{all_puts}
use Rattle.bsp_deliver.proofs.Senders.{outcome_at}
use Rattle.bsp_deliver.proofs.AddressedRequests.{addressed_more}
use Rattle.bsp_deliver.proofs.inboxes.puts_to.Goals as goal

pub loop-sender-init : goal.loop-sender-init
unfolding all_puts
loop-sender-init c = c.new-puts.ensures

pub loop-sender-preserved : goal.loop-sender-preserved
unfolding all_puts
loop-sender-preserved c =
    let os = c.args.outcomes.now in
    let i = c.loop-sender.sender in
    let here : i < length os = omega (arith, c.loop-sender-test.true, c.len-sender-end.ensures) in
    let o = outcome_of os i in
    let to : Put → Bool = λ p. p.target == c.args.d in
    let sent = λ (ps : List Put). map {B = ℕ × Put} (λ (p : Put). (i, p)) (filter to ps) in
    c.in_ok-add_puts.ensures
    ∙ ap (λ ps. c.loop-sender.puts ++ sent ps) (ap (λ (x : OutcomeParts). x.puts) (c.outcome.view_is ∙ c.get-outcome.ensures))
    ∙ ap (λ (ps : List (ℕ × Put)). ps ++ sent o.puts) c.loop-sender.invariant
    ∙ sym (addressed_more (λ (x : OutcomeParts). x.puts) to os i o here (outcome_at os i here))
