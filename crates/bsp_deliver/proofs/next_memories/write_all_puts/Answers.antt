use Rattle.std.proofs.Common.{◌<◌, ◌∙◌, ap, sym, refl, arith, length, fold, subst, All}
use Rattle.bsp_model.specs.declared.request.Put.{Put}
use Rattle.bsp_step.specs.OutcomeParts.{OutcomeParts, outcome_of}
use Rattle.bsp_deliver.specs.Requests.{all_puts}
use Rattle.bsp_deliver.specs.Inside.Gathering.{put_at}
use Rattle.bsp_deliver.proofs.Senders.{outcome_at}
use Rattle.bsp_deliver.proofs.Gathered.{folded_more}
use Rattle.bsp_deliver.proofs.SkippedSenders.{targets_known}
use Rattle.bsp_deliver.proofs.next_memories.write_all_puts.Goals as goal

pub loop-sender-init : goal.loop-sender-init
unfolding all_puts
loop-sender-init c = refl

pub write_puts-requires : goal.write_puts-requires
write_puts-requires c =
    let os = c.args.outcomes.now in
    let i = c.loop-sender.sender in
    let here : i < length os = omega (arith, c.loop-sender-test.true, c.len-sender-end.ensures) in
    subst (λ rs. All (λ (r : Put). r.target < length c.args.places.now) rs) (sym c.puts-own.ensures) (targets_known c.args.places.now os i c.requires.deliverable.inside c.requires.count here)

pub loop-sender-preserved : goal.loop-sender-preserved
unfolding all_puts
loop-sender-preserved c =
    let os = c.args.outcomes.now in
    let i = c.loop-sender.sender in
    let here : i < length os = omega (arith, c.loop-sender-test.true, c.len-sender-end.ensures) in
    let o = outcome_of os i in
    c.in_ok-write_puts.ensures
    ∙ ap (fold (put_at c.args.places.now) c.loop-sender.memories) c.puts-own.ensures
    ∙ ap (λ xs. fold (put_at c.args.places.now) xs o.puts) c.loop-sender.invariant
    ∙ sym (folded_more (λ (o : OutcomeParts). o.puts) (put_at c.args.places.now) c.args.memories.now os i o here (outcome_at os i here))
