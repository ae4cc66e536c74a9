use Rattle.std.proofs.Common.{◌≡◌, ◌<◌, ◌+◌, ◌-◌, ◌∙◌, ap, sym, arith, length, fold, subst, All}
use Rattle.std.proofs.lemmas.List.{take_all}
use Rattle.bsp_model.specs.declared.request.Put.{Put}
use Rattle.bsp_step.specs.OutcomeParts.{OutcomeParts, outcome_of}
use Rattle.bsp_deliver.specs.Requests.{all_puts, requests_from}
use Rattle.bsp_deliver.specs.Inside.Gathering.{put_at}
use Rattle.bsp_deliver.proofs.Senders.{outcome_at}
use Rattle.bsp_deliver.proofs.Gathered.{folded_more}
use Rattle.bsp_deliver.proofs.SkippedSenders.{senders_skipped, targets_known}
use Rattle.bsp_deliver.proofs.next_memories.write_puts_to.Goals as goal

pub loop-sender-init : goal.loop-sender-init
loop-sender-init c =
    let next = c.next_putting_to-sender.result in
    sym (senders_skipped c.args.places.now c.args.targets.now c.args.memories.now c.args.outcomes.now 0 next next c.requires.inside c.requires.count c.requires.targets (omega arith) c.next_putting_to-sender.ensures.before)

pub write_puts-requires : goal.write_puts-requires
write_puts-requires c =
    let os = c.args.outcomes.now in
    let i = c.loop-sender.sender in
    let here : i < length os = omega (arith, c.loop-sender-test.true, c.len.ensures) in
    subst (λ rs. All (λ (r : Put). r.target < length c.args.places.now) rs) (sym c.puts-own.ensures) (targets_known c.args.places.now os i c.requires.inside c.requires.count here)

pub loop-sender-preserved : goal.loop-sender-preserved
loop-sender-preserved c =
    let os = c.args.outcomes.now in
    let places = c.args.places.now in
    let i = c.loop-sender.sender in
    let next = c.next_putting_to-sender-in-loop-sender.result in
    let here : i < length os = omega (arith, c.loop-sender-test.true, c.len.ensures) in
    let o = outcome_of os i in
    let far : (i + 1) + (next - (i + 1)) ≡ next = omega (arith, c.next_putting_to-sender-in-loop-sender.ensures.later) in
    c.in_ok-write_puts.ensures
    ∙ ap (fold (put_at places) c.loop-sender.memories) c.puts-own.ensures
    ∙ ap (λ xs. fold (put_at places) xs o.puts) c.loop-sender.invariant
    ∙ sym (folded_more (λ (o : OutcomeParts). o.puts) (put_at places) c.args.memories.now os i o here (outcome_at os i here))
    ∙ sym (senders_skipped places c.args.targets.now c.args.memories.now os (i + 1) (next - (i + 1)) next c.requires.inside c.requires.count c.requires.targets far c.next_putting_to-sender-in-loop-sender.ensures.before)

pub returns : goal.returns
unfolding all_puts
returns c =
    let os = c.args.outcomes.now in
    let i = c.loop-sender.sender in
    c.loop-sender.invariant
    ∙ ap (λ xs. fold (λ ms s. put_at c.args.places.now ms s.1) c.args.memories.now (requests_from (λ (o : OutcomeParts). o.puts) 0 xs)) (take_all i os (omega (arith, c.loop-sender-test.false, c.len.ensures)))
