use Rattle.std.proofs.Common.{◌≡◌, ◌+◌, ◌&&◌, ◌∙◌, All, filter, fold, length, map, true, false, ap, arith, sym}
use Rattle.std.proofs.lemmas.List.Elements.{All-filter}
use Rattle.bsp_model.specs.Limits.{most_requests}
use Rattle.bsp_model.specs.declared.request.Get.{Get}
use Rattle.bsp_step.specs.OutcomeParts.{OutcomeParts, no_outcome, outcome_of}
use Rattle.bsp_deliver.specs.Cost.{get_transfer}
use Rattle.bsp_deliver.specs.Inside.Sums.{transfers_of, IsSmall}
use Rattle.bsp_deliver.proofs.Senders.{outcome_at}
use Rattle.bsp_deliver.proofs.Counts.{small_gets}
use Rattle.bsp_causes.specs.Inside.Travel.{reads_other}
use Rattle.bsp_causes.specs.Travel.{requests_again}
use Rattle.bsp_causes.specs.Inside.Moved.{counted}
use Rattle.bsp_causes.specs.Inside.Travel.{is_in}
use Rattle.bsp_causes.proofs.Counting.{filter_shorter, nothing_moves}
use Rattle.bsp_causes.proofs.Sums.{room_at}
use Rattle.bsp_causes.proofs.Travelling.{bounded}
use Rattle.bsp_causes.proofs.moved.Moved.count_requests.Goals as goal

pub returns-then-not-contains-clause-sums : goal.returns-then-not-contains-clause-sums
returns-then-not-contains-clause-sums c =
    let p = c.args.p in
    let o = outcome_of c.args.after.now p in
    let D = is_in c.args.redone.now.delivered in
    let r = reads_other c.args.before.now c.args.after.now in
    let d : D p ≡ false = sym c.contains-2.ensures ∙ c.if-not-contains.true in
    let t : is_in c.args.redone.now.turned p ≡ false = sym c.contains.ensures ∙ c.if-contains.false in
    sym (ap (fold counted c.args.self.now)
    (ap (λ b. transfers_of p (requests_again b D (λ g. D p && r g) o)) t ∙ ap (λ b. transfers_of p (requests_again false D (λ g. b && r g) o)) d ∙ nothing_moves p D r o))

pub count_other_gets-requires-clause-small : goal.count_other_gets-requires-clause-small
count_other_gets-requires-clause-small c =
    let os = c.args.after.now in
    rw (ap (λ (x : OutcomeParts). x.gets) (c.own.view_is ∙ c.get-own.ensures))
    (small_gets os c.args.p (outcome_of os c.args.p) c.requires.deliverable c.requires.known (outcome_at os c.args.p c.requires.known))

pub count_other_gets-requires-clause-addresses : goal.count_other_gets-requires-clause-addresses
count_other_gets-requires-clause-addresses c =
    rw (ap (λ (x : OutcomeParts). x.gets) (c.own.view_is ∙ c.get-own.ensures))
    ((bounded c.args.after.now c.requires.deliverable).addresses c.args.p no_outcome c.requires.known)

pub returns-clause-room : goal.returns-clause-room
returns-clause-room c =
    let os = c.args.after.now in
    let p = c.args.p in
    let o = outcome_of os p in
    let r = reads_other c.args.before.now os in
    let gets = ap (λ (x : OutcomeParts). x.gets) (c.own.view_is ∙ c.get-own.ensures) in
    λ n room.
    room_at (get_transfer p) (filter r o.gets) c.args.self.now c.count_other_gets.new.self (most_requests + n) n
    (c.count_other_gets.ensures ∙ ap (λ xs. fold counted c.args.self.now (map (get_transfer p) (filter r xs))) gets)
    (All-filter r (λ x. IsSmall (get_transfer p x)) o.gets (small_gets os p o c.requires.deliverable c.requires.known (outcome_at os p c.requires.known)))
    (omega (arith, filter_shorter r o.gets, ap length gets, c.own.invariant.few_requests)) room
