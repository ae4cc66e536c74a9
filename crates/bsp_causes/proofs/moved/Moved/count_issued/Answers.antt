use Rattle.std.proofs.Common.{◌≡◌, ℕ, ◌+◌, ◌≤◌, ◌∙◌, Bool, List, All, filter, fold, length, map, ap, arith, refl, subst, sym, true}
use Rattle.std.proofs.lemmas.List.Elements.{All-filter}
use Rattle.bsp_model.specs.Limits.{most_requests}
use Rattle.bsp_model.specs.declared.request.Get.{Get}
use Rattle.bsp_model.specs.declared.request.Put.{Put}
use Rattle.bsp_model.specs.declared.request.Send.{Send}
use Rattle.bsp_step.specs.OutcomeParts.{OutcomeParts, IsShortSend, outcome_of}
use Rattle.bsp_causes.specs.declared.moved.Moved.{Moved}
use Rattle.bsp_deliver.specs.Cost.{put_transfer, get_transfer, send_transfer}
use Rattle.bsp_deliver.specs.Inside.Sums.{IsSmall}
use Rattle.bsp_causes.specs.Inside.Moved.{counted, HasRoom}
use Rattle.bsp_deliver.proofs.Senders.{outcome_at}
use Rattle.bsp_deliver.proofs.Counts.{small_puts, small_gets, small_sends}
use Rattle.bsp_causes.proofs.Sums.{room_at}
use Rattle.bsp_causes.specs.Inside.Travel.{is_in}
use Rattle.bsp_causes.proofs.Counting.{filter_shorter}
use Rattle.bsp_causes.proofs.moved.Moved.count_issued.Goals as goal

pub count_puts-requires-clause-small : goal.count_puts-requires-clause-small
count_puts-requires-clause-small c =
    rw (ap (λ (x : OutcomeParts). x.puts) (c.own.view_is ∙ c.get-own.ensures))
    (small_puts c.args.outcomes.now c.args.p (outcome_of c.args.outcomes.now c.args.p) c.requires.deliverable c.requires.known (outcome_at c.args.outcomes.now c.args.p c.requires.known))

pub count_gets-requires-clause-small : goal.count_gets-requires-clause-small
count_gets-requires-clause-small c =
    rw (ap (λ (x : OutcomeParts). x.gets) (c.own.view_is ∙ c.get-own.ensures))
    (small_gets c.args.outcomes.now c.args.p (outcome_of c.args.outcomes.now c.args.p) c.requires.deliverable c.requires.known (outcome_at c.args.outcomes.now c.args.p c.requires.known))

pub count_gets-requires-clause-room : goal.count_gets-requires-clause-room
count_gets-requires-clause-room c =
    let os = c.args.outcomes.now in
    let p = c.args.p in
    let o = outcome_of os p in
    let test : Put → Bool = λ (x : Put). is_in c.args.targets.now x.target in
    let puts = ap (λ (x : OutcomeParts). x.puts) (c.own.view_is ∙ c.get-own.ensures) in
    room_at (put_transfer p) (filter test o.puts) c.args.self.now c.count_puts.new.self most_requests (length c.own.inside.gets.now)
    (c.count_puts.ensures ∙ ap (λ xs. fold counted c.args.self.now (map (put_transfer p) (filter test xs))) puts)
    (All-filter test (λ x. IsSmall (put_transfer p x)) o.puts (small_puts os p o c.requires.deliverable c.requires.known (outcome_at os p c.requires.known)))
    (omega (arith, filter_shorter test o.puts, ap length puts, c.own.invariant.few_requests)) c.requires.room

pub count_sends-requires-clause-small : goal.count_sends-requires-clause-small
count_sends-requires-clause-small c =
    let o = outcome_of c.args.outcomes.now c.args.p in
    let short : All IsShortSend o.sends = subst (λ (x : OutcomeParts). All IsShortSend x.sends) (c.own.view_is ∙ c.get-own.ensures) c.own.invariant.sends.each in
    rw (ap (λ (x : OutcomeParts). x.sends) (c.own.view_is ∙ c.get-own.ensures))
    (small_sends c.args.outcomes.now c.args.p o c.requires.deliverable c.requires.known (outcome_at c.args.outcomes.now c.args.p c.requires.known) short)

-- room that is left after the puts and the gets
after_gets : (p m n : ℕ) (test : Put → Bool) (s t u : Moved) (puts : List Put) (gets : List Get) → t ≡ fold counted s (map (put_transfer p) (filter test puts)) → u ≡ fold counted t (map (get_transfer p) gets)
    → All (λ x. IsSmall (put_transfer p x)) puts → All (λ x. IsSmall (get_transfer p x)) gets → length puts + (length gets + n) ≤ m → HasRoom s m → HasRoom u n
after_gets p m n test s t u puts gets is then small_p small_g few room =
    room_at (get_transfer p) gets t u (length gets + n) n then small_g (omega arith)
    (room_at (put_transfer p) (filter test puts) s t m (length gets + n) is (All-filter test (λ x. IsSmall (put_transfer p x)) puts small_p) (omega (arith, filter_shorter test puts)) room)

pub count_sends-requires-clause-room : goal.count_sends-requires-clause-room
count_sends-requires-clause-room c =
    let os = c.args.outcomes.now in
    let p = c.args.p in
    let o = outcome_of os p in
    let test : Put → Bool = λ (x : Put). is_in c.args.targets.now x.target in
    let puts = ap (λ (x : OutcomeParts). x.puts) (c.own.view_is ∙ c.get-own.ensures) in
    let gets = ap (λ (x : OutcomeParts). x.gets) (c.own.view_is ∙ c.get-own.ensures) in
    after_gets p most_requests (length c.own.inside.sends) test c.args.self.now c.count_puts.new.self c.count_gets.new.self o.puts o.gets
    (c.count_puts.ensures ∙ ap (λ xs. fold counted c.args.self.now (map (put_transfer p) (filter test xs))) puts)
    (c.count_gets.ensures ∙ ap (λ xs. fold counted c.count_puts.new.self (map (get_transfer p) xs)) gets)
    (small_puts os p o c.requires.deliverable c.requires.known (outcome_at os p c.requires.known))
    (small_gets os p o c.requires.deliverable c.requires.known (outcome_at os p c.requires.known))
    (omega (arith, ap length puts, ap length gets, c.own.invariant.few_requests)) c.requires.room

pub returns-clause-room : goal.returns-clause-room
returns-clause-room c =
    let os = c.args.outcomes.now in
    let p = c.args.p in
    let o = outcome_of os p in
    let few = c.own.invariant.few_requests in
    let short : All IsShortSend o.sends = subst (λ (x : OutcomeParts). All IsShortSend x.sends) (c.own.view_is ∙ c.get-own.ensures) c.own.invariant.sends.each in
    let puts = ap (λ (x : OutcomeParts). x.puts) (c.own.view_is ∙ c.get-own.ensures) in
    let gets = ap (λ (x : OutcomeParts). x.gets) (c.own.view_is ∙ c.get-own.ensures) in
    let sends = ap (λ (x : OutcomeParts). x.sends) (c.own.view_is ∙ c.get-own.ensures) in
    let test : Put → Bool = λ (x : Put). is_in c.args.targets.now x.target in
    let to : Send → Bool = λ (x : Send). is_in c.args.targets.now x.target in
    λ n room.
    room_at (send_transfer p) (filter to o.sends) c.count_gets.new.self c.count_sends.new.self (length o.sends + n) n
    (c.count_sends.ensures ∙ ap (λ xs. fold counted c.count_gets.new.self (map (send_transfer p) (filter to xs))) sends)
    (All-filter to (λ x. IsSmall (send_transfer p x)) o.sends (small_sends os p o c.requires.deliverable c.requires.known (outcome_at os p c.requires.known) short))
    (omega (arith, filter_shorter to o.sends))
    (after_gets p (most_requests + n) (length o.sends + n) test c.args.self.now c.count_puts.new.self c.count_gets.new.self o.puts o.gets
    (c.count_puts.ensures ∙ ap (λ xs. fold counted c.args.self.now (map (put_transfer p) (filter test xs))) puts)
    (c.count_gets.ensures ∙ ap (λ xs. fold counted c.count_puts.new.self (map (get_transfer p) xs)) gets)
    (small_puts os p o c.requires.deliverable c.requires.known (outcome_at os p c.requires.known))
    (small_gets os p o c.requires.deliverable c.requires.known (outcome_at os p c.requires.known))
    (omega (arith, ap length puts, ap length gets, ap length sends, few)) room)
