use Rattle.std.proofs.Common.{◌≡◌, ℕ, ◌+◌, ◌++◌, [], List, length, ap, sym, ◌∙◌, arith, subst, All, fold, map}
use Rattle.std.proofs.lemmas.Bool.{OnTrue_at}
use Rattle.std.proofs.lemmas.List.{append-nil}
use Rattle.bsp_model.specs.Limits.{most_requests}
use Rattle.bsp_model.specs.declared.request.Get.{Get}
use Rattle.bsp_model.specs.declared.request.Send.{Send}
use Rattle.bsp_step.specs.OutcomeParts.{OutcomeParts, IsShortSend, no_outcome, outcome_of}
use Rattle.bsp_deliver.specs.Cost.{put_transfer, get_transfer, send_transfer}
use Rattle.bsp_deliver.specs.Inside.Puts.{HasPutsAlone}
use Rattle.bsp_deliver.specs.Inside.Sums.{is_target, counted_to, transfers_of}
use Rattle.bsp_deliver.proofs.Senders.{outcome_at}
use Rattle.bsp_deliver.proofs.Counts.{room_at, small_puts, small_gets, small_sends}
use Rattle.bsp_deliver.proofs.cost.Sums.count_requests.Goals as goal

pub count_puts-requires-clause-small : goal.count_puts-requires-clause-small
count_puts-requires-clause-small c =
    rw (ap (λ (x : OutcomeParts). x.puts) (c.own.view_is ∙ c.get-own.ensures))
    (small_puts c.args.outcomes.now c.args.p (outcome_of c.args.outcomes.now c.args.p) c.requires.deliverable c.requires.known (outcome_at c.args.outcomes.now c.args.p c.requires.known))

pub count_gets-requires-clause-small : goal.count_gets-requires-clause-small
count_gets-requires-clause-small c =
    rw (ap (λ (x : OutcomeParts). x.gets) (c.own.view_is ∙ c.get-own.ensures))
    (small_gets c.args.outcomes.now c.args.p (outcome_of c.args.outcomes.now c.args.p) c.requires.deliverable c.requires.known (outcome_at c.args.outcomes.now c.args.p c.requires.known))

pub count_gets-requires-clause-room : goal.count_gets-requires-clause-room
count_gets-requires-clause-room c =
    let os = c.args.outcomes.now in
    let p = c.args.p in
    let o = outcome_of os p in
    let puts = ap (λ (x : OutcomeParts). x.puts) (c.own.view_is ∙ c.get-own.ensures) in
    room_at (is_target c.args.targets.now) (put_transfer p) o.puts c.args.self.now c.count_puts.new.self most_requests (length c.own.inside.gets.now)
    (c.count_puts.ensures ∙ ap (λ xs. fold (counted_to (is_target c.args.targets.now)) c.args.self.now (map (put_transfer p) xs)) puts)
    (small_puts os p o c.requires.deliverable c.requires.known (outcome_at c.args.outcomes.now c.args.p c.requires.known))
    (omega (arith, ap length puts, c.own.invariant.few_requests)) c.requires.room

pub count_sends-requires-clause-small : goal.count_sends-requires-clause-small
count_sends-requires-clause-small c =
    let o = outcome_of c.args.outcomes.now c.args.p in
    let short : All IsShortSend o.sends = subst (λ (x : OutcomeParts). All IsShortSend x.sends) (c.own.view_is ∙ c.get-own.ensures) c.own.invariant.sends.each in
    rw (ap (λ (x : OutcomeParts). x.sends) (c.own.view_is ∙ c.get-own.ensures))
    (small_sends c.args.outcomes.now c.args.p o c.requires.deliverable c.requires.known (outcome_at c.args.outcomes.now c.args.p c.requires.known) short)

pub count_sends-requires-clause-room : goal.count_sends-requires-clause-room
count_sends-requires-clause-room c =
    let os = c.args.outcomes.now in
    let p = c.args.p in
    let o = outcome_of os p in
    let few = c.own.invariant.few_requests in
    let puts = ap (λ (x : OutcomeParts). x.puts) (c.own.view_is ∙ c.get-own.ensures) in
    let gets = ap (λ (x : OutcomeParts). x.gets) (c.own.view_is ∙ c.get-own.ensures) in
    let n = length c.own.inside.sends in
    room_at (is_target c.args.targets.now) (get_transfer p) o.gets c.count_puts.new.self c.count_gets.new.self (length o.gets + n) n
    (c.count_gets.ensures ∙ ap (λ xs. fold (counted_to (is_target c.args.targets.now)) c.count_puts.new.self (map (get_transfer p) xs)) gets)
    (small_gets os p o c.requires.deliverable c.requires.known (outcome_at c.args.outcomes.now c.args.p c.requires.known)) (omega arith)
    (room_at (is_target c.args.targets.now) (put_transfer p) o.puts c.args.self.now c.count_puts.new.self most_requests (length o.gets + n)
    (c.count_puts.ensures ∙ ap (λ xs. fold (counted_to (is_target c.args.targets.now)) c.args.self.now (map (put_transfer p) xs)) puts)
    (small_puts os p o c.requires.deliverable c.requires.known (outcome_at c.args.outcomes.now c.args.p c.requires.known))
    (omega (arith, ap length puts, ap length gets, few)) c.requires.room)

pub returns-clause-room : goal.returns-clause-room
returns-clause-room c =
    let os = c.args.outcomes.now in
    let p = c.args.p in
    let o = outcome_of os p in
    let few = c.own.invariant.few_requests in
    let short : All IsShortSend o.sends = subst (λ (x : OutcomeParts). All IsShortSend x.sends) (c.own.view_is ∙ c.get-own.ensures) c.own.invariant.sends.each in
    let puts = ap (λ (x : OutcomeParts). x.puts) (c.own.view_is ∙ c.get-own.ensures) in
    let gets = ap (λ (x : OutcomeParts). x.gets) (c.own.view_is ∙ c.get-own.ensures) in
    let sends = ap (λ (x : OutcomeParts). x.sends) (c.own.view_is ∙ c.get-own.ensures) in
    λ n room.
    room_at (is_target c.args.targets.now) (send_transfer p) o.sends c.count_gets.new.self c.count_sends.new.self (length o.sends + n) n
    (c.count_sends.ensures ∙ ap (λ xs. fold (counted_to (is_target c.args.targets.now)) c.count_gets.new.self (map (send_transfer p) xs)) sends)
    (small_sends os p o c.requires.deliverable c.requires.known (outcome_at c.args.outcomes.now c.args.p c.requires.known) short) (omega arith)
    (room_at (is_target c.args.targets.now) (get_transfer p) o.gets c.count_puts.new.self c.count_gets.new.self (length o.gets + (length o.sends + n)) (length o.sends + n)
    (c.count_gets.ensures ∙ ap (λ xs. fold (counted_to (is_target c.args.targets.now)) c.count_puts.new.self (map (get_transfer p) xs)) gets)
    (small_gets os p o c.requires.deliverable c.requires.known (outcome_at c.args.outcomes.now c.args.p c.requires.known)) (omega arith)
    (room_at (is_target c.args.targets.now) (put_transfer p) o.puts c.args.self.now c.count_puts.new.self (most_requests + n) (length o.gets + (length o.sends + n))
    (c.count_puts.ensures ∙ ap (λ xs. fold (counted_to (is_target c.args.targets.now)) c.args.self.now (map (put_transfer p) xs)) puts)
    (small_puts os p o c.requires.deliverable c.requires.known (outcome_at c.args.outcomes.now c.args.p c.requires.known))
    (omega (arith, ap length puts, ap length gets, ap length sends, few)) room))

-- the transfers of a process that issues puts alone
puts_alone : (p : ℕ) (o : OutcomeParts) → HasPutsAlone o → map (put_transfer p) o.puts ≡ transfers_of p o
puts_alone p o alone =
    let puts = map (put_transfer p) o.puts in
    sym (
    ap (λ (gets : List Get). (puts ++ map (get_transfer p) gets) ++ map (send_transfer p) o.sends) alone.0
    ∙ ap (λ (sends : List Send). (puts ++ []) ++ map (send_transfer p) sends) alone.1
    ∙ append-nil (puts ++ [])
    ∙ append-nil puts)

pub returns-then-puts_alone-clause-sums : goal.returns-then-puts_alone-clause-sums
returns-then-puts_alone-clause-sums c =
    let p = c.args.p in
    let o = outcome_of c.args.outcomes.now p in
    let alone : HasPutsAlone o = OnTrue_at c.if-puts_alone.true c.requires.alone p no_outcome c.requires.known in
    c.count_puts.ensures
    ∙ ap (λ xs. fold (counted_to (is_target c.args.targets.now)) c.args.self.now (map (put_transfer p) xs)) (ap (λ (x : OutcomeParts). x.puts) (c.own.view_is ∙ c.get-own.ensures))
    ∙ ap (fold (counted_to (is_target c.args.targets.now)) c.args.self.now) (puts_alone p o alone)

pub returns-then-puts_alone-clause-room : goal.returns-then-puts_alone-clause-room
returns-then-puts_alone-clause-room c =
    let os = c.args.outcomes.now in
    let p = c.args.p in
    let o = outcome_of os p in
    let puts = ap (λ (x : OutcomeParts). x.puts) (c.own.view_is ∙ c.get-own.ensures) in
    λ n room.
    room_at (is_target c.args.targets.now) (put_transfer p) o.puts c.args.self.now c.count_puts.new.self (most_requests + n) n
    (c.count_puts.ensures ∙ ap (λ xs. fold (counted_to (is_target c.args.targets.now)) c.args.self.now (map (put_transfer p) xs)) puts)
    (small_puts os p o c.requires.deliverable c.requires.known (outcome_at os p c.requires.known))
    (omega (arith, ap length puts, c.own.invariant.few_requests)) room
