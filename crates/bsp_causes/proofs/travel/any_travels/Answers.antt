use Rattle.std.proofs.Common.{◌≡◌, ◌<◌, ◌∙◌, ◌||◌, All, true, false, ap, arith, get_or, length, subst, sym}
use Rattle.std.specs.List.{list_any}
use Rattle.std.proofs.lemmas.List.{take_all}
use Rattle.std.proofs.lemmas.List.Folds.{list_any_at, list_any_more}
use Rattle.bsp_step.specs.OutcomeParts.{OutcomeParts, no_outcome, outcome_of}
use Rattle.bsp_causes.specs.Inside.Travel.{reads_other}
use Rattle.bsp_causes.specs.Travel.{has_requests}
use Rattle.bsp_causes.specs.Inside.Travel.{is_in, requests_in, requests_of, HasAddresses}
use Rattle.bsp_causes.proofs.Travelling.{length-again, outcome-again_at}
use Rattle.bsp_causes.proofs.travel.any_travels.Goals as goal

pub travels-requires : goal.travels-requires
travels-requires c =
    let here : c.loop-pid.pid < length c.args.outcomes.now = omega (arith, c.loop-pid-test.true, c.len-pid-end.ensures) in
    subst (λ (o : OutcomeParts). All HasAddresses o.gets) (sym c.get-own.ensures) (c.requires.addresses c.loop-pid.pid no_outcome here)

pub returns-then-travels : goal.returns-then-travels
returns-then-travels c =
    let redone = c.args.redone.now in
    let us = requests_in redone c.args.before.now c.args.after.now c.args.outcomes.now in
    let T = is_in redone.turned in
    let D = is_in redone.delivered in
    let R = reads_other c.args.before.now c.args.after.now in
    let pid = c.loop-pid.pid in
    let here : pid < length c.args.outcomes.now = omega (arith, c.loop-pid-test.true, c.len-pid-end.ensures) in
    let there : pid < length us = omega (arith, here, length-again T D R 0 c.args.outcomes.now) in
    let passes : has_requests (outcome_of us pid) ≡ true =
    ap has_requests (outcome-again_at T D R c.args.outcomes.now pid here) ∙ ap (λ (o : OutcomeParts). has_requests (requests_of redone c.args.before.now c.args.after.now pid o)) (sym c.get-own.ensures)
    ∙ sym c.travels.ensures ∙ c.if-travels.true in
    sym (list_any_at has_requests us pid no_outcome there passes)

pub loop-pid-preserved : goal.loop-pid-preserved
loop-pid-preserved c =
    let redone = c.args.redone.now in
    let us = requests_in redone c.args.before.now c.args.after.now c.args.outcomes.now in
    let T = is_in redone.turned in
    let D = is_in redone.delivered in
    let R = reads_other c.args.before.now c.args.after.now in
    let pid = c.loop-pid.pid in
    let here : pid < length c.args.outcomes.now = omega (arith, c.loop-pid-test.true, c.len-pid-end.ensures) in
    let there : pid < length us = omega (arith, here, length-again T D R 0 c.args.outcomes.now) in
    let fails : has_requests (outcome_of us pid) ≡ false =
    ap has_requests (outcome-again_at T D R c.args.outcomes.now pid here) ∙ ap (λ (o : OutcomeParts). has_requests (requests_of redone c.args.before.now c.args.after.now pid o)) (sym c.get-own.ensures)
    ∙ sym c.travels.ensures ∙ c.if-travels.false in
    list_any_more has_requests us pid no_outcome there ∙ (λ j. c.loop-pid.invariant j || fails j)

pub returns : goal.returns
returns c =
    let redone = c.args.redone.now in
    let us = requests_in redone c.args.before.now c.args.after.now c.args.outcomes.now in
    let long = length-again (is_in redone.turned) (is_in redone.delivered) (reads_other c.args.before.now c.args.after.now) 0 c.args.outcomes.now in
    sym (ap (list_any has_requests) (sym (take_all c.loop-pid.pid us (omega (arith, long, c.loop-pid-test.false, c.len-pid-end.ensures)))) ∙ c.loop-pid.invariant)
