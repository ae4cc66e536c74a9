use Rattle.std.proofs.Common.{◌≡◌, ◌<◌, length, ◌+◌, ◌*◌, ◌-◌, ap, ◌∙◌, arith, fold, subst, sym, take, true}
use Rattle.std.proofs.lemmas.List.{take_all}
use Rattle.bsp_model.specs.Limits.{most_processes, most_requests}
use Rattle.bsp_causes.specs.declared.moved.Moved.{Moved}
use Rattle.bsp_step.specs.OutcomeParts.{OutcomeParts, outcome_of}
use Rattle.bsp_deliver.specs.Inside.Sums.{transfers_from, transfers_of}
use Rattle.bsp_causes.specs.Inside.Moved.{counted, no_words, HasRoom}
use Rattle.bsp_causes.proofs.Sums.{transfers_more, less_room, no_words_room}
use Rattle.bsp_causes.specs.Inside.Travel.{reads_other}
use Rattle.bsp_causes.specs.Inside.Travel.{is_in, requests_in}
use Rattle.bsp_causes.proofs.Travelling.{length-again, outcome-again_at}
use Rattle.bsp_causes.proofs.moved.Moved.of.Goals as goal

pub loop-p-init : goal.loop-p-init
loop-p-init c = record {
  sums = c.none-sums.ensures;
  room = subst (λ (s : Moved). HasRoom s (most_requests * most_processes)) (sym c.none-sums.ensures) (no_words_room (most_requests * most_processes) (omega arith));
}

pub loop-p-preserved : goal.loop-p-preserved
loop-p-preserved c =
    let p = c.loop-p.p in
    let os = c.args.after.now in
    let T = is_in c.args.redone.now.turned in
    let D = is_in c.args.redone.now.delivered in
    let R = reads_other c.args.before.now os in
    let us = requests_in c.args.redone.now c.args.before.now os os in
    let here : p < length os = omega (arith, c.loop-p-test.true, c.len-p-end.ensures) in
    let there : p < length us = omega (arith, here, length-again T D R 0 os) in
    record {
      sums =
          c.count_requests.ensures.sums
          ∙ ap (λ (o : OutcomeParts). fold counted c.loop-p.sums (transfers_of p o)) (sym (outcome-again_at T D R os p here))
          ∙ ap (λ (s : Moved). fold counted s (transfers_of p (outcome_of us p))) c.loop-p.invariant.sums
          ∙ transfers_more no_words us p there;
      room = c.count_requests.ensures.room (most_requests * (most_processes - (p + 1))) (less_room c.loop-p.sums (most_requests + most_requests * (most_processes - (p + 1))) (most_requests * (most_processes - p)) (omega (arith, c.requires.few, here)) c.loop-p.invariant.room);
    }

pub returns-clause-sums : goal.returns-clause-sums
returns-clause-sums c =
    let os = c.args.after.now in
    let us = requests_in c.args.redone.now c.args.before.now os os in
    let long = length-again (is_in c.args.redone.now.turned) (is_in c.args.redone.now.delivered) (reads_other c.args.before.now os) 0 os in
    c.loop-p.invariant.sums ∙ ap (λ xs. fold counted no_words (transfers_from 0 xs)) (take_all c.loop-p.p us (omega (arith, long, c.loop-p-test.false, c.len-p-end.ensures)))
