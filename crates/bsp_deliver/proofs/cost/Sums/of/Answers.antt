use Rattle.std.proofs.Common.{◌<◌, length, ◌+◌, ◌*◌, ◌-◌, ap, ◌∙◌, arith, fold, subst, sym}
use Rattle.bsp_model.specs.Limits.{most_processes, most_requests}
use Rattle.bsp_deliver.specs.declared.cost.Sums.{Sums}
use Rattle.bsp_step.specs.OutcomeParts.{outcome_of}
use Rattle.bsp_deliver.specs.Inside.Sums.{is_target, counted_to, no_words, transfers_of, HasRoom}
use Rattle.bsp_deliver.proofs.Counts.{transfers_more, less_room, no_words_room}
use Rattle.bsp_deliver.proofs.cost.Sums.of.Goals as goal

pub loop-p-init : goal.loop-p-init
loop-p-init c = record {
  sums = c.none-sums.ensures;
  room = subst (λ (s : Sums). HasRoom s (most_requests * most_processes)) (sym c.none-sums.ensures) (no_words_room (most_requests * most_processes) (omega arith));
}

pub loop-p-preserved : goal.loop-p-preserved
loop-p-preserved c =
    let p = c.loop-p.p in
    let here : p < length c.args.outcomes.now = omega (arith, c.loop-p-test.true, c.len-p-end.ensures) in
    record {
      sums =
          c.count_requests.ensures.sums
          ∙ ap (λ (s : Sums). fold (counted_to (is_target c.args.targets.now)) s (transfers_of p (outcome_of c.args.outcomes.now p))) c.loop-p.invariant.sums
          ∙ transfers_more (is_target c.args.targets.now) no_words c.args.outcomes.now p here;
      room = c.count_requests.ensures.room (most_requests * (most_processes - (p + 1))) (less_room c.loop-p.sums (most_requests + most_requests * (most_processes - (p + 1))) (most_requests * (most_processes - p)) (omega (arith, c.requires.few, here)) c.loop-p.invariant.room);
    }
