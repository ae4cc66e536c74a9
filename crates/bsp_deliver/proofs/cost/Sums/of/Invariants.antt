use Rattle.std.proofs.Common.{◌≡◌, ◌*◌, ◌-◌, take, fold}
use Rattle.bsp_model.specs.Limits.{most_processes, most_requests}
use Rattle.bsp_deliver.specs.Inside.Sums.{is_target, counted_to, no_words, transfers_from, HasRoom}
use Rattle.bsp_deliver.proofs.cost.Sums.of.Given as goal

-- the requests of the processes so far are counted, and there is room for those of the others
abbrev pub invariant-loop-p : goal.invariant-loop-p
invariant-loop-p l = record {
  sums : l.sums ≡ fold (counted_to (is_target l.targets)) no_words (transfers_from 0 (take l.p l.outcomes));
  room : HasRoom l.sums (most_requests * (most_processes - l.p));
}
