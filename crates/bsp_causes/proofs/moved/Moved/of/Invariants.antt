use Rattle.std.proofs.Common.{◌≡◌, ◌*◌, ◌-◌, take, fold}
use Rattle.bsp_model.specs.Limits.{most_processes, most_requests}
use Rattle.bsp_deliver.specs.Inside.Sums.{transfers_from}
use Rattle.bsp_causes.specs.Inside.Moved.{counted, no_words, HasRoom}
use Rattle.bsp_causes.specs.Inside.Travel.{requests_in}
use Rattle.bsp_causes.proofs.moved.Moved.of.Given as goal

-- the requests of the processes so far are counted, and there is room for those of the others
abbrev pub invariant-loop-p : goal.invariant-loop-p
invariant-loop-p l = record {
  sums : l.sums ≡ fold counted no_words (transfers_from 0 (take l.p (requests_in l.redone l.before l.after l.after)));
  room : HasRoom l.sums (most_requests * (most_processes - l.p));
}
