use Rattle.std.proofs.Common.{◌≡◌, take, true}
use Rattle.std.specs.List.{list_all}
use Rattle.bsp_pool.specs.Rounds.{is_gone}
use Rattle.bsp_pool.proofs.round.Round.is_over.Given as goal

abbrev pub invariant-loop-worker : goal.invariant-loop-worker
invariant-loop-worker g l = list_all is_gone (take l.worker-index l.self.workers) ≡ true
