use Rattle.std.proofs.Common.{◌≡◌, take, map}
use Rattle.bsp_run.proofs.history.add_memories.Given as goal

abbrev pub invariant-loop-pid : goal.invariant-loop-pid
invariant-loop-pid l = l.all ≡ map (λ v. v.memory) (take l.pid l.views)
