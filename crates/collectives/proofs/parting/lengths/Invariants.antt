use Rattle.std.proofs.Common.{◌≡◌, map}
use Rattle.std.specs.List.{range_with_len}
use Rattle.collectives.specs.Parting.{length_for}
use Rattle.collectives.proofs.parting.lengths.Given as goal

abbrev pub invariant-loop-pid : goal.invariant-loop-pid
invariant-loop-pid l = l.lengths.items ≡ map (length_for l.ctx.view.args) (range_with_len 0 l.pid)
