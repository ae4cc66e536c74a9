use Rattle.std.proofs.Common.{◌≡◌, length}
use Rattle.bsp_crew.proofs.crew.Crew.new.Given as goal

abbrev pub invariant-loop-worker : goal.invariant-loop-worker
invariant-loop-worker g l = length l.sheets.items ≡ l._worker
