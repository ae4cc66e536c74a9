use Rattle.std.proofs.Common.{◌≡◌, ◌==◌, filter, drop}
use Rattle.bsp_deliver.proofs.same.next_to.Given as goal

-- no request to d was passed over
abbrev pub invariant-loop-i : goal.invariant-loop-i
invariant-loop-i g l = filter (λ r. g.R.Addressed.addressee r == l.d) (drop l.from l.requests) ≡ filter (λ r. g.R.Addressed.addressee r == l.d) (drop l.i l.requests)
