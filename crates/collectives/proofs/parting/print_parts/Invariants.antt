use Rattle.std.proofs.Common.{◌≡◌, drop, map}
use Rattle.bsp_step.specs.Act.{print}
use Rattle.bsp_step.specs.Perform.{perform_all}
use Rattle.collectives.proofs.parting.print_parts.Given as goal

abbrev pub invariant-loop-place : goal.invariant-loop-place
invariant-loop-place l = perform_all l.initial.ctx (map print l.parts) ≡ perform_all l.ctx (map print (drop l.place l.parts))
