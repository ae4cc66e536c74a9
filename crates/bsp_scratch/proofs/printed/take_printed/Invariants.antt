use Rattle.std.proofs.Common.{◌≡◌, take}
use Rattle.bsp_scratch.specs.Inside.Printed.{lines_in}
use Rattle.bsp_scratch.proofs.printed.take_printed.Given as goal

abbrev pub invariant-loop-superstep : goal.invariant-loop-superstep
invariant-loop-superstep l = l.all ≡ record l.initial.all { last = lines_in (take l.superstep-index l.printed) l.pid }
