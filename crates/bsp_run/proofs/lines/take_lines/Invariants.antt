use Rattle.std.proofs.Common.{◌≡◌, map, take}
use Rattle.bsp_run.specs.Result.{lines_of_process}
use Rattle.bsp_run.proofs.lines.take_lines.Given as goal

abbrev pub invariant-loop-outcomes : goal.invariant-loop-outcomes
invariant-loop-outcomes l = l.all ≡ record l.initial.all { last = lines_of_process (map (λ o. o.now) (take l.outcomes-index l.turns)) l.pid }
