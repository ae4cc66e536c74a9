use Rattle.std.proofs.Common.{◌≡◌, ◌++◌, take}
use Rattle.bsp_run.specs.Shares.{turns_of}
use Rattle.bsp_run.specs.TurnBy.{turn_by}
use Rattle.bsp_crew.proofs.task.Means.take_turns.Given as goal

-- the turns so far
abbrev pub invariant-loop-place : goal.invariant-loop-place
invariant-loop-place g l =
    l.gathering ≡ l.initial.gathering ++ turns_of (turn_by g.P.Program l.self.program.now) l.views (take l.place l.part.processes.now)
