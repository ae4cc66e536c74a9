use Rattle.std.proofs.Common.{◌≡◌, ◌≤◌, length, take}
use Rattle.std.specs.Prelude.{filter}
use Rattle.bsp_run.specs.Shares.{turns_of}
use Rattle.bsp_run.specs.TurnBy.{turn_by}
use Rattle.bsp_incr.specs.Inside.OpenSuperstep.{differs_now}
use Rattle.bsp_incr.proofs.superstep.turns.add_renewed.Given as goal

-- the turns so far, and how many of them were taken
abbrev pub invariant-loop-process : goal.invariant-loop-process
invariant-loop-process g l = record {
  renewed : l.renewed ≡ turns_of (turn_by g.P.Program l.given.program) l.superstep.views.now (take l.process-index l.processes);
  few : l.at ≤ l.process-index;
  at : l.at ≡ length (filter (differs_now (g.P.Program.looks l.given.program) l.superstep) (take l.process-index l.processes));
}
