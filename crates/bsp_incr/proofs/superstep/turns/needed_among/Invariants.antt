use Rattle.std.proofs.Common.{◌≡◌, All, false, get_or, length, true}
use Rattle.std.specs.Prelude.{filter}
use Rattle.bsp_model.specs.ProcessSet.{processes_in}
use Rattle.bsp_incr.specs.Named.{with_members}
use Rattle.bsp_incr.specs.Inside.OpenSuperstep.{differs_now}
use Rattle.bsp_incr.proofs.superstep.turns.needed_among.Given as goal

-- those that are in the set, and those that are left
abbrev pub invariant-loop-process : goal.invariant-loop-process
invariant-loop-process g l = record {
  needed : with_members l.needed (filter (differs_now (g.P.Program.looks l.given.program) l.superstep) l.process-iterator)
      ≡ with_members l.initial.needed (filter (differs_now (g.P.Program.looks l.given.program) l.superstep) (processes_in l.dirty.processes));
  count : length l.needed ≡ length l.dirty.processes;
  members : All (λ p. get_or l.dirty.processes p false ≡ true) l.process-iterator;
}
