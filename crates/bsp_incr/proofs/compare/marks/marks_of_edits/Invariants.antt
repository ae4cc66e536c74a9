use Rattle.std.proofs.Common.{◌<◌, All, length}
use Rattle.bsp_incr.specs.Inside.Before.{first_views_before}
use Rattle.bsp_incr.proofs.Marking.{AreArgsMarkedBut, AreFirstMarkedBut}
use Rattle.bsp_incr.proofs.compare.marks.marks_of_edits.Given as goal

-- the marks, but for the processes that are left to be compared
abbrev pub invariant-loop-process : goal.invariant-loop-process
invariant-loop-process l = record {
  args : AreArgsMarkedBut l.old l.input l.process-iterator l.args;
  first : AreFirstMarkedBut l.old l.input l.process-iterator l.first;
  known : All (λ p. p < length l.input.mems) l.process-iterator;
  seen : All (λ p. p < length (first_views_before l.old)) l.process-iterator;
  given : All (λ p. p < length l.input.args) l.process-iterator;
}
