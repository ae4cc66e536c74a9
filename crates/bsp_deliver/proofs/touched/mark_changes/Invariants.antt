use Rattle.std.proofs.Common.{◌≡◌, ◌++◌}
use Rattle.bsp_model.specs.ProcessSet.{processes_in}
use Rattle.bsp_deliver.specs.Inside.Marks.{AreMarkedUnless}
use Rattle.bsp_deliver.proofs.SameParts.{BringSame}
use Rattle.bsp_deliver.proofs.touched.mark_changes.Given as goal

-- not marked are those to whom the processes so far bring the same
abbrev pub invariant-loop-p : goal.invariant-loop-p
invariant-loop-p l = record {
  left : l.yielded ++ l.p-iterator ≡ processes_in l.changed;
  marked : AreMarkedUnless (BringSame l.old l.new l.yielded) l.initial.marks l.marks;
}
