use Rattle.std.proofs.Common.{◌<◌}
use Rattle.bsp_deliver.specs.Inside.Comparison.{ReadsSame}
use Rattle.bsp_deliver.specs.Inside.Marks.{AreMarkedUnless}
use Rattle.bsp_deliver.proofs.touched.mark_readers.Given as goal

-- of the processes so far those are marked that read other words
abbrev pub invariant-loop-p : goal.invariant-loop-p
invariant-loop-p l = AreMarkedUnless (λ k. k < l.p → ReadsSame l.old l.new k) l.initial.marks l.marks
