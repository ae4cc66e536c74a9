use Rattle.std.proofs.Common.{◌≡◌, ◌<◌, ◌==◌, filter, drop}
use Rattle.bsp_deliver.specs.Inside.Marks.{AreMarkedUnless}
use Rattle.bsp_deliver.proofs.marking.mark_unaligned.Given as goal

-- of the processes so far those are marked to which the requests differ
abbrev pub invariant-loop-d : goal.invariant-loop-d
invariant-loop-d g l =
    let old = drop l.from l.old in
    let new = drop l.from l.new in
    AreMarkedUnless (λ k. k < l.d → filter (λ r. g.R.Addressed.addressee r == k) old ≡ filter (λ r. g.R.Addressed.addressee r == k) new) l.initial.marks l.marks
