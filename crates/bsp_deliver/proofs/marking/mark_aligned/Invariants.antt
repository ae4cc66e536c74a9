use Rattle.std.proofs.Common.{◌≡◌, ◌==◌, filter, map, take}
use Rattle.bsp_deliver.specs.Inside.Marks.{AreMarkedUnless}
use Rattle.bsp_deliver.proofs.marking.mark_aligned.Given as goal

-- the requests so far are addressed alike, and marked are the processes to which they differ
abbrev pub invariant-loop-i : goal.invariant-loop-i
invariant-loop-i g l =
    let old = l.old in
    let new = l.new in
    record {
      aligned : map g.R.Addressed.addressee (take l.i old) ≡ map g.R.Addressed.addressee (take l.i new);
      marked : AreMarkedUnless (λ d. filter (λ r. g.R.Addressed.addressee r == d) (take l.i old) ≡ filter (λ r. g.R.Addressed.addressee r == d) (take l.i new)) l.initial.marks l.marks;
    }
