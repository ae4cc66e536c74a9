use Rattle.std.proofs.Common.{◌≡◌, ℕ, ◌==◌, filter, take, drop}
use Rattle.bsp_deliver.proofs.Aligned.{aligned_apart}
use Rattle.bsp_deliver.proofs.Unmarked.{marked_twice}
use Rattle.bsp_deliver.proofs.marking.mark_changes.Goals as goal

pub returns : goal.returns
returns g c =
    let to = g.R.Addressed.addressee in
    let old = c.args.old.now in
    let new = c.args.new.now in
    let n : ℕ = c.mark_aligned-aligned.result in
    marked_twice (λ d. filter (λ r. to r == d) (take n old) ≡ filter (λ r. to r == d) (take n new)) (λ d. filter (λ r. to r == d) (drop n old) ≡ filter (λ r. to r == d) (drop n new))
    (λ d. filter (λ r. to r == d) old ≡ filter (λ r. to r == d) new) c.args.marks.now c.mark_aligned-aligned.new.marks c.mark_unaligned.new.marks
    c.mark_aligned-aligned.ensures.marked c.mark_unaligned.ensures (λ d f. aligned_apart to d n old new c.mark_aligned-aligned.ensures.aligned)
