use Rattle.std.proofs.Common.{◌==◌, ◌≤◌, ◌<◌, length, arith}
use Rattle.bsp_deliver.proofs.Comparing.{ended_first, ended_second}
use Rattle.bsp_deliver.proofs.same.are_same_to.Goals as goal
use Rattle.bsp_deliver.proofs.same.are_same_to.Goals.{then-loop-i-test+else-j-new_count, else-loop-i-test}

pub returns-then-i-old_count : goal.returns-then-i-old_count
returns-then-i-old_count g c =
    let here = c.loop-i.invariant in
    let old = c.args.old.now in
    let new = c.args.new.now in
    rw c.len-new_count.ensures
    (ended_first (λ r. g.R.Addressed.addressee r == c.args.d) old new c.loop-i.i c.loop-i.j (omega (arith, c.if-i-old_count.true, c.len-old_count.ensures)) here.new_within here.new_here here.forth here.back)

pub returns-else-i-old_count : goal.returns-else-i-old_count
returns-else-i-old_count g c =
    let here = c.loop-i.invariant in
    let old = c.args.old.now in
    let new = c.args.new.now in
    let left : c.loop-i.i < length old = omega (arith, c.if-i-old_count.false, here.old_within, c.len-old_count.ensures) in
    let ended : length new ≤ c.loop-i.j =
    elim c.loop-i-test.branch [ then-loop-i-test+else-j-new_count w ↦ omega (arith, w.if-j-new_count, c.len-new_count.ensures) | else-loop-i-test w ↦ absurd (omega (arith, left, c.len-old_count.ensures)) ] in
    rw c.len-old_count.ensures (ended_second (λ r. g.R.Addressed.addressee r == c.args.d) old new c.loop-i.i c.loop-i.j left ended here.old_here here.forth)
