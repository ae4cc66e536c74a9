use Rattle.std.proofs.Common.{◌≡◌, ◌==◌, ◌≤◌, ◌<◌, ◌-◌, Bool, true, filter, drop, length, get_or}
use Rattle.bsp_deliver.proofs.same.are_same_to.Given as goal

-- the lists are equal where what is left of them is, and both stand at a request to d or at the end
abbrev pub invariant-loop-i : goal.invariant-loop-i
invariant-loop-i g l =
    let to : g.row.R.Denot → Bool = λ r. g.R.Addressed.addressee r == l.d in
    let old = l.old in
    let new = l.new in
    record {
      forth : filter to (drop l.from old) ≡ filter to (drop l.from new) → filter to (drop l.i old) ≡ filter to (drop l.j new);
      back : filter to (drop l.i old) ≡ filter to (drop l.j new) → filter to (drop l.from old) ≡ filter to (drop l.from new);
      old_here : (r : _) → l.i < length old → to (get_or old l.i r) ≡ true;
      new_here : (r : _) → l.j < length new → to (get_or new l.j r) ≡ true;
      old_within : l.i ≤ length old;
      new_within : l.j ≤ length new;
    }

abbrev pub decreases-loop-i : goal.decreases-loop-i
decreases-loop-i g l = length l.old - l.i
