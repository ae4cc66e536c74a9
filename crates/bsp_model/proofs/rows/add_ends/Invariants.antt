use Rattle.std.proofs.Common.{◌≡◌, ◌≤◌, ◌+◌, ◌-◌, ◌++◌, length, map, take, vec_len}
use Rattle.std.specs.Prelude.{vec_capacity}
use Rattle.bsp_model.proofs.rows.add_ends.Given as goal

abbrev pub invariant-loop-end : goal.invariant-loop-end
invariant-loop-end l =
    (l.ends.items ≡ l.initial.ends.items ++ map (λ end. l.before + (end - l.start)) (take l.end-index l.more))
    × (vec_len l.ends + (length l.more - l.end-index) ≤ vec_capacity l.ends)
