use Rattle.std.proofs.Common.{◌≡◌, List, Some, map, slice_get, vec_len}
use Rattle.bsp_pool.specs.Inside.Kept.{AreKept}
use Rattle.bsp_pool.proofs.share.keep.Given as goal

abbrev pub invariant-loop-number : goal.invariant-loop-number
invariant-loop-number g l = (outs : List g.row.T.Denot) → map (slice_get outs) l.fn.numbers.items ≡ map Some l.fn.outputs.items → AreKept outs l.initial.kept.items
    → record { in_order : map (slice_get outs) l.numbers.items ≡ map Some l.outputs.items; kept : AreKept outs l.kept.items }

abbrev pub decreases-loop-number : goal.decreases-loop-number
decreases-loop-number g l = vec_len l.numbers
