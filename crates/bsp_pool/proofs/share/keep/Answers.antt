use Rattle.std.proofs.Common.{ap, sym, ◌∙◌, map, refl}
use Rattle.std.specs.Prelude.{Some, slice_get}
use Rattle.bsp_pool.proofs.KeptLists.{last_of_share, kept_more}
use Rattle.bsp_pool.proofs.share.keep.Goals as goal

pub loop-number-preserved : goal.loop-number-preserved
loop-number-preserved g c outs share none =
    let before = c.loop-number.invariant outs share none in
    let last = last_of_share outs c.pop.new.self.items c.pop-in-loop-number.new.self.items c.in-Some-Some.number c.in-Some-Some.output (ap (map (slice_get outs)) (sym c.in-Some-Some.ensures.items) ∙ (before.in_order ∙ ap (map Some) c.in-Some-Some.ensures'.items)) in
    record { in_order = last.0; kept = before.kept }

pub loop-number-preserved-then-number-len : goal.loop-number-preserved-then-number-len
loop-number-preserved-then-number-len g c outs share none =
    let before = c.loop-number.invariant outs share none in
    let last = last_of_share outs c.pop.new.self.items c.pop-in-loop-number.new.self.items c.in-Some-Some.number c.in-Some-Some.output (ap (map (slice_get outs)) (sym c.in-Some-Some.ensures.items) ∙ (before.in_order ∙ ap (map Some) c.in-Some-Some.ensures'.items)) in
    record { in_order = last.0; kept = kept_more outs c.loop-number.kept.items _ c.in-Some-Some.number c.in-Some-Some.output before.kept last.1 refl }
