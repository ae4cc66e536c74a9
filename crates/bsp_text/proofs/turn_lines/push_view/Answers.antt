use Rattle.std.proofs.Common.{ap, arith}
use Rattle.bsp_step.specs.ViewInside.{view_parts}
use Rattle.bsp_step.specs.ViewParts.{ViewParts}
use Rattle.bsp_text.specs.ViewLines.{message_line}
use Rattle.bsp_text.proofs.Showing.{piece_at, slots_grow}
use Rattle.bsp_text.proofs.turn_lines.push_view.Goals as goal

pub loop-place-preserved : goal.loop-place-preserved
loop-place-preserved c =
    let same = ap (λ (v : ViewParts). v.queue) c.view.view_is in
    rw (← same) (piece_at message_line _ _ _ _ c.loop-place.place _ (omega arith) c.at-message.ensures (rw (← same) at c.loop-place.invariant) c.in_ok-push_joined_line.ensures)

pub loop-slot-preserved : goal.loop-slot-preserved
loop-slot-preserved c =
    slots_grow (view_parts c.view.inside) c.args.view.now _ _ _ c.loop-slot.slot c.area-area.result c.view.view_is (omega (arith, c.len-slot-end.ensures)) c.area-area.ensures c.loop-slot.invariant c.in_ok-push_line-3.ensures
