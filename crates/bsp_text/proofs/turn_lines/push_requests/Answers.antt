use Rattle.std.proofs.Common.{ap, arith}
use Rattle.bsp_step.specs.OutcomeParts.{OutcomeParts}
use Rattle.bsp_text.specs.TurnLines.{put_line, send_line}
use Rattle.bsp_text.proofs.Showing.{piece_at}
use Rattle.bsp_text.proofs.turn_lines.push_requests.Goals as goal

pub loop-index-preserved : goal.loop-index-preserved
loop-index-preserved c =
    let same = ap (λ (o : OutcomeParts). o.puts) c.turn.view_is in
    rw (← same) (piece_at put_line _ _ _ _ c.loop-index.index _ (omega arith) c.at-put.ensures (rw (← same) at c.loop-index.invariant) c.in_ok-push_joined_line.ensures)

pub loop-place-preserved : goal.loop-place-preserved
loop-place-preserved c =
    let same = ap (λ (o : OutcomeParts). o.sends) c.turn.view_is in
    rw (← same) (piece_at send_line _ _ _ _ c.loop-place.place _ (omega arith) c.at-send.ensures (rw (← same) at c.loop-place.invariant) c.in_ok-push_joined_line-2.ensures)
