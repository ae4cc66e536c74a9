use Rattle.std.proofs.Common.{◌∙◌, arith, ◌<◌}
use Rattle.bsp_engine.proofs.Flowing.{appends_more, take_next}
use Rattle.bsp_engine.proofs.flow.write_text.Goals as goal

pub loop-at-preserved : goal.loop-at-preserved
loop-at-preserved g c =
    let more : 0 < c.in_ok-n.n = omega arith in
    record {
      within = omega (arith, c.in_ok-n.ensures.bound);
      gone = rw (← take_next c.loop-at.at c.in_ok-n.n c.args.text.now) (appends_more _ _ _ _ _ c.loop-at.invariant.gone c.in_ok-n.ensures.bytes);
      failures = c.in_ok-n.ensures.some more ∙ c.loop-at.invariant.failures;
    }
