use Rattle.std.proofs.Common.{◌≡◌, ◌+◌, ◌++◌, drop}
use Rattle.bsp_engine.specs.Blocks.{blocks_after}
use Rattle.bsp_engine.specs.Live.{after_batches, last_result}
use Rattle.bsp_engine.specs.Inside.LiveReplies.{live_replies}
use Rattle.bsp_engine.proofs.live_blocks.make_batches.Given as goal

-- the batches that are left, and their blocks
abbrev pub invariant-loop-index : goal.invariant-loop-index
invariant-loop-index g l = record {
  detail : l.live.detail ≡ l.fn.live.detail;
  live : after_batches l.live (drop l.index l.batches) ≡ after_batches l.fn.live l.batches;
  text : l.text.items ++ blocks_after l.fn.live.detail (l.index + 1) (last_result g.P.Program.acts g.P.Program.ending l.live) (live_replies g.P.Program.acts g.P.Program.ending g.P.Program.looks l.live (drop l.index l.batches))
      ≡ l.fn.text.items ++ blocks_after l.fn.live.detail 1 (last_result g.P.Program.acts g.P.Program.ending l.fn.live) (live_replies g.P.Program.acts g.P.Program.ending g.P.Program.looks l.fn.live l.batches);
}
