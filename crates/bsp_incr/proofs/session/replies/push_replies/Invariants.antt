use Rattle.std.proofs.Common.{◌≡◌, ◌++◌, None, ℕ, Bool, drop, map}
use Rattle.bsp_model.specs.Input.{input_fault}
use Rattle.bsp_step.specs.ViewParts.{ViewParts}
use Rattle.bsp_step.specs.OutcomeParts.{OutcomeParts}
use Rattle.bsp_incr.specs.Replies.{without_update, MakesRuns}
use Rattle.bsp_incr.specs.Inside.Replies.{replies, replies_from}
use Rattle.bsp_incr.proofs.session.replies.push_replies.Given as goal

-- the replies so far, and those to the batches that are left
abbrev pub invariant-loop-batch : goal.invariant-loop-batch
invariant-loop-batch g l = record {
  lawful : input_fault l.input ≡ None;
  rest : (looks : ViewParts → ℕ → Bool) (turn : ViewParts → OutcomeParts) → MakesRuns g.F.Fn l.fn.make turn
      → l.all.items ++ map without_update (replies_from looks turn l.input (drop l.batch-index l.batches)) ≡ map without_update (replies looks turn l.fn.input l.batches);
}
