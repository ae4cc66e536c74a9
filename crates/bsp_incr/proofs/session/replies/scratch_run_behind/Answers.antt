use Rattle.bsp_incr.specs.Inside.Replies.{replies}
use Rattle.bsp_incr.proofs.Replying.{law_of_replies}
use Rattle.bsp_incr.proofs.session.replies.scratch_run_behind.Goals as goal

pub returns-in-Ok-pushed-clause-law : goal.returns-in-Ok-pushed-clause-law
returns-in-Ok-pushed-clause-law g c = λ looks turn makes.
    record {
      whole = replies looks turn c.args.input c.args.batches.now;
      are = law_of_replies looks turn c.args.input c.args.batches.now c.in-Ok.ensures.ok;
      without = c.in-Ok-pushed.ensures looks turn makes;
    }
