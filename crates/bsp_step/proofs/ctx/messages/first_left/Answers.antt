use Rattle.bsp_step.proofs.MessagesLeft.{first_left}
use Rattle.bsp_step.proofs.ctx.messages.first_left.Goals as goal

pub returns-clause-first : goal.returns-clause-first
returns-clause-first c = first_left c.args.queue.now c.args.taken _ c.at.ensures
