use Rattle.bsp_engine.proofs.UpdateSteps.{updated_steps}
use Rattle.bsp_engine.proofs.live_blocks.push_accepted.Goals as goal

pub push_update-requires-clause-steps : goal.push_update-requires-clause-steps
push_update-requires-clause-steps g c κs within = updated_steps c.args.old.now c.args.new.now c.args.batch.now c.args.update.now c.requires.update
