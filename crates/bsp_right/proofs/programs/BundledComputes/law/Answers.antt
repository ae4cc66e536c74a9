use Rattle.bsp_right.proofs.BundledRuns.{bundled_law}
use Rattle.bsp_right.proofs.programs.BundledComputes.law.Goals as goal

pub returns : goal.returns
returns c = bundled_law c.args.input.now (c.law.ensures (record {}))
