use Rattle.std.proofs.Common.{map}
use Rattle.bsp_pool.proofs.phases.phase.Given as goal

abbrev pub ghosts-kept_by_pool : goal.ghosts-kept_by_pool
ghosts-kept_by_pool g a = record { outputs = map (g.W.Work.does a.jobs.now.work.now) a.jobs.now.inputs.now }
