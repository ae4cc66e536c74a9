use Rattle.bsp_right.proofs.RankRun.{rank_counts}
use Rattle.bsp_right.proofs.programs.RankComputes.law.Goals as goal

pub returns : goal.returns
returns c = λ _. rank_counts c.args._input.now
