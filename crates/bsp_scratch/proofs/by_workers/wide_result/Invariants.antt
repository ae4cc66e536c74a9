use Rattle.bsp_step.specs.Turn.{turn_of}
use Rattle.bsp_run.specs.Law.{views_in}
use Rattle.bsp_scratch.proofs.by_workers.wide_result.Given as goal

abbrev pub ghosts-by_crew : goal.ghosts-by_crew
ghosts-by_crew g a =
    let turn = turn_of (g.P.Program.acts a.program.now) (g.P.Program.ending a.program.now) in
    record { turn = turn; views = views_in turn a.input.now }
