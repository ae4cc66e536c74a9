use Rattle.bsp_run.specs.Law.{views_in}
use Rattle.bsp_run.specs.TurnBy.{turn_by}
use Rattle.bsp_incr.proofs.rerun.remaking.remake_all.Given as goal

abbrev pub ghosts-by_crew : goal.ghosts-by_crew
ghosts-by_crew g a =
    let turn = turn_by g.P.Program a.given.program in
    record { turn = turn; views = views_in turn a.given.input }
