use Rattle.std.proofs.Common.{refl, sym, subst}
use Rattle.bsp_incr.specs.Inside.Given.{IsMaking}
use Rattle.bsp_incr.specs.Inside.Marks.{AreFirstMarked}
use Rattle.bsp_incr.proofs.GoingOn.{going_on_start}
use Rattle.bsp_incr.proofs.rerun.remaking.remake_all.Goals as goal

pub supersteps-alone-requires-clause-going_on : goal.supersteps-alone-requires-clause-going_on
supersteps-alone-requires-clause-going_on g c κs within =
    let making = c.args.given in
    let begun = c.new-under_way in
    going_on_start g.P.Program making c.args.tape begun.result (subst (IsMaking g.P.Program) c.given.view_is c.given.invariant) c.requires.started
    (subst (AreFirstMarked making.before making.input) (sym begun.ensures.marks) c.requires.first) begun.ensures.executed begun.ensures.redelivered begun.ensures.table

pub by_crew-requires-clause-run : goal.by_crew-requires-clause-run
by_crew-requires-clause-run g c κs within = record { same_turn = refl; same_views = λ step. refl }
