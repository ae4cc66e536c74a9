use Rattle.std.proofs.Common.{sym, subst}
use Rattle.bsp_incr.specs.Inside.Given.{IsMaking}
use Rattle.bsp_incr.specs.Inside.Marks.{AreFirstMarked}
use Rattle.bsp_incr.proofs.GoingOn.{going_on_start}
use Rattle.bsp_incr.proofs.rerun.remaking.remake_alone.Goals as goal

pub finish-requires-clause-going_on : goal.finish-requires-clause-going_on
finish-requires-clause-going_on g c κs within =
    let making = c.args.given.now in
    let begun = c.new-under_way in
    going_on_start g.P.Program making c.args.tape begun.result (subst (IsMaking g.P.Program) c.given.view_is c.given.invariant) c.requires.started
    (subst (AreFirstMarked making.before making.input) (sym begun.ensures.marks) c.requires.first) begun.ensures.executed begun.ensures.redelivered begun.ensures.table
