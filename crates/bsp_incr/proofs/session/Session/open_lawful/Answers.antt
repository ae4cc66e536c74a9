use Rattle.bsp_step.specs.Turn.{turn_of}
use Rattle.bsp_run.proofs.OneRun.{one_run}
use Rattle.bsp_incr.proofs.Exactness.{exact_of}
use Rattle.bsp_incr.proofs.session.Session.open_lawful.Goals as goal

pub returns-clause-law : goal.returns-clause-law
returns-clause-law g c =
    let turn = turn_of (g.P.Program.acts c.args.program) (g.P.Program.ending c.args.program) in
    (one_run turn c.args.input c.in_ok-history.history c.requires.lawful).1 c.in_ok-history.ensures.run

pub returns-clause-exact : goal.returns-clause-exact
returns-clause-exact g c = exact_of c.in_ok-history.ensures.update

pub invariant_of-session : goal.invariant_of-session
invariant_of-session g c =
    let turn = turn_of (g.P.Program.acts c.args.program) (g.P.Program.ending c.args.program) in
    record { lawful = c.requires.lawful; law = (one_run turn c.args.input c.in_ok-history.history c.requires.lawful).1 c.in_ok-history.ensures.run }
