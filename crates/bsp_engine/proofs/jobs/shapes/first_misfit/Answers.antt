use Rattle.std.proofs.Common.{◌≡◌, take, arith}
use Rattle.std.proofs.lemmas.Grind.{common_steps}
use Rattle.bsp_engine.proofs.Walks.{all_broken, all_grows, all_passed}
use Rattle.bsp_engine.proofs.jobs.shapes.first_misfit.Goals as goal

pub returns-in-Some : goal.returns-in-Some
returns-in-Some g c =
    all_broken g.T.Shape.fits c.args.values.now c.loop-at.at c.index-values-at.result c.loop-at-test.true c.index-values-at.is c.in-Some.ensures

pub loop-at-preserved : goal.loop-at-preserved
loop-at-preserved g c =
    all_grows g.T.Shape.fits c.args.values.now c.loop-at.at c.index-values-at.result c.loop-at-test.true c.index-values-at.is c.loop-at.invariant c.in_default.ensures

pub returns : goal.returns
returns g c =
    let whole : take c.loop-at.at c.args.values.now ≡ c.args.values.now = grind (arith, common_steps) in
    all_passed g.T.Shape.fits c.args.values.now c.loop-at.at whole c.loop-at.invariant
