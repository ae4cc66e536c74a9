use Rattle.std.proofs.Common.{sym, ◌∙◌}
use Rattle.toml.specs.View.{view}
use Rattle.bsp_engine.proofs.Walks.{same_not}
use Rattle.bsp_engine.proofs.jobs.shapes.fits.Goals as goal

pub returns : goal.returns
returns g c = same_not c.is_none.result (g.T.Shape.fits (view c.args.value.now)) (sym c.is_none.ensures ∙ c.misfit.ensures)
