use Rattle.std.proofs.Common.{map, sym, ◌∙◌}
use Rattle.std.specs.List.{list_all}
use Rattle.toml.specs.View.{view}
use Rattle.bsp_engine.proofs.Walks.{same_not}
use Rattle.bsp_engine.proofs.jobs.shapes.all_fit.Goals as goal

pub returns : goal.returns
returns g c = same_not c.is_none.result (list_all g.T.Shape.fits (map view c.args.values.now)) (sym c.is_none.ensures ∙ c.first_misfit.ensures)
