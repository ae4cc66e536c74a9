use Rattle.std.proofs.Common.{sym, ap, ◌∙◌}
use Rattle.std.specs.Prelude.{not}
use Rattle.toml.specs.View.{view}
use Rattle.bsp_engine.proofs.Walks.{rows_signs}
use Rattle.bsp_engine.proofs.jobs.checks.has_negative_edit.Goals as goal

pub returns : goal.returns
returns c = ap not c.fits.ensures ∙ sym (rows_signs (view c.args.value.now))
