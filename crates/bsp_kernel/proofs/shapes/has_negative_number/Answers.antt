use Rattle.std.proofs.Common.{map, ap, sym, ◌∙◌}
use Rattle.std.specs.Prelude.{not}
use Rattle.toml.specs.View.{view}
use Rattle.bsp_kernel.proofs.NoSigns.{code_signs}
use Rattle.bsp_kernel.proofs.shapes.has_negative_number.Goals as goal

pub returns : goal.returns
returns c = ap not c.all_fit.ensures ∙ sym (code_signs (map view c.args.instructions.now))
