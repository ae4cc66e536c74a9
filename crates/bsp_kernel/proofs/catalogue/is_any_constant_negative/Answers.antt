use Rattle.std.proofs.Common.{List, ap, codes, sym, ◌∙◌}
use Rattle.std.specs.Prelude.{not}
use Rattle.std.specs.List.{list_all}
use Rattle.toml.specs.Data.{Data}
use Rattle.toml.specs.View.{table_view}
use Rattle.bsp_engine.specs.Tree.{elements_at, is_negative}
use Rattle.bsp_kernel.proofs.NoSigns.{signs}
use Rattle.bsp_kernel.proofs.catalogue.is_any_constant_negative.Goals as goal

pub returns : goal.returns
returns c =
    ap not c.all_fit.ensures ∙ ap (λ (ds : List Data). not (list_all (λ w. not (is_negative w)) ds)) c.elements_at.ensures
    ∙ sym (signs (elements_at (codes "constants") (table_view c.args.document.now)))
