use Rattle.std.proofs.Common.{◌∙◌, ap, map, sym, List}
use Rattle.toml.specs.View.{view}
use Rattle.toml.specs.declared.value.Value.{Value}
use Rattle.bsp_engine.specs.Tree.{list_at}
use Rattle.bsp_engine.proofs.Trees.{list_of-items_view}
use Rattle.bsp_engine.proofs.tree.elements.Goals as goal

pub returns-in-Some : goal.returns-in-Some
returns-in-Some c =
    ap (λ (vs : List Value). map view vs) c.as_slice.ensures.value ∙ (sym (list_of-items_view c.in-Some.items.now.items) ∙ ap list_at c.in-Some.ensures)
