use Rattle.std.proofs.Common.{◌∙◌, ap, sym, refl}
use Rattle.toml.specs.Parse.{parse_document}
use Rattle.bsp_engine.proofs.Trees.{tree_of-text, tree_of-other}
use Rattle.bsp_engine.proofs.tree.read_tree.Goals as goal

pub returns-in_default-clause-fault : goal.returns-in_default-clause-fault
returns-in_default-clause-fault c = (refl, tree_of-other c.args.bytes.now c.in_default.ensures.cases.0)

pub returns-in-Ok-table_from_str-clause-ok : goal.returns-in-Ok-table_from_str-clause-ok
returns-in-Ok-table_from_str-clause-ok c =
    tree_of-text c.args.bytes.now c.in-Ok.ensures.cases.1 ∙ (ap parse_document (sym c.in-Ok.ensures.cases.0) ∙ c.in-Ok-table_from_str.ensures.ok)
