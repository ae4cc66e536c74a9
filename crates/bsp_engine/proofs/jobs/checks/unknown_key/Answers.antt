use Rattle.std.proofs.Common.{◌∙◌, ap, rules, tests, string_bytes}
use Rattle.std.proofs.lemmas.Iterator.Consumers.{YieldsList-from_rest}
use Rattle.std.proofs.lemmas.Iterator.Search.{find_from_yields_List}
use Rattle.std.specs.BTreeMap.{keys}
use Rattle.std.specs.Prelude.{not}
use Rattle.bsp_engine.specs.Keys.{is_known_key}
use Rattle.bsp_engine.proofs.Trees.{keys_viewed}
use Rattle.bsp_engine.proofs.Walks.{found_failing, some_mapped}
use Rattle.bsp_engine.proofs.jobs.checks.unknown_key.Goals as goal

pub returns : goal.returns
returns g c =
    some_mapped _ _ c.find.result (find_from_yields_List (λ k. not (is_known_key g.C.Catalogue.meaning (string_bytes k))) _ _ c.find.result c.find.ensures.ran (YieldsList-from_rest (keys c.args.table.now) (cc)) (λ x b q k. search (rules, tests)))
    ∙ (found_failing (λ k. is_known_key g.C.Catalogue.meaning (string_bytes k)) (keys c.args.table.now)
    ∙ ap not (keys_viewed g.C.Catalogue.meaning c.args.table.now.entries))
