use Rattle.std.proofs.Common.{◌≡◌, sym, ◌∙◌}
use Rattle.toml.specs.View.{table_view}
use Rattle.bsp_engine.specs.declared.errors.JobFault.TheVariants.{BadWord}
use Rattle.bsp_engine.proofs.Walks.{none_told, one_told}
use Rattle.bsp_engine.proofs.jobs.checks.check_signs.Goals as goal

pub returns-clause-ok : goal.returns-clause-ok
returns-clause-ok g c =
    none_told c.check_common_signs.result g.C.Catalogue.meaning (table_view c.args.table.now) (sym c.has_negative_word.ensures ∙ c.if-has_negative_word.false) c.check_common_signs.ensures.ok

pub returns-clause-wrong : goal.returns-clause-wrong
returns-clause-wrong g c =
    one_told c.check_common_signs.result (λ w. w.fault ≡ BadWord) g.C.Catalogue.meaning (table_view c.args.table.now) c.check_common_signs.ensures.wrong
