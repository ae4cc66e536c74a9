use Rattle.std.proofs.Common.{◌∙◌, List, length, ap, sym}
use Rattle.bsp_model.specs.declared.cost.CostRow.{CostRow}
use Rattle.bsp_run.specs.Result.{result_of}
use Rattle.bsp_engine.specs.Untouched.{at_limit}
use Rattle.bsp_engine.proofs.Compared.{end_otherwise, end_by}
use Rattle.bsp_engine.proofs.Endings.{parts}
use Rattle.bsp_engine.proofs.changed_run.end_alike.Goals as goal

pub returns-then-costs : goal.returns-then-costs
returns-then-costs c =
    let old = c.args.old.now in
    let new = c.args.new.now in
    let count = λ (l : List CostRow). length l in
    end_otherwise (result_of old) (result_of new)
    (λ e. c.if-costs.true (ap count c.costs.ensures ∙ sym (ap count (parts old).costs) ∙ e ∙ ap count (parts new).costs ∙ sym (ap count c.costs-2.ensures)))

pub returns : goal.returns
returns c =
    let old = c.args.old.now in
    let new = c.args.new.now in
    let count = λ (l : List CostRow). length l in
    end_by (result_of old) (result_of new) c.is_at_limit.result c.is_at_limit-2.result
    (ap count (parts old).costs ∙ sym (ap count c.costs.ensures) ∙ c.if-costs.false ∙ ap count c.costs-2.ensures ∙ sym (ap count (parts new).costs))
    (c.is_at_limit.ensures ∙ ap at_limit c.status.ensures ∙ sym (ap at_limit (parts old).status))
    (c.is_at_limit-2.ensures ∙ ap at_limit c.status-2.ensures ∙ sym (ap at_limit (parts new).status))
