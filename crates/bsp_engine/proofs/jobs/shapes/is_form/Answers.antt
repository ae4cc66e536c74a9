use Rattle.bsp_engine.proofs.Trees.{form_viewed}
use Rattle.bsp_engine.proofs.jobs.shapes.is_form.Goals as goal

pub returns-then-values-count : goal.returns-then-values-count
returns-then-values-count c =
    form_viewed c.args.word.now c.args.count c.args.values.now c.begins_with.result c.all_fit.result c.begins_with.ensures c.if-values-count.true.0 c.if-values-count.true.1 c.all_fit.ensures
