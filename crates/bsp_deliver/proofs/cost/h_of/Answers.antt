use Rattle.std.proofs.Common.{ap, ◌∙◌, max, take}
use Rattle.bsp_deliver.specs.declared.cost.Targets.TheVariants.{Everyone}
use Rattle.bsp_deliver.specs.Inside.Sums.{is_target}
use Rattle.bsp_deliver.specs.Cost.{largest}
use Rattle.bsp_deliver.proofs.Targeted.{most-is, h_relation_to-all}
use Rattle.bsp_deliver.proofs.cost.h_of.Goals as goal

pub returns-clause-value : goal.returns-clause-value
returns-clause-value c =
    c.most.ensures.value ∙ ap (λ n. max (largest (take n c.of-sums.result.sent)) (largest (take n c.of-sums.result.received))) c.len.ensures
    ∙ most-is (is_target Everyone) c.args.outcomes.now c.of-sums.result c.requires.few c.of-sums.ensures.sums ∙ h_relation_to-all c.args.outcomes.now
