use Rattle.std.proofs.Common.{ap, ◌∙◌, max, false, take, get_or}
use Rattle.bsp_deliver.specs.Cost.{largest}
use Rattle.bsp_deliver.proofs.Targeted.{most-is}
use Rattle.bsp_deliver.proofs.cost.h_to.Goals as goal

pub returns-clause-value : goal.returns-clause-value
returns-clause-value c =
    c.most.ensures.value ∙ ap (λ n. max (largest (take n c.of-sums.result.sent)) (largest (take n c.of-sums.result.received))) c.len.ensures
    ∙ most-is (λ p. get_or c.args.targets.now p false) c.args.outcomes.now c.of-sums.result c.requires.few c.of-sums.ensures.sums
