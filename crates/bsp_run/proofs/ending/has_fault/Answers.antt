use Rattle.std.proofs.Common.{ap, sym}
use Rattle.std.specs.Prelude.{is_some}
use Rattle.std.proofs.lemmas.Bool.{OnTrue_at}
use Rattle.std.proofs.lemmas.List.Folds.{list_any_none}
use Rattle.bsp_step.specs.OutcomeParts.{OutcomeParts}
use Rattle.bsp_run.proofs.ending.has_fault.Goals as goal

pub returns-then-is_without : goal.returns-then-is_without
returns-then-is_without c =
    let none = OnTrue_at c.if-is_without.true c.is_without.ensures in
    sym (list_any_none (λ (o : OutcomeParts). is_some o.fault) c.args.outcomes.now (λ k d inside. ap is_some (none k d inside)))
