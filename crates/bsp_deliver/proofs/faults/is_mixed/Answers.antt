use Rattle.std.proofs.Common.{◌≡◌, arith, sym}
use Rattle.bsp_step.specs.OutcomeParts.{OutcomeParts}
use Rattle.bsp_deliver.proofs.Senders.{each_outcome}
use Rattle.bsp_deliver.proofs.EndTests.{alike}
use Rattle.bsp_deliver.proofs.faults.is_mixed.Goals as goal

pub returns : goal.returns
returns c =
    let os = c.args.outcomes.now in
    let end = c.first.inside.ended in
    sym (alike os end (each_outcome (λ (o : OutcomeParts). o.ended ≡ end) os (λ k l. c.loop-pid.invariant k (omega (arith, l, c.loop-pid-test.false, c.len-pid-end.ensures)))))
