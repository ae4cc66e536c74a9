use Rattle.std.proofs.Common.{ap, ◌∙◌, max, take, true, sym, arith, length}
use Rattle.bsp_deliver.specs.Cost.{largest}
use Rattle.bsp_causes.proofs.Sums.{most-is}
use Rattle.bsp_causes.specs.Inside.Travel.{reads_other}
use Rattle.bsp_causes.specs.Inside.Travel.{is_in, requests_in}
use Rattle.bsp_causes.proofs.Travelling.{length-again}
use Rattle.bsp_causes.proofs.moved.h_again.Goals as goal

pub returns-clause-value : goal.returns-clause-value
returns-clause-value c =
    let os = c.args.after.now in
    let us = requests_in c.args.redone.now c.args.before.now os os in
    let long = length-again (is_in c.args.redone.now.turned) (is_in c.args.redone.now.delivered) (reads_other c.args.before.now os) 0 os in
    c.most.ensures.value ∙ ap (λ n. max (largest (take n c.of-sums.result.sent)) (largest (take n c.of-sums.result.received))) (c.len.ensures ∙ sym long)
    ∙ most-is us c.of-sums.result (omega (arith, long, c.requires.few)) c.of-sums.ensures.sums
