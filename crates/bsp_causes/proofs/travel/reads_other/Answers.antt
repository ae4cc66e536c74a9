use Rattle.std.proofs.Common.{◌≡◌, ◌∙◌, arith, sym}
use Rattle.bsp_causes.proofs.Travelling.{other_read, same_read}
use Rattle.bsp_causes.proofs.travel.reads_other.Goals as goal

pub returns-then-word_left : goal.returns-then-word_left
returns-then-word_left c =
    other_read c.args.before.now c.args.after.now c.args.get.now c.loop-i.i c.loop-i-test.true
    (λ e. c.if-word_left.true (c.word_left.ensures ∙ e ∙ sym c.word_left-in-loop-i.ensures))

pub returns : goal.returns
returns c = same_read c.args.before.now c.args.after.now c.args.get.now (λ k l. c.loop-i.invariant k (omega (arith, l, c.loop-i-test.false)))
