use Rattle.std.proofs.Common.{arith}
use Rattle.bsp_incr.proofs.Unchanged.{nothing-edited}
use Rattle.bsp_incr.proofs.edit.editing.are_there.Goals as goal

pub returns : goal.returns
returns c = λ t. nothing-edited c.args.input.now c.args.edits.now (λ k e l. c.loop-edit.invariant k e (omega (arith, l, c.loop-edit-test.false)))
