use Rattle.std.proofs.Common.{false, arith}
use Rattle.bsp_model.proofs.SetBits.{no_bit, set_of_same}
use Rattle.bsp_model.proofs.process_set.ProcessSet.none.Goals as goal

pub invariant_of-result : goal.invariant_of-result
invariant_of-result c = record { few = omega (arith, c.requires); clear = λ p _. no_bit p }

pub returns : goal.returns
returns c = set_of_same c.args.count 0 false (λ p _. no_bit p)
