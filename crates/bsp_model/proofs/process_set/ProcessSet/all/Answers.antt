use Rattle.std.proofs.Common.{true, ap, ◌∙◌, arith}
use Rattle.bsp_model.specs.Inside.Bits.{has_bit}
use Rattle.bsp_model.proofs.SetBits.{all_bits, none_behind_all, set_of_same}
use Rattle.bsp_model.proofs.process_set.ProcessSet.all.Goals as goal

pub invariant_of-result : goal.invariant_of-result
invariant_of-result c = record {
  few = omega (arith, c.requires);
  clear = λ p past. ap (λ w. has_bit w p) c.ones.ensures ∙ none_behind_all c.args.count p past;
}

pub returns : goal.returns
returns c = set_of_same c.args.count c.ones.result true (λ p l. ap (λ w. has_bit w p) c.ones.ensures ∙ all_bits c.args.count p l)
