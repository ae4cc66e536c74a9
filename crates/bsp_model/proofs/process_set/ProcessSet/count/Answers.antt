use Rattle.std.proofs.Common.{Bool, List, length, sym, ap, ◌∙◌, arith}
use Rattle.bsp_model.specs.Inside.WordsOfSets.{length-set_of}
use Rattle.bsp_model.proofs.process_set.ProcessSet.count.Goals as goal

pub returns-clause-count : goal.returns-clause-count
returns-clause-count c = sym (ap (λ (s : List Bool). length s) (sym c.self.view_is) ∙ length-set_of c.self.inside.count c.self.inside.bits)

pub returns-clause-few : goal.returns-clause-few
returns-clause-few c = omega (arith, c.self.invariant.few)
