use Rattle.std.proofs.Common.{◌∙◌, ◌++◌, List, ℕ, ap, sym, true}
use Rattle.bsp_model.specs.Inside.Bits.{has_bit}
use Rattle.bsp_model.specs.ProcessSet.{processes_in}
use Rattle.bsp_model.proofs.ProcessSets.{all_members}
use Rattle.bsp_model.proofs.SetBits.{all_bits, set_of_same}
use Rattle.bsp_model.proofs.process_set.ProcessSet.members.Goals as goal

pub returns-then-self-ones : goal.returns-then-self-ones
returns-then-self-ones c =
    let s = c.self.inside in
    let all = set_of_same s.count s.bits true (λ p l. ap (λ w. has_bit w p) (c.if-self-ones.true ∙ c.ones.ensures) ∙ all_bits s.count p l) in
    let members = c.numbers.ensures ∙ sym (ap processes_in (sym c.self.view_is ∙ all) ∙ all_members s.count) in
    c.in_ok-extend_from_slice.ensures.items ∙ ap (λ (ps : List ℕ). ps ++ c.numbers.result.now) c.in_ok-members.ensures.items ∙ members
