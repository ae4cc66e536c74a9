use Rattle.std.proofs.Common.{◌≡◌, ℕ, Bool, List, length, ap, sym, ◌∙◌, subst}
use Rattle.bsp_model.specs.ProcessSet.{union}
use Rattle.bsp_model.specs.Inside.Bits.{set_of, AreBitsOf}
use Rattle.bsp_model.specs.Inside.WordsOfSets.{length-set_of}
use Rattle.bsp_model.proofs.SetBits.{bits_united, set_of-united}
use Rattle.bsp_model.proofs.process_set.ProcessSet.union.Goals as goal

-- two sets of as many processes
same_count : (n m word other : ℕ) (s t : List Bool) → set_of n word ≡ s → set_of m other ≡ t → length t ≡ length s → m ≡ n
same_count n m word other s t is too long =
    sym (length-set_of m other) ∙ ap (λ (u : List Bool). length u) too ∙ long ∙ sym (ap (λ (u : List Bool). length u) is) ∙ length-set_of n word

pub invariant_of-result : goal.invariant_of-result
invariant_of-result c =
    let own = c.self.inside in
    let more = c.other.inside in
    let same = same_count own.count more.count own.bits more.bits c.args.self.now c.args.other.now c.self.view_is c.other.view_is c.requires in
    bits_united own.count own.bits more.bits c.self.invariant (subst (λ k. AreBitsOf k more.bits) same c.other.invariant)

pub returns : goal.returns
returns c =
    let own = c.self.inside in
    let more = c.other.inside in
    let same = same_count own.count more.count own.bits more.bits c.args.self.now c.args.other.now c.self.view_is c.other.view_is c.requires in
    set_of-united own.count own.bits more.bits
    ∙ ap (λ (s : List Bool). union s (set_of own.count more.bits)) c.self.view_is
    ∙ ap (λ (t : List Bool). union c.args.self.now t) (ap (λ k. set_of k more.bits) (sym same) ∙ c.other.view_is)
