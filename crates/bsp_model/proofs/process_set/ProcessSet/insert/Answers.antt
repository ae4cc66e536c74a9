use Rattle.std.proofs.Common.{◌≡◌, ◌<◌, ◌*◌, ◌^◌, ◌%◌, ℕ, Bool, true, List, length, set, ap, ◌∙◌, arith}
use Rattle.std.specs.Int.RustNames.{bit_or}
use Rattle.bsp_model.specs.Inside.Bits.{set_of}
use Rattle.bsp_model.specs.Inside.WordsOfSets.{length-set_of}
use Rattle.bsp_model.proofs.SetBits.{with_bit, bits_with_bit, set_of-with_bit}
use Rattle.bsp_model.proofs.process_set.ProcessSet.insert.Goals as goal

-- a process of the set is one of so many
within : (count word p : ℕ) (s : List Bool) → set_of count word ≡ s → p < length s → p < count
within count word p s is known = omega (arith, known, ap (λ (t : List Bool). length t) is, length-set_of count word)

pub invariant_of-self : goal.invariant_of-self
invariant_of-self c =
    let own = c.self.inside in
    let p : ℕ = c.args.process in
    let l = within own.count own.bits p c.args.self.now c.self.view_is c.requires in
    bits_with_bit own.count own.bits (bit_or own.bits (1 * 2 ^ p % 2 ^ 64)) p c.self.invariant (with_bit own.bits p (omega (arith, l, c.self.invariant.few))) l

pub returns : goal.returns
returns c =
    let own = c.self.inside in
    let p : ℕ = c.args.process in
    let l = within own.count own.bits p c.args.self.now c.self.view_is c.requires in
    set_of-with_bit own.count own.bits (bit_or own.bits (1 * 2 ^ p % 2 ^ 64)) p (with_bit own.bits p (omega (arith, l, c.self.invariant.few))) l
    ∙ ap (λ (s : List Bool). set s p true) c.self.view_is

pub overflow_shl-self : goal.overflow_shl-self
overflow_shl-self c = omega (arith, within c.self.inside.count c.self.inside.bits c.args.process c.args.self.now c.self.view_is c.requires, c.self.invariant.few)
