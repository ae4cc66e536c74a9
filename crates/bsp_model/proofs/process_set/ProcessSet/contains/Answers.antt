use Rattle.std.proofs.Common.{Bool, false, List, get_or, sym, ap, ◌∙◌, arith}
use Rattle.std.proofs.lemmas.List.{get_or_past}
use Rattle.bsp_model.specs.Inside.Bits.{set_of}
use Rattle.bsp_model.specs.Inside.WordsOfSets.{in_set, length-set_of}
use Rattle.bsp_model.proofs.SetBits.{bit_tested}
use Rattle.bsp_model.proofs.process_set.ProcessSet.contains.Goals as goal

pub returns-then-process-self : goal.returns-then-process-self
returns-then-process-self c =
    let own = c.self.inside in
    sym (ap (λ (t : List Bool). get_or t c.args.process false) (sym c.self.view_is)
    ∙ get_or_past (set_of own.count own.bits) c.args.process false (omega (arith, c.if-process-self.true, length-set_of own.count own.bits)))

pub returns : goal.returns
returns c =
    let own = c.self.inside in
    bit_tested own.bits c.args.process ∙ sym (in_set own.count own.bits c.args.process c.self.invariant) ∙ ap (λ (s : List Bool). get_or s c.args.process false) c.self.view_is
