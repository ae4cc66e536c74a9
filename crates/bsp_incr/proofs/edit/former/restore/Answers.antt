use Rattle.std.proofs.Common.{◌∙◌, List, ap, sym}
use Rattle.bsp_model.specs.declared.input.Input.{Input}
use Rattle.bsp_incr.specs.declared.edit.former.Former.{Former}
use Rattle.bsp_incr.specs.Inside.Formers.{restored}
use Rattle.bsp_incr.proofs.Restoring.{restored-last}
use Rattle.bsp_incr.proofs.edit.former.restore.Goals as goal

pub loop-former-preserved : goal.loop-former-preserved
loop-former-preserved c =
    let input : Input = c.loop-former.input in
    let left : List Former = c.pop.new.self.items in
    ap (λ (i : Input). restored i left) c.put_back.ensures ∙ sym (restored-last input left c.in-Some.former) ∙ sym (ap (restored input) c.in-Some.ensures.items) ∙ c.loop-former.invariant
