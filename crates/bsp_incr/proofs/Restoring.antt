-- What edits replaced, put back one after the other.
use Rattle.std.proofs.Common.{◌≡◌, List, [], ◌∷◌, ◌++◌, refl, ap}
use Rattle.bsp_model.specs.declared.input.Input.{Input}
use Rattle.bsp_incr.specs.declared.edit.former.Former.{Former}
use Rattle.bsp_incr.specs.Inside.Formers.{with_former, restored}

-- what came last is put back first
pub restored-last : (i : Input) (formers : List Former) (f : Former) → restored i (formers ++ f ∷ []) ≡ restored (with_former i f) formers
restored-last i [] f = refl
restored-last i (g ∷ later) f = ap (λ (j : Input). with_former j g) (restored-last i later f)
