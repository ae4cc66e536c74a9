-- What edits replaced, put back.
use Rattle.std.specs.Prelude.{List, [], ◌∷◌, slice_set}
use Rattle.bsp_model.specs.declared.input.Input.{Input}
use Rattle.bsp_incr.specs.declared.edit.former.Former.{Former}
use Rattle.bsp_incr.specs.declared.edit.former.Former.TheVariants.{Memory, Args, Limit, Prices}

-- the input with what an edit replaced
abbrev pub with_former : Input → Former → Input
with_former i (Memory pid memory) = record i { mems = slice_set i.mems pid memory }
with_former i (Args pid args) = record i { args = slice_set i.args pid args }
with_former i (Limit n) = record i { limit = n }
with_former i (Prices g l) = record i { g = g; l = l }

-- the input with what the edits of a batch replaced; what came last is put back first
abbrev pub restored : Input → List Former → Input
restored i [] = i
restored i (f ∷ later) = with_former (restored i later) f
