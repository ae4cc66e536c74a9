use Rattle.std.proofs.Common.{◌≡◌, map, take}
use Rattle.bsp_incr.specs.Undo.{former_of}
use Rattle.bsp_incr.proofs.edit.undo.formers_of.Given as goal

-- the edits so far, with the values that are there
abbrev pub invariant-loop-edit : goal.invariant-loop-edit
invariant-loop-edit l = l.undo ≡ map (former_of l.input) (take l.edit-index l.edits)
