use Rattle.std.proofs.Common.{◌≡◌, ◌<◌, ℕ, get_or}
use Rattle.bsp_incr.specs.declared.edit.Edit.{Edit}
use Rattle.bsp_incr.specs.Edits.{edited_by}
use Rattle.bsp_incr.proofs.edit.editing.are_there.Given as goal

-- the edits so far change nothing
abbrev pub invariant-loop-edit : goal.invariant-loop-edit
invariant-loop-edit l = (k : ℕ) (e : Edit) → k < l.edit-index → edited_by l.input (get_or l.edits k e) ≡ l.input
