use Rattle.std.proofs.Common.{◌≡◌, drop}
use Rattle.bsp_incr.specs.Edits.{refusal_from}
use Rattle.bsp_incr.proofs.edit.editing.refusal_of.Given as goal

-- no edit so far is refused
abbrev pub invariant-loop-place : goal.invariant-loop-place
invariant-loop-place l = refusal_from l.input 0 l.edits ≡ refusal_from l.input l.place (drop l.place l.edits)
