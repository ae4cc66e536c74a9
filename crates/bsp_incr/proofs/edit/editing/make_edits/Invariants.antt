use Rattle.std.proofs.Common.{◌≡◌, ◌≤◌, drop, length, vec_len}
use Rattle.std.specs.Prelude.{vec_capacity}
use Rattle.bsp_incr.specs.Edits.{edited}
use Rattle.bsp_incr.specs.Inside.Formers.{restored}
use Rattle.bsp_incr.proofs.edit.editing.make_edits.Given as goal

-- the edits so far and those that are left, what was replaced so far, and the room for what will be
abbrev pub invariant-loop-edit : goal.invariant-loop-edit
invariant-loop-edit l = record {
  rest : edited l.input (drop l.edit-index l.edits) ≡ edited l.fn.input l.edits;
  back : restored l.input l.formers.items ≡ l.fn.input;
  few : vec_len l.formers ≤ l.edit-index;
  room : length l.edits ≤ vec_capacity l.formers;
}
