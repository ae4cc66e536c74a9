-- Batches that take others back (this profile).
use Rattle.std.specs.Prelude.{◌≡◌, Bool, true, false, List, [], None, map, ◌==◌, ◌&&◌, slice_index, slice_index_or}
use Rattle.bsp_model.specs.declared.input.Input.{Input}
use Rattle.bsp_incr.specs.declared.edit.Edit.{Edit}
use Rattle.bsp_incr.specs.declared.edit.Edit.TheVariants.{Word, Arg, Limit, Prices}
use Rattle.bsp_incr.specs.Edits.{refusal_of, edited}

-- Two edits are of one part: one word, one argument, the limit, or the prices.
abbrev pub same_part : Edit → Edit → Bool
same_part (Word p a x) (Word q b y) = (p == q) && (a == b)
same_part (Arg p k x) (Arg q m y) = (p == q) && (k == m)
same_part (Limit m) (Limit n) = true
same_part (Prices g l) (Prices h m) = true
same_part d e = false

-- The edit that gives a part the value that it has in this input.
abbrev pub former_of : Input → Edit → Edit
former_of i (Word pid addr value) = Word pid addr (slice_index (slice_index_or i.mems pid []) addr)
former_of i (Arg pid index value) = Arg pid index (slice_index (slice_index_or i.args pid []) index)
former_of i (Limit n) = Limit i.limit
former_of i (Prices g l) = Prices i.g i.l

-- The batch that takes a batch back: it gives each part that the batch names the value of before.
abbrev pub undo_of : Input → List Edit → List Edit
undo_of i batch = map (former_of i) batch

-- A batch that is accepted after another one, and gives back the input of before.
pub record TakesBack (before : Input) (batch undo : List Edit) : Type 0 where
  pub accepted : refusal_of (edited before batch) undo ≡ None
  pub input : edited (edited before batch) undo ≡ before
