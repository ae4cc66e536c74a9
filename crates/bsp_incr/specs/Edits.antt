-- Edits of an input (this profile).
use Rattle.std.specs.Prelude.{ℕ, ◌+◌, List, [], ◌∷◌, Option, None, Some, length, slice_set, slice_index_or, nat_lt, nat_le, ◌&&◌, not, if◌then◌else◌}
use Rattle.bsp_model.specs.Limits.{highest_price, most_supersteps}
use Rattle.bsp_model.specs.declared.input.Input.{Input}
use Rattle.bsp_incr.specs.declared.edit.Edit.{Edit}
use Rattle.bsp_incr.specs.declared.edit.Edit.TheVariants.{Word, Arg, Limit, Prices}
use Rattle.bsp_incr.specs.declared.edit.EditFault.{EditFault}
use Rattle.bsp_incr.specs.declared.edit.EditFault.TheVariants.{NoSuchProcess, NoSuchWord, NoSuchArg, BadLimit, BadPrice}
use Rattle.bsp_incr.specs.declared.edit.EditRefusal.{EditRefusal}

-- Why an edit of this input is refused: what it names is not there, or its number is past a limit.
abbrev pub edit_fault : Input → Edit → Option EditFault
edit_fault i (Word pid addr value) =
    if not (nat_lt pid (length i.mems)) then Some NoSuchProcess
    else (if not (nat_lt addr (length (slice_index_or i.mems pid []))) then Some NoSuchWord else None)
edit_fault i (Arg pid index value) =
    if not (nat_lt pid (length i.mems)) then Some NoSuchProcess
    else (if not (nat_lt index (length (slice_index_or i.args pid []))) then Some NoSuchArg else None)
edit_fault i (Limit n) = if not (nat_le 1 n && nat_le n most_supersteps) then Some BadLimit else None
edit_fault i (Prices g l) = if not (nat_le g highest_price && nat_le l highest_price) then Some BadPrice else None

-- the first refusal, unless there is none
abbrev pub refusal_or : ℕ → Option EditFault → Option EditRefusal → Option EditRefusal
refusal_or place None later = later
refusal_or place (Some fault) later = Some record { place = place; fault = fault }

abbrev pub refusal_from : Input → ℕ → List Edit → Option EditRefusal
refusal_from i place [] = None
refusal_from i place (e ∷ later) = refusal_or place (edit_fault i e) (refusal_from i (place + 1) later)

-- The first refused edit of a batch, with its place, counted from 0; none where the batch is accepted (this profile).
abbrev pub refusal_of : Input → List Edit → Option EditRefusal
refusal_of i batch = refusal_from i 0 batch

-- The lists with one number of one list changed.
abbrev pub with_number : List (List ℕ) → ℕ → ℕ → ℕ → List (List ℕ)
with_number lists p a value = slice_set lists p (slice_set (slice_index_or lists p []) a value)

-- The input after one edit (this profile). No edit changes a length.
abbrev pub edited_by : Input → Edit → Input
edited_by i (Word pid addr value) = record i { mems = with_number i.mems pid addr value }
edited_by i (Arg pid index value) = record i { args = with_number i.args pid index value }
edited_by i (Limit n) = record i { limit = n }
edited_by i (Prices g l) = record i { g = g; l = l }

-- The input after a batch (this profile): its edits in order, so of two edits of one part the last wins.
abbrev pub edited : Input → List Edit → Input
edited i [] = i
edited i (e ∷ later) = edited (edited_by i e) later
