-- The processes that an update tells of, and that of all others nothing is another where both runs end alike.
use Rattle.std.specs.Prelude.{◌≡◌, ◌<◌, ℕ, Bool, true, false, List, [], ◌∷◌, ◌++◌, codes, length, replicate, slice_get, slice_index_or, Option, None, Some, if◌then◌else◌}
use Rattle.bsp_model.specs.declared.input.Input.{Input}
use Rattle.bsp_model.specs.declared.fault.End.{End}
use Rattle.bsp_step.specs.Act.{Act}
use Rattle.bsp_step.specs.Turn.{turn_of}
use Rattle.bsp_step.specs.ViewParts.{ViewParts}
use Rattle.bsp_run.specs.declared.result.RunResult.{RunResult}
use Rattle.bsp_run.specs.Run.{Run}
use Rattle.bsp_model.specs.declared.cost.CostRow.{CostRow}
use Rattle.bsp_incr.specs.declared.edit.Edit.{Edit}
use Rattle.bsp_incr.specs.declared.reply.Update.{Update}
use Rattle.bsp_incr.specs.Named.{with_members}
use Rattle.bsp_engine.specs.Changes.{count_line, other, other_number, others, piece_if, same_row}
use Rattle.bsp_text.specs.Lines.{line, numbered}
use Rattle.bsp_engine.specs.Text.{cost_line}
use Rattle.bsp_engine.specs.Untouched.{touched, end_alike, AreRunsAround}

-- A run before the batch, the run after it, and what was done for that.
pub record IsUpdateBetween (old : Run) (batch : List Edit) (update : Update) (new : Run) : Type 0 where
  pub acts : ViewParts → List Act
  pub ending : ViewParts → End
  pub looks : ViewParts → ℕ → Bool
  pub input : Input
  pub runs : AreRunsAround (turn_of acts ending) looks input batch update old new

-- The processes that are compared: those that are touched, or all where the runs do not end alike.
abbrev pub compared_processes : RunResult → RunResult → List Edit → Update → List Bool
compared_processes old new batch update =
    if end_alike old new then with_members (replicate (length old.memories) false) (touched batch update)
    else replicate (length old.memories) true

-- As many items as processes, and the same but at the processes of a set.
pub record AreSameOutside {A : Type 0} (set : List Bool) (olds news : List A) : Type 0 where
  pub count : length olds ≡ length news
  pub one_each : length set ≡ length news
  pub same : (p : ℕ) → p < length news → slice_index_or set p false ≡ false → slice_get olds p ≡ slice_get news p

-- a piece for what process p has, unless it had the same; nothing where there is no such process
abbrev pub piece_of : {A : Type 0} → (ℕ → A → List ℕ) → (A → A → Bool) → ℕ → Option A → Option A → List ℕ
piece_of piece same p old None = []
piece_of piece same p old (Some new) = piece_if piece p (other same old new)

abbrev pub piece_there : {A : Type 0} → (ℕ → A → List ℕ) → (A → A → Bool) → List A → List A → ℕ → List ℕ
piece_there piece same olds news p = piece_of piece same p (slice_get olds p) (slice_get news p)

-- Of a process outside a set the results have the same.
pub record HaveSameOutside (set : List Bool) (old new : RunResult) : Type 0 where
  pub memories : AreSameOutside set old.memories new.memories
  pub lines : AreSameOutside set old.lines new.lines

-- the changes of costs against those before, with the number of supersteps and the sum
abbrev pub cost_changes : List CostRow → List CostRow → ℕ → List ℕ
cost_changes olds news total =
    numbered (piece_if cost_line) 0 (others same_row olds news) ++ count_line (other_number (length olds) (length news)) ++ line (codes "total") (total ∷ [])
