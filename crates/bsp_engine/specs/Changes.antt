-- What of a result is another than in the result before, as `--changes` tells it (this profile).
use Rattle.std.specs.Prelude.{ℕ, Bool, ◌==◌, ◌&&◌, nat_eq, List, [], ◌∷◌, ◌++◌, drop, length, slice_get, codes, Option, None, Some, if◌then◌else◌}
use Rattle.std.specs.Cmp.Lexicographic.{pointwise}
use Rattle.bsp_model.specs.Same.{same_words}
use Rattle.bsp_model.specs.declared.cost.CostRow.{CostRow}
use Rattle.bsp_run.specs.declared.result.RunResult.{RunResult}
use Rattle.bsp_run.specs.declared.result.Status.{Status}
use Rattle.bsp_text.specs.Lines.{line, numbered}
use Rattle.bsp_engine.specs.Text.{status_lines, memory_line, print_lines, cost_line}

-- the item, unless it is the same as before
abbrev pub other : {A : Type 0} → (A → A → Bool) → Option A → A → Option A
other same None new = Some new
other same (Some old) new = if same old new then None else Some new

-- each item of a list, unless the list before has the same in its place
abbrev pub others : {A : Type 0} → (A → A → Bool) → List A → List A → List (Option A)
others same olds [] = []
others same olds (new ∷ news) = other same (slice_get olds 0) new ∷ others same (drop 1 olds) news

abbrev pub same_lines : List (List ℕ) → List (List ℕ) → Bool
same_lines = pointwise same_words

abbrev pub same_row : CostRow → CostRow → Bool
same_row a b = (a.work == b.work) && (a.h == b.h) && (a.cost == b.cost)

abbrev pub other_number : ℕ → ℕ → Option ℕ
other_number old new = other nat_eq (Some old) new

-- What of a result is another. `None` stands for each process, and for each superstep, of which nothing is.
pub record Changes : Type 0 where
  pub status : Status
  pub memories : List (Option (List ℕ))
  pub lines : List (Option (List (List ℕ)))
  pub costs : List (Option CostRow)
  -- how many supersteps there are
  pub supersteps : Option ℕ
  pub total : ℕ

abbrev pub changes_of : RunResult → RunResult → Changes
changes_of old new =
    record {
      status = new.status;
      memories = others same_words old.memories new.memories;
      lines = others same_lines old.lines new.lines;
      costs = others same_row old.costs new.costs;
      supersteps = other_number (length old.costs) (length new.costs);
      total = new.total;
    }

-- `silent P` for a process that has no lines any more, else its lines
abbrev pub other_lines : ℕ → List (List ℕ) → List ℕ
other_lines pid [] = line (codes "silent") (pid ∷ [])
other_lines pid (words ∷ later) = print_lines pid (words ∷ later)

-- a piece for an item that has changed
abbrev pub piece_if : {A : Type 0} → (ℕ → A → List ℕ) → ℕ → Option A → List ℕ
piece_if piece n None = []
piece_if piece n (Some x) = piece n x

-- `costs N` where there are N supersteps, and there was another number of them
abbrev pub count_line : Option ℕ → List ℕ
count_line None = []
count_line (Some count) = line (codes "costs") (count ∷ [])

-- the lines of what has changed
abbrev pub changes_lines : Changes → List ℕ
changes_lines c =
    status_lines c.status ++ numbered (piece_if memory_line) 0 c.memories ++ numbered (piece_if other_lines) 0 c.lines
    ++ numbered (piece_if cost_line) 0 c.costs ++ count_line c.supersteps ++ line (codes "total") (c.total ∷ [])
