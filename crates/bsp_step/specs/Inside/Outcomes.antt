-- What several outcomes leave, in columns.
use Rattle.std.specs.Prelude.{ℕ, List, [], ◌∷◌, Option, None, Some, ◌≡◌, ◌<◌, length, map, slice_get, slice_index_or}
use Rattle.std.specs.List.{range_with_len}
use Rattle.bsp_model.specs.Columns.{row_at}
use Rattle.bsp_model.specs.Inside.Beside.{stores_in, HaveWords}
use Rattle.bsp_model.specs.Inside.Columns.{pair_at}
use Rattle.bsp_model.specs.declared.request.Put.{Put}
use Rattle.bsp_model.specs.declared.range.Range.{Range}
use Rattle.bsp_step.specs.declared.outcome.Ended.TheVariants.{Halt}
use Rattle.bsp_step.specs.declared.list_kind.ListKind.{ListKind}
use Rattle.bsp_step.specs.declared.list_kind.ListKind.TheVariants.{Faults, Gets, Sends, Pops, Pushes, Tags, Lines}
use Rattle.bsp_step.specs.declared.lists.Lists.{Lists}
use Rattle.bsp_step.specs.declared.lists.TurnEnd.{TurnEnd}
use Rattle.bsp_step.specs.OutcomeParts.{OutcomeParts, IsOutcome}

-- how the turn of a process that there is not ended
abbrev pub no_end : TurnEnd
no_end = record { ended = Halt; work = 0; stored = None }

-- the ranges of stores and the words that are kept of them: one range beside how the turn ended, or else the rows of the column
abbrev pub kept_beside : Option Range → (List Range) × (List ℕ) → (List Range) × (List ℕ)
kept_beside None rows = rows
kept_beside (Some range) rows = (range ∷ [], [])

-- the first item of a row, if there is one
abbrev pub first_at : {X : Type 0} → List (List X) → ℕ → Option X
first_at rows k = slice_get (row_at rows k) 0

-- an outcome, from how its turn ended, its memory, and a row of each list; the words of its stores may stand in its memory, and its fault and its choice of
-- a tag size are rows of one item
abbrev pub outcome_in : TurnEnd → List ℕ → Lists → ℕ → OutcomeParts
outcome_in end memory lists k =
    record {
      fault = first_at lists.faults k;
      ended = end.ended;
      memory = memory;
      stores = stores_in (kept_beside end.stored (pair_at lists.stores k)) memory;
      puts = row_at lists.puts k;
      gets = row_at lists.gets k;
      sends = row_at lists.sends k;
      pops = row_at lists.pops k;
      pushes = row_at lists.pushes k;
      tag = first_at lists.tags k;
      lines = row_at lists.lines k;
      work = end.work;
    }

-- the outcome of a process
abbrev pub outcome_at : List TurnEnd → List (List ℕ) → Lists → ℕ → OutcomeParts
outcome_at ends memories lists k = outcome_in (slice_index_or ends k no_end) (slice_index_or memories k []) lists k

-- the outcomes of all processes
abbrev pub outcomes_of : List TurnEnd → List (List ℕ) → Lists → List OutcomeParts
outcomes_of ends memories lists = map (outcome_at ends memories lists) (range_with_len 0 (length ends))

-- the puts of all processes
abbrev pub puts_of : List TurnEnd → Lists → List (List Put)
puts_of ends lists = map (row_at lists.puts) (range_with_len 0 (length ends))

-- Each process has a memory, beside which its stores are kept, and its outcome keeps the limits.
pub record AreOutcomes (ends : List TurnEnd) (memories : List (List ℕ)) (lists : Lists) : Type 0 where
  pub count : length memories ≡ length ends
  pub beside : (k : ℕ) → k < length ends → HaveWords (kept_beside (slice_index_or ends k no_end).stored (pair_at lists.stores k)) (slice_index_or memories k [])
  pub lawful : (k : ℕ) → k < length ends → IsOutcome (outcome_at ends memories lists k)

-- The lists that few turns fill have those of this outcome as the rows of a process.
pub record HasRareLists (lists : Lists) (k : ℕ) (o : OutcomeParts) : Type 0 where
  pub faults : first_at lists.faults k ≡ o.fault
  pub gets : row_at lists.gets k ≡ o.gets
  pub sends : row_at lists.sends k ≡ o.sends
  pub pops : row_at lists.pops k ≡ o.pops
  pub pushes : row_at lists.pushes k ≡ o.pushes
  pub tags : first_at lists.tags k ≡ o.tag
  pub lines : row_at lists.lines k ≡ o.lines

-- The lists have those of this outcome as the rows of a process, its stores beside this memory, or as a range beside how its turn ended.
pub record HasLists (stored : Option Range) (lists : Lists) (k : ℕ) (memory : List ℕ) (o : OutcomeParts) : Type 0 where
  pub beside : HaveWords (kept_beside stored (pair_at lists.stores k)) memory
  pub stores : stores_in (kept_beside stored (pair_at lists.stores k)) memory ≡ o.stores
  pub puts : row_at lists.puts k ≡ o.puts
  pub rare : HasRareLists lists k o

-- A process has the rows that another one has in other lists.
pub record AreSameLists (old : Lists) (j : ℕ) (new : Lists) (k : ℕ) : Type 0 where
  pub faults : row_at new.faults k ≡ row_at old.faults j
  pub stores : pair_at new.stores k ≡ pair_at old.stores j
  pub puts : row_at new.puts k ≡ row_at old.puts j
  pub gets : row_at new.gets k ≡ row_at old.gets j
  pub sends : row_at new.sends k ≡ row_at old.sends j
  pub pops : row_at new.pops k ≡ row_at old.pops j
  pub pushes : row_at new.pushes k ≡ row_at old.pushes j
  pub tags : row_at new.tags k ≡ row_at old.tags j
  pub lines : row_at new.lines k ≡ row_at old.lines j

-- The column of a kind of list has no row.
abbrev pub IsWithoutColumn : ListKind → Lists → Type 0
IsWithoutColumn Faults lists = lists.faults ≡ []
IsWithoutColumn Gets lists = lists.gets ≡ []
IsWithoutColumn Sends lists = lists.sends ≡ []
IsWithoutColumn Pops lists = lists.pops ≡ []
IsWithoutColumn Pushes lists = lists.pushes ≡ []
IsWithoutColumn Tags lists = lists.tags ≡ []
IsWithoutColumn Lines lists = lists.lines ≡ []
