-- A result again, out of the result before and what the lines of changes say, and the same of their texts (this profile).
use Rattle.std.specs.Prelude.{◌≡◌, ◌<◌, ◌≤◌, ◌^◌, Bool, ℕ, zero, suc, ◌+◌, ◌==◌, List, [], ◌∷◌, ◌++◌, drop, length, codes, Option, None, Some, if◌then◌else◌}
use Rattle.bsp_model.specs.declared.cost.CostRow.{CostRow}
use Rattle.bsp_run.specs.declared.result.RunResult.{RunResult}
use Rattle.bsp_run.specs.declared.result.Status.{Status}
use Rattle.bsp_incr.specs.declared.reply.Reply.TheVariants.{Done}
use Rattle.bsp_incr.specs.declared.reply.Update.{Update}
use Rattle.bsp_engine.specs.Blocks.{reply_block}
use Rattle.bsp_engine.specs.Changes.{Changes, changes_of, changes_lines, count_line, other_lines}
use Rattle.bsp_text.specs.Lines.{line}
use Rattle.bsp_engine.specs.Text.{cost_line, memory_line, status_lines}
use Rattle.bsp_engine.specs.Told.{ToldReply}

-- What the lines of changes say: each names the number of its process or superstep.
pub record Told : Type 0 where
  pub status : Status
  pub memories : List (ℕ × List ℕ)
  pub lines : List (ℕ × List (List ℕ))
  pub costs : List (ℕ × CostRow)
  pub supersteps : Option ℕ
  pub total : ℕ

-- the items that have changed, with their numbers; n is that of the first
abbrev pub numbers_of : {A : Type 0} → ℕ → List (Option A) → List (ℕ × A)
numbers_of n [] = []
numbers_of n (None ∷ later) = numbers_of (n + 1) later
numbers_of n (Some x ∷ later) = (n, x) ∷ numbers_of (n + 1) later

abbrev pub told_of : Changes → Told
told_of c =
    record {
      status = c.status;
      memories = numbers_of 0 c.memories;
      lines = numbers_of 0 c.lines;
      costs = numbers_of 0 c.costs;
      supersteps = c.supersteps;
      total = c.total;
    }

-- a piece for each item that is told
abbrev pub pieces : {A : Type 0} → (ℕ → A → List ℕ) → List (ℕ × A) → List ℕ
pieces piece [] = []
pieces piece (item ∷ later) = piece item.0 item.1 ++ pieces piece later

-- the lines that say so
abbrev pub told_lines : Told → List ℕ
told_lines t =
    status_lines t.status ++ pieces memory_line t.memories ++ pieces other_lines t.lines ++ pieces cost_line t.costs
    ++ count_line t.supersteps ++ line (codes "total") (t.total ∷ [])

-- the item that was there, if there was one
abbrev pub first_of : {A : Type 0} → List A → List A
first_of [] = []
first_of (old ∷ olds) = old ∷ []

-- So many items, of which the first has the number n: each as it is told, in their order, or as it was before.
abbrev pub items_with : {A : Type 0} → ℕ → ℕ → List A → List (ℕ × A) → List A
items_with zero n olds told = []
items_with (suc count) n olds [] = first_of olds ++ items_with count (n + 1) (drop 1 olds) []
items_with (suc count) n olds (item ∷ later) =
    if item.0 == n then item.1 ∷ items_with count (n + 1) (drop 1 olds) later
    else first_of olds ++ items_with count (n + 1) (drop 1 olds) (item ∷ later)

abbrev pub count_with : ℕ → Option ℕ → ℕ
count_with old None = old
count_with old (Some new) = new

-- There are as many processes as before, and as many supersteps unless their number is told.
abbrev pub whole_of : RunResult → Told → RunResult
whole_of old t =
    record {
      status = t.status;
      memories = items_with (length old.memories) 0 old.memories t.memories;
      lines = items_with (length old.lines) 0 old.lines t.lines;
      costs = items_with (count_with (length old.costs) t.supersteps) 0 old.costs t.costs;
      total = t.total;
    }

-- The lines of changes say this, and with the result before, that of as many processes, it gives the whole result.
pub record ChangesTell (old new : RunResult) : Type 0 where
  pub say : changes_lines (changes_of old new) ≡ told_lines (told_of (changes_of old new))
  pub give : whole_of old (told_of (changes_of old new)) ≡ new

abbrev pub ChangesTellTheRest : Type 0
ChangesTellTheRest = (old new : RunResult) → length old.memories ≡ length new.memories → length old.lines ≡ length new.lines → ChangesTell old new

-- A block with a result: its number, the result, the update of which it tells, and the lines that it has on the update.
pub record ResultBlock : Type 0 where
  pub number : ℕ
  pub result : RunResult
  pub update : Option Update
  pub more : List ℕ

abbrev pub told_in : ResultBlock → ToldReply
told_in b = record { reply = Done b.result b.update; more = b.more }

abbrev pub whole_text : Bool → ResultBlock → List ℕ
whole_text places b = reply_block places b.number None (told_in b)

-- the text with changes alone, after a block
abbrev pub changes_text : Bool → ResultBlock → ResultBlock → List ℕ
changes_text places before b = reply_block places b.number (Some before.result) (told_in b)

-- There are so many processes. They, and the supersteps, have numbers of 64 bits.
pub record IsCounted (processes : ℕ) (r : RunResult) : Type 0 where
  pub memories : length r.memories ≡ processes
  pub lines : length r.lines ≡ processes
  pub few : processes ≤ 2 ^ 64
  pub supersteps : length r.costs < 2 ^ 64

-- The text of the whole block before, and the text of the changes, leave one text for the whole block: two pairs of blocks that agree in the first two
-- texts agree in the third.
abbrev pub TextsTellTheRest : Type 0
TextsTellTheRest =
    (places : Bool) (n m : ℕ) (old new other next : ResultBlock) → IsCounted n old.result → IsCounted n new.result → IsCounted m other.result → IsCounted m next.result
    → whole_text places old ≡ whole_text places other → changes_text places old new ≡ changes_text places other next
    → whole_text places new ≡ whole_text places next
