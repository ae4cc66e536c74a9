-- What is known of a superstep without a look at all of it: what the private functions of this crate ask and promise.
use Rattle.std.specs.Prelude.{◌≡◌, ◌<◌, ℕ, Bool, true, false, List, Option, length, slice_index_or}
use Rattle.bsp_step.specs.ViewParts.{ViewParts}
use Rattle.bsp_run.specs.Run.{Run, open_views, after_delivery}
use Rattle.bsp_run.specs.Condition.{is_open, no_view}
use Rattle.bsp_incr.specs.declared.compare.dirty.Dirty.{Dirty}
use Rattle.bsp_incr.specs.declared.compare.known_table.KnownTable.{KnownTable}
use Rattle.bsp_incr.specs.declared.compare.known_table.KnownTable.TheVariants.{AsBefore, Unknown}
use Rattle.bsp_incr.specs.Inside.Before.{views_before, views_after}
use Rattle.bsp_incr.specs.Inside.Marks.{ViewsDifferAtMost}

-- the first processes of two supersteps see the same table and the same tag size
pub record HaveSameTable (old new : List ViewParts) : Type 0 where
  pub some : 0 < length old
  pub table : (slice_index_or old 0 no_view).table ≡ (slice_index_or new 0 no_view).table
  pub tag_size : (slice_index_or old 0 no_view).tag_size ≡ (slice_index_or new 0 no_view).tag_size

-- What is known of the table that the processes see holds, where the previous run has such a superstep.
abbrev pub IsKnown : KnownTable → List ViewParts → List ViewParts → Type 0
IsKnown AsBefore old new = 0 < length old → HaveSameTable old new
IsKnown Unknown old new = Unit {0}

-- No other process sees something else, and the table is the same where it is said to be.
pub record AreDirty (old new : List ViewParts) (d : Dirty) : Type 0 where
  pub processes : ViewsDifferAtMost old new d.processes
  pub same_table : d.same_table ≡ true → HaveSameTable old new

-- No more are looked at than have to be: where the table and the tag size are those of the previous run, the marked processes alone.
abbrev pub AreMarkedAlone : List ViewParts → List ViewParts → List Bool → Dirty → Type 0
AreMarkedAlone old new marks d = HaveSameTable old new → (p : ℕ) → slice_index_or d.processes p false ≡ true → slice_index_or marks p false ≡ true

-- What is known of the table in the open superstep, if there is one.
abbrev pub KnowsTable : Option Run → Run → KnownTable → Type 0
KnowsTable old r known = is_open r.phase ≡ true → IsKnown known (views_before old (length r.past)) (open_views r)

-- What is known of the table after the delivery of the superstep whose turns are taken.
abbrev pub KnowsNextTable : Option Run → Run → KnownTable → Type 0
KnowsNextTable old r known = IsKnown known (views_after old (length r.past)) (open_views (after_delivery r))
