-- Who may see something else in an open superstep than in the previous run: what the private functions of this crate ask and promise.
use Rattle.std.specs.Prelude.{◌≡◌, ◌<◌, ◌⊎◌, ℕ, ◌+◌, Bool, true, false, List, Option, length, slice_index_or}
use Rattle.bsp_model.specs.declared.input.Input.{Input}
use Rattle.bsp_step.specs.ViewParts.{ViewParts}
use Rattle.bsp_step.specs.OutcomeParts.{OutcomeParts, outcome_of}
use Rattle.bsp_deliver.specs.Delivery.{delivery_parts, next_memory, next_queue}
use Rattle.bsp_run.specs.Run.{Run}
use Rattle.bsp_run.specs.Supersteps.{superstep_at}
use Rattle.bsp_run.specs.Condition.{no_view}
use Rattle.bsp_incr.specs.Inside.Before.{delivered_outcomes, HasSameArgs, HasOtherArgs, HasSameMemory, HasOtherMemory}
use Rattle.bsp_incr.specs.Inside.Changes.{is_touched}

-- views that are equal but for the table and the tag size
pub record AreAlikeButForTable (v w : ViewParts) : Type 0 where
  pub nprocs : v.nprocs ≡ w.nprocs
  pub pid : v.pid ≡ w.pid
  pub step : v.step ≡ w.step
  pub args : v.args ≡ w.args
  pub memory : v.memory ≡ w.memory
  pub queue : v.queue ≡ w.queue

-- A process that is not marked sees what it saw in the previous run, the table and the tag size aside. If the previous run has no such superstep, nothing is asked.
pub record AreMarked (old new : List ViewParts) (marks : List Bool) : Type 0 where
  pub count : length marks ≡ length new
  pub clean : (p : ℕ) → p < length old → p < length new → slice_index_or marks p true ≡ false → AreAlikeButForTable (slice_index_or old p no_view) (slice_index_or new p no_view)

-- The views of two supersteps differ at most at the processes of a set: every other one sees what it saw in the previous run.
pub record ViewsDifferAtMost (old new : List ViewParts) (set : List Bool) : Type 0 where
  pub count : length set ≡ length new
  pub same : (p : ℕ) → p < length new → slice_index_or set p true ≡ false → (p < length old) × (slice_index_or old p no_view ≡ slice_index_or new p no_view)

-- So do the outcomes of two supersteps.
pub record OutcomesDifferAtMost (old new : List OutcomeParts) (set : List Bool) : Type 0 where
  pub count : length set ≡ length new
  pub same : (p : ℕ) → p < length old → p < length new → slice_index_or set p true ≡ false → outcome_of old p ≡ outcome_of new p

-- the processes of a superstep all see one table and one tag size
pub record HaveOneTable (views : List ViewParts) : Type 0 where
  pub table : (p : ℕ) → p < length views → (slice_index_or views p no_view).table ≡ (slice_index_or views 0 no_view).table
  pub tag_size : (p : ℕ) → p < length views → (slice_index_or views p no_view).tag_size ≡ (slice_index_or views 0 no_view).tag_size

-- the memories and queues of these views are what these outcomes delivered
pub record AreDelivered (os : List OutcomeParts) (views : List ViewParts) : Type 0 where
  pub count : length views ≡ length os
  pub memory : (d : ℕ) → d < length os → (slice_index_or views d no_view).memory ≡ next_memory (delivery_parts os d)
  pub queue : (d : ℕ) → d < length os → (slice_index_or views d no_view).queue ≡ next_queue (delivery_parts os d)

-- A process whose arguments are not marked has those of the previous run, and one whose arguments are marked has others.
pub record AreArgsMarked (old : Option Run) (input : Input) (marks : List Bool) : Type 0 where
  pub count : length marks ≡ length input.mems
  pub clean : (p : ℕ) → p < length input.mems → slice_index_or marks p true ≡ false → HasSameArgs old input p
  pub other : (p : ℕ) → p < length input.mems → slice_index_or marks p false ≡ true → HasOtherArgs old input p

-- A process that is not marked for superstep 0 has the memory and the arguments of the previous run, and one that is marked has another memory or other
-- arguments.
pub record AreFirstMarked (old : Option Run) (input : Input) (marks : List Bool) : Type 0 where
  pub count : length marks ≡ length input.mems
  pub memory : (p : ℕ) → p < length input.mems → slice_index_or marks p true ≡ false → HasSameMemory old input p
  pub args : (p : ℕ) → p < length input.mems → slice_index_or marks p true ≡ false → HasSameArgs old input p
  pub other : (p : ℕ) → p < length input.mems → slice_index_or marks p false ≡ true → HasOtherMemory old input p ⊎ HasOtherArgs old input p

-- What the superstep before the open one delivered to a process depends on something else than in the previous run, or that run delivered nothing there.
pub record IsRedelivered (old : Option Run) (r : Run) (p : ℕ) : Type 0 where
  pub step : ℕ
  pub before : length r.past ≡ step + 1
  pub touched : is_touched (delivered_outcomes old step) (superstep_at r.past step).outcomes p ≡ true

-- Something has reached a process before the open superstep (this profile): it has other arguments than in the previous run, something was delivered to it
-- anew, or the open superstep is the first and it begins with another memory.
abbrev pub IsReached : Option Run → Input → Run → ℕ → Type 0
IsReached old input r p =
    HasOtherArgs old input p ⊎ (IsRedelivered old r p ⊎ ((length r.past ≡ 0) × HasOtherMemory old input p))
