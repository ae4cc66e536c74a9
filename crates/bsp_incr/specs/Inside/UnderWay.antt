-- What stands between the supersteps of a run that is made again: what the private functions of this crate ask and promise.
use Rattle.std.specs.Prelude.{◌≡◌, ℕ, Bool, true, false, List, Option, length, slice_index_or}
use Rattle.bsp_model.specs.declared.input.Input.{Input}
use Rattle.bsp_step.specs.ViewParts.{ViewParts}
use Rattle.bsp_step.specs.OutcomeParts.{OutcomeParts}
use Rattle.bsp_run.specs.Run.{Run, open_views}
use Rattle.bsp_run.specs.Condition.{is_open}
use Rattle.bsp_run.specs.Inside.Record.{IsRecord}
use Rattle.bsp_incr.specs.declared.reply.Update.{Update}
use Rattle.bsp_incr.specs.Inside.Before.{views_before}
use Rattle.bsp_incr.specs.Inside.Changes.{update_of}
use Rattle.bsp_incr.specs.Inside.Marks.{AreMarked, IsReached}

-- Between the supersteps of the new run: its record, the marks of its open superstep, and the update so far. Who is not marked sees what it saw, the table
-- and the tag size aside, and something has reached each who is.
pub record IsUnderWay (turn : ViewParts → OutcomeParts) (looks : ViewParts → ℕ → Bool) (old : Option Run) (input : Input) (r : Run) (marks : List Bool) (update : Update) : Type 0 where
  pub made : IsRecord turn input r
  pub marked : is_open r.phase ≡ true → AreMarked (views_before old (length r.past)) (open_views r) marks
  pub reached : is_open r.phase ≡ true → (p : ℕ) → slice_index_or marks p false ≡ true → IsReached old input r p
  pub updated : update ≡ update_of looks old r
