-- How many supersteps are left of a run.
use Rattle.std.specs.Prelude.{◌≡◌, ◌≤◌, ◌+◌, ℕ, true, false, length}
use Rattle.bsp_step.specs.ViewParts.{ViewParts}
use Rattle.bsp_step.specs.OutcomeParts.{OutcomeParts}
use Rattle.bsp_run.specs.Run.{Run, advance, times}
use Rattle.bsp_run.specs.Condition.{is_turned, is_open}

-- Between supersteps a run is open or has ended; while it is open, so many supersteps are left to the limit.
pub record IsBetween (n : ℕ) (r : Run) : Type 0 where
  pub between : is_turned r.phase ≡ false
  pub left : is_open r.phase ≡ true → (1 ≤ n) × (length r.past + n ≡ r.limit)

-- Between supersteps: those that are left make the run that is whole.
pub record LeadsTo (turn : ViewParts → OutcomeParts) (r whole : Run) : Type 0 where
  pub left : ℕ
  pub between : IsBetween left r
  pub rest : times left (advance turn) r ≡ whole
