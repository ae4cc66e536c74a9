-- How far a run has come whose record is not kept.
use Rattle.std.specs.Prelude.{◌≡◌, ◌≤◌, ◌+◌, ◌-◌, ℕ, List, Option, None, Some, if◌then◌else◌, ◌==◌, length}
use Rattle.bsp_model.specs.declared.input.Input.{Input}
use Rattle.bsp_step.specs.ViewParts.{ViewParts}
use Rattle.bsp_step.specs.OutcomeParts.{OutcomeParts}
use Rattle.bsp_run.specs.declared.result.Status.{Status}
use Rattle.bsp_run.specs.declared.result.Status.TheVariants.{Limit}
use Rattle.bsp_run.specs.declared.phase.Phase.TheVariants.{Open, Ended}
use Rattle.bsp_scratch.specs.declared.unrecorded.Unrecorded.{Unrecorded}
use Rattle.bsp_run.specs.Run.{Run, advance, times, run}
use Rattle.bsp_run.specs.Inside.Record.{IsRecord}
use Rattle.bsp_scratch.specs.Inside.IsUnrecorded.{IsUnrecorded, HasEnded}

-- What is kept is that of the run so far, which so many supersteps make the run.
pub record HasLeft (turn : ViewParts → OutcomeParts) (input : Input) (step n : ℕ) (vs : List ViewParts) (kept : Unrecorded) : Type 0 where
  pub so_far : Run
  pub count : length so_far.past ≡ step
  pub made : IsRecord turn input so_far
  pub rest : times n (advance turn) so_far ≡ run turn input
  pub left : length so_far.past + n ≡ so_far.limit
  pub phase : so_far.phase ≡ (if n == 0 then Ended Limit else Open)
  pub same : IsUnrecorded so_far vs kept

-- The run goes on, or is at its limit.
pub record IsUnderway (turn : ViewParts → OutcomeParts) (input : Input) (vs : List ViewParts) (kept : Unrecorded) : Type 0 where
  pub end : kept.end ≡ None
  pub within : kept.step ≤ input.limit
  pub so_far : HasLeft turn input kept.step (input.limit - kept.step) vs kept

-- The run goes on, or it has ended so.
abbrev pub Stands : (ViewParts → OutcomeParts) → Input → List ViewParts → Unrecorded → Option Status → Type 0
Stands turn input vs kept None = IsUnderway turn input vs kept
Stands turn input vs kept (Some status) = HasEnded (Some status) (run turn input) vs kept
