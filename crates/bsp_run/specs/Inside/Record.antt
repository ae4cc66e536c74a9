-- What the record of a run tells while it is made. Of a run that has ended, Law.antt says it in the words of BSP.
use Rattle.std.specs.Prelude.{◌≡◌, ◌≤◌, ◌<◌, ℕ, true, false, [], map, length, All, None, Some}
use Rattle.bsp_model.specs.declared.input.Input.{Input}
use Rattle.bsp_step.specs.ViewParts.{ViewParts}
use Rattle.bsp_step.specs.OutcomeParts.{OutcomeParts}
use Rattle.bsp_run.specs.declared.result.Status.TheVariants.{Halted, Limit, Faulted, SyncFaulted}
use Rattle.bsp_run.specs.declared.phase.Phase.{Phase}
use Rattle.bsp_run.specs.declared.phase.Phase.TheVariants.{Open, Turned, Ended}
use Rattle.bsp_run.specs.Run.{Run, is_limit}
use Rattle.bsp_run.specs.Supersteps.{supersteps_of, supersteps_opened, superstep_at}
use Rattle.bsp_run.specs.Law.{state_at, views_in, end_in}

-- how superstep s ended the run that is in this phase
abbrev pub IsEndIn : (ViewParts → OutcomeParts) → Input → ℕ → Phase → Type 0
IsEndIn turn input s Open = Unit {0}
IsEndIn turn input s Turned = Unit {0}
IsEndIn turn input s (Ended Limit) = s ≡ input.limit
IsEndIn turn input s (Ended Halted) = end_in turn input s ≡ Some Halted
IsEndIn turn input s (Ended (Faulted step faults)) = end_in turn input s ≡ Some (Faulted step faults)
IsEndIn turn input s (Ended (SyncFaulted step fault)) = end_in turn input s ≡ Some (SyncFaulted step fault)

-- The run so far has the states of its supersteps, their views, and the turns of these; each of its past supersteps ended by delivery.
pub record IsRecord (turn : ViewParts → OutcomeParts) (input : Input) (r : Run) : Type 0 where
  pub args : r.args ≡ input.args
  pub limit : r.limit ≡ input.limit
  pub g : r.g ≡ input.g
  pub l : r.l ≡ input.l
  pub state : r.state ≡ state_at turn input (length r.past)
  pub views : (s : ℕ) → s ≤ length r.past → (superstep_at (supersteps_opened r) s).views ≡ views_in turn input s
  pub turns : All (λ s. s.outcomes ≡ map turn s.views) (supersteps_of r)
  pub goes_on : (s : ℕ) → s < length r.past → end_in turn input s ≡ None
  pub room : is_limit r.phase ≡ false → length r.past < input.limit
  pub end : IsEndIn turn input (length r.past) r.phase
  pub untaken : is_limit r.phase ≡ true → r.outcomes ≡ []
