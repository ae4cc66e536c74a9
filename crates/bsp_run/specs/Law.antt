-- What a whole run is, in the words of BSP: its states, one superstep after the other (Valiant 1990; Hill et al. 1998).
use Rattle.std.specs.Prelude.{◌≡◌, ◌<◌, ◌≤◌, ◌↔◌, ℕ, ◌+◌, ◌-◌, zero, suc, List, [], map, length, Option, None, unwrap_or}
use Rattle.bsp_model.specs.declared.input.Input.{Input}
use Rattle.bsp_model.specs.Input.{input_fault}
use Rattle.bsp_step.specs.ViewParts.{ViewParts}
use Rattle.bsp_step.specs.OutcomeParts.{OutcomeParts}
use Rattle.bsp_run.specs.declared.result.Status.{Status}
use Rattle.bsp_run.specs.declared.result.Status.TheVariants.{Limit}
use Rattle.bsp_run.specs.declared.result.RunResult.{RunResult}
use Rattle.bsp_run.specs.declared.phase.Phase.TheVariants.{Ended}
use Rattle.bsp_run.specs.State.{State, first_state, next_state, views_of}
use Rattle.bsp_run.specs.Ending.{end_of}
use Rattle.bsp_run.specs.Run.{Run, run}
use Rattle.bsp_run.specs.Result.{result_of}
use Rattle.bsp_run.specs.Supersteps.{supersteps_of, superstep_at}

-- The state of superstep s: that of the input, and then what each delivery makes of the turns before it.
unfoldable pub state_at : (ViewParts → OutcomeParts) → Input → ℕ → State
state_at turn input zero = first_state input
state_at turn input (suc s) = next_state (state_at turn input s) (map turn (views_of input.args s (state_at turn input s)))

-- what the processes see in superstep s
abbrev pub views_in : (ViewParts → OutcomeParts) → Input → ℕ → List ViewParts
views_in turn input s = views_of input.args s (state_at turn input s)

-- what their turns leave
abbrev pub outcomes_in : (ViewParts → OutcomeParts) → Input → ℕ → List OutcomeParts
outcomes_in turn input s = map turn (views_in turn input s)

-- how superstep s ends the run; none where it ends by delivery
abbrev pub end_in : (ViewParts → OutcomeParts) → Input → ℕ → Option Status
end_in turn input s = end_of s (state_at turn input s).table (outcomes_in turn input s)

-- A run that has ended, on this input.
pub record IsBspRun (turn : ViewParts → OutcomeParts) (input : Input) (r : Run) : Type 0 where
  -- its arguments, its limit and its prices are those of the input
  pub args : r.args ≡ input.args
  pub limit : r.limit ≡ input.limit
  pub g : r.g ≡ input.g
  pub l : r.l ≡ input.l
  -- there is a first superstep, and there are at most as many as the limit
  pub some : 1 ≤ length (supersteps_of r)
  pub few : length (supersteps_of r) ≤ input.limit
  -- in superstep s the processes see the state of superstep s, and the outcomes are the turns of these views
  pub views : (s : ℕ) → s < length (supersteps_of r) → (superstep_at (supersteps_of r) s).views ≡ views_in turn input s
  pub outcomes : (s : ℕ) → s < length (supersteps_of r) → (superstep_at (supersteps_of r) s).outcomes ≡ outcomes_in turn input s
  -- no superstep but the last ends the run
  pub goes_on : (s : ℕ) → s + 1 < length (supersteps_of r) → end_in turn input s ≡ None
  -- the run has ended as the last one ends it, by fault, sync fault or halt; where that one ends by delivery, at the limit
  pub phase : r.phase ≡ Ended (unwrap_or (end_in turn input (length (supersteps_of r) - 1)) Limit)
  -- and then there are as many as the limit
  pub cut : r.phase ≡ Ended Limit → length (supersteps_of r) ≡ input.limit
  -- the state at the end is that of the last superstep, or at the limit that of the one after it, of which no turn is taken
  pub state : r.state ≡ state_at turn input (length r.past)
  pub untaken : r.phase ≡ Ended Limit → r.outcomes ≡ []

-- What is given to the user of such a run.
pub record IsBspResult (turn : ViewParts → OutcomeParts) (input : Input) (result : RunResult) : Type 0 where
  pub run : Run
  pub law : IsBspRun turn input run
  pub gives : result ≡ result_of run

-- There is one run of a lawful input, and this is the machine's.
abbrev pub OneRun : Type 0
OneRun = (turn : ViewParts → OutcomeParts) (input : Input) (r : Run) → input_fault input ≡ None → IsBspRun turn input r ↔ (r ≡ run turn input)
