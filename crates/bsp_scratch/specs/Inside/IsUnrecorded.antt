-- What is kept of a run so far whose record is not.
use Rattle.std.specs.Prelude.{◌≡◌, ℕ, Bool, true, false, List, Option, None, Some, map, length}
use Rattle.std.specs.List.{range_with_len}
use Rattle.bsp_step.specs.ViewParts.{ViewParts}
use Rattle.bsp_step.specs.OutcomeParts.{OutcomeParts}
use Rattle.bsp_run.specs.declared.phase.Phase.{Phase}
use Rattle.bsp_run.specs.declared.phase.Phase.TheVariants.{Turned, Ended}
use Rattle.bsp_run.specs.declared.result.Status.{Status}
use Rattle.bsp_run.specs.declared.result.Status.TheVariants.{Limit}
use Rattle.bsp_scratch.specs.declared.tally.Tally.{Tally}
use Rattle.bsp_scratch.specs.declared.unrecorded.Unrecorded.{Unrecorded}
use Rattle.bsp_run.specs.Run.{Run, open_views, is_limit}
use Rattle.bsp_run.specs.Condition.{IsRun, is_turned}
use Rattle.bsp_run.specs.Supersteps.{outcomes_of}
use Rattle.bsp_run.specs.Result.{lines_of_process, cost_of_delivery}
use Rattle.bsp_scratch.specs.Inside.Printed.{lines_in}

-- What is kept is what the processes of the run see, and what its result adds up of the supersteps that ended by delivery.
pub record AreKept (r : Run) (ps : List ℕ) (vs : List ViewParts) (sums : Tally) : Type 0 where
  pub run : IsRun r
  pub processes : ps ≡ range_with_len 0 (length r.state.memories)
  pub views : vs ≡ open_views r
  pub g : sums.g ≡ r.g
  pub l : sums.l ≡ r.l
  pub lines : (p : ℕ) → lines_in sums.lines.items p ≡ lines_of_process (outcomes_of r.past) p
  pub costs : sums.costs ≡ map (cost_of_delivery r.g r.l) (outcomes_of r.past)

abbrev pub IsUnrecorded : Run → List ViewParts → Unrecorded → Type 0
IsUnrecorded r vs kept = AreKept r kept.processes.now vs kept.tally

-- What is kept of a run that is in this phase, and the outcomes of its last turns.
pub record IsUnrecordedIn (comes : Phase) (r : Run) (vs : List ViewParts) (kept : Unrecorded) (os : List OutcomeParts) : Type 0 where
  pub same : IsUnrecorded r vs kept
  pub phase : r.phase ≡ comes
  pub outcomes : r.outcomes ≡ os

-- What is kept of a run that has ended so, by its last turns or at the limit.
abbrev pub HasEnded : Option Status → Run → List ViewParts → Unrecorded → Type 0
HasEnded (Some status) r vs kept = IsUnrecordedIn (Ended status) r vs kept kept.taken.outcomes × (is_limit (Ended status) ≡ false)
HasEnded None r vs kept = IsUnrecordedIn (Ended Limit) r vs kept r.outcomes

-- A run whose turns are taken: they have ended it, or it goes on by its deliveries.
abbrev pub AreTaken : Bool → Run → List ViewParts → Unrecorded → Type 0
AreTaken true r vs kept = (is_turned r.phase ≡ false) × HasEnded kept.end r vs kept
AreTaken false r vs kept = (kept.end ≡ None) × IsUnrecordedIn Turned r vs kept kept.taken.outcomes
