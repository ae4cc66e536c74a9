-- The record of a run, superstep by superstep.
use Rattle.std.specs.Prelude.{Bool, true, false, ℕ, ◌-◌, not, if◌then◌else◌, List, [], ◌∷◌, ◌++◌, map, length, slice_index_or}
use Rattle.bsp_step.specs.OutcomeParts.{OutcomeParts}
use Rattle.bsp_run.specs.declared.phase.Phase.{Phase}
use Rattle.bsp_run.specs.declared.phase.Phase.TheVariants.{Open, Turned, Ended}
use Rattle.bsp_run.specs.declared.superstep.Superstep.{Superstep}
use Rattle.bsp_run.specs.Run.{Run, open_views, is_limit}

-- a superstep that there is not
abbrev pub no_superstep : Superstep
no_superstep = record { views = []; outcomes = [] }

-- superstep s of these; one without views and outcomes, where there is none
abbrev pub superstep_at : List Superstep → ℕ → Superstep
superstep_at supersteps s = slice_index_or supersteps s no_superstep

-- the outcomes of these supersteps, by superstep
abbrev pub outcomes_of : List Superstep → List (List OutcomeParts)
outcomes_of supersteps = map (λ s. s.outcomes) supersteps

-- The superstep that is open, or that ended the run; at the limit the one after the last.
abbrev pub open_superstep : Run → Superstep
open_superstep r = record { views = open_views r; outcomes = r.outcomes }

-- the turns of the superstep that is open, or that ended the run, were taken
abbrev pub has_turns : Phase → Bool
has_turns Open = false
has_turns Turned = true
has_turns (Ended status) = not (is_limit (Ended status))

-- that superstep, if its turns were taken
abbrev pub last_superstep : Run → List Superstep
last_superstep r = if has_turns r.phase then open_superstep r ∷ [] else []

-- The supersteps whose turns were taken, from superstep 0 on.
abbrev pub supersteps_of : Run → List Superstep
supersteps_of r = r.past ++ last_superstep r

-- The supersteps that were opened: also one whose turns were not taken.
abbrev pub supersteps_opened : Run → List Superstep
supersteps_opened r = r.past ++ open_superstep r ∷ []

-- The superstep that a reader sees while the run is recorded: the open one; once the run has ended, the last one, which at the limit ended by delivery.
abbrev pub superstep_shown : Run → Superstep
superstep_shown r = if is_limit r.phase then superstep_at r.past (length r.past - 1) else open_superstep r
