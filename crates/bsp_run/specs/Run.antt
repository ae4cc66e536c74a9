-- Runs, superstep by superstep.
use Rattle.std.specs.Prelude.{Bool, true, false, ℕ, ◌+◌, zero, suc, ◌==◌, Option, None, Some, if◌then◌else◌, List, [], ◌∷◌, ◌++◌, map, length}
use Rattle.bsp_model.specs.declared.input.Input.{Input}
use Rattle.bsp_step.specs.ViewParts.{ViewParts}
use Rattle.bsp_step.specs.OutcomeParts.{OutcomeParts}
use Rattle.bsp_run.specs.declared.result.Status.{Status}
use Rattle.bsp_run.specs.declared.result.Status.TheVariants.{Halted, Limit, Faulted, SyncFaulted}
use Rattle.bsp_run.specs.declared.phase.Phase.{Phase}
use Rattle.bsp_run.specs.declared.phase.Phase.TheVariants.{Open, Turned, Ended}
use Rattle.bsp_run.specs.declared.superstep.Superstep.{Superstep}
use Rattle.bsp_run.specs.State.{State, first_state, next_state, views_of}
use Rattle.bsp_run.specs.Ending.{end_of}

-- A run so far: arguments, limit and prices of its input; the supersteps that ended by delivery; the state of the open superstep, of the one that
-- ended the run, or at the limit of the one after the last; the outcomes of that superstep's turns, once they are taken; and what comes next.
pub record Run : Type 0 where
  pub args : List (List ℕ)
  pub limit : ℕ
  pub g : ℕ
  pub l : ℕ
  pub past : List Superstep
  pub state : State
  pub outcomes : List OutcomeParts
  pub phase : Phase

-- A run with its first superstep open.
unfoldable pub start : Input → Run
start input =
    record {
      args = input.args;
      limit = input.limit;
      g = input.g;
      l = input.l;
      past = [];
      state = first_state input;
      outcomes = [];
      phase = Open;
    }

-- the views of the open superstep
abbrev pub open_views : Run → List ViewParts
open_views r = views_of r.args (length r.past) r.state

-- the run has ended at the limit
abbrev pub is_limit : Phase → Bool
is_limit (Ended Limit) = true
is_limit (Ended Halted) = false
is_limit (Ended (Faulted step faults)) = false
is_limit (Ended (SyncFaulted step fault)) = false
is_limit Open = false
is_limit Turned = false

abbrev pub phase_after : Option Status → Phase
phase_after None = Turned
phase_after (Some status) = Ended status

-- The run when the turns of its open superstep are taken.
unfoldable pub after_turns : Run → List OutcomeParts → Run
after_turns r os = record r { outcomes = os; phase = phase_after (end_of (length r.past) r.state.table os) }

-- The run when the deliveries of its open superstep are made. The limit is looked at after delivery (this profile).
unfoldable pub after_delivery : Run → Run
after_delivery r =
    record r {
      past = r.past ++ record { views = open_views r; outcomes = r.outcomes } ∷ [];
      state = next_state r.state r.outcomes;
      outcomes = [];
      phase = if (length r.past + 1) == r.limit then Ended Limit else Open;
    }

abbrev pub delivered_if : Phase → Run → Run
delivered_if Turned r = after_delivery r
delivered_if Open r = r
delivered_if (Ended status) r = r

abbrev pub advanced_if : (ViewParts → OutcomeParts) → Phase → Run → Run
advanced_if turn Open r = let t = after_turns r (map turn (open_views r)) in delivered_if t.phase t
advanced_if turn Turned r = r
advanced_if turn (Ended status) r = r

-- One superstep more, if the run has not ended: all turns are taken, and then the superstep ends (Valiant 1990).
unfoldable pub advance : (ViewParts → OutcomeParts) → Run → Run
advance turn r = advanced_if turn r.phase r

abbrev pub times : ℕ → (Run → Run) → Run → Run
times zero f r = r
times (suc n) f r = times n f (f r)

-- The run of an input: supersteps from the first state on, until one does not end by delivery, or the limit is reached.
unfoldable pub run : (ViewParts → OutcomeParts) → Input → Run
run turn input = times input.limit (advance turn) (start input)
