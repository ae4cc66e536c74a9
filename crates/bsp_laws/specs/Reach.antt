-- How far an edit can reach: only through deliveries, one superstep after the other.
use Rattle.std.specs.Prelude.{◌≡◌, ◌≢◌, ◌<◌, ◌≤◌, ◌⊎◌, ◌+◌, ℕ, zero, suc, Bool, List, [], Option, None, Some, All, map, length, slice_index_or, Contains}
use Rattle.bsp_model.specs.declared.input.Input.{Input}
use Rattle.bsp_model.specs.Input.{input_fault}
use Rattle.bsp_step.specs.ViewParts.{ViewParts}
use Rattle.bsp_step.specs.OutcomeParts.{OutcomeParts, outcome_of}
use Rattle.bsp_deliver.specs.Delivery.{delivery_parts}
use Rattle.bsp_run.specs.State.{pops_of, pushes_of}
use Rattle.bsp_run.specs.Run.{run}
use Rattle.bsp_run.specs.Supersteps.{supersteps_of}
use Rattle.bsp_run.specs.Law.{state_at, views_in, outcomes_in}
use Rattle.bsp_run.specs.Condition.{no_view}
use Rattle.bsp_incr.specs.declared.edit.Edit.{Edit}
use Rattle.bsp_incr.specs.declared.reply.Update.{Update}
use Rattle.bsp_incr.specs.Edits.{refusal_of, edited}
use Rattle.bsp_incr.specs.Exact.{IsExact}

-- Process q puts and sends nothing to d, and d gets nothing from q.
pub record DoesNotReach (os : List OutcomeParts) (q d : ℕ) : Type 0 where
  pub puts : All (λ p. p.target ≢ d) (outcome_of os q).puts
  pub sends : All (λ m. m.target ≢ d) (outcome_of os q).sends
  pub gets : All (λ g. g.owner ≢ q) (outcome_of os d).gets

-- In superstep s, neither in the one run nor in the other.
pub record DoesNotReachIn (turn : ViewParts → OutcomeParts) (i j : Input) (s q d : ℕ) : Type 0 where
  pub before : DoesNotReach (outcomes_in turn i s) q d
  pub after : DoesNotReach (outcomes_in turn j s) q d

-- Process d begins with the same memory and the same arguments.
pub record BeginsAlike (i j : Input) (d : ℕ) : Type 0 where
  pub memory : slice_index_or i.mems d [] ≡ slice_index_or j.mems d []
  pub args : slice_index_or i.args d [] ≡ slice_index_or j.args d []

-- In superstep s process d is out of reach of what the inputs differ in: it was so in the superstep before, and each process that was not did not reach it there.
abbrev pub IsOutOfReach : (ViewParts → OutcomeParts) → Input → Input → ℕ → ℕ → Type 0
IsOutOfReach turn i j zero d = BeginsAlike i j d
IsOutOfReach turn i j (suc s) d =
    IsOutOfReach turn i j s d × ((q : ℕ) → q < length i.mems → IsOutOfReach turn i j s q ⊎ DoesNotReachIn turn i j s q d)

abbrev pub tags_of : List OutcomeParts → List (Option ℕ)
tags_of os = map (λ o. o.tag) os

-- Up to superstep s both runs have the same table and the same tag size: these are in the view of every process.
pub record HaveSameTables (turn : ViewParts → OutcomeParts) (i j : Input) (s : ℕ) : Type 0 where
  pub table : (k : ℕ) → k ≤ s → (state_at turn i k).table ≡ (state_at turn j k).table
  pub tag_size : (k : ℕ) → k ≤ s → (state_at turn i k).tag_size ≡ (state_at turn j k).tag_size

-- A process that is out of reach sees what it saw.
abbrev pub SeesTheSame : Type 0
SeesTheSame =
    (turn : ViewParts → OutcomeParts) (i j : Input) → length i.mems ≡ length j.mems → (s d : ℕ) → d < length i.mems → HaveSameTables turn i j s → IsOutOfReach turn i j s d
    → slice_index_or (views_in turn i s) d no_view ≡ slice_index_or (views_in turn j s) d no_view

-- So no turn of it is taken again, in a superstep that the previous run has.
pub record IsWithinReach (turn : ViewParts → OutcomeParts) (i j : Input) (update : Update) : Type 0 where
  pub far : (s d : ℕ) → s < length (supersteps_of (run turn i)) → d < length i.mems → HaveSameTables turn i j s → IsOutOfReach turn i j s d → Contains update.executed (record { step = s; pid = d }) → ⊥

abbrev pub UpdatesAreWithinReach : Type 0
UpdatesAreWithinReach =
    (turn : ViewParts → OutcomeParts) (looks : ViewParts → ℕ → Bool) (i : Input) (edits : List Edit) (update : Update) → input_fault i ≡ None → refusal_of i edits ≡ None
    → IsExact looks (Some (run turn i)) (run turn (edited i edits)) update → IsWithinReach turn i (edited i edits) update

-- In superstep s each process registers the same in both runs: its pops, its pushes and its choice of the tag size.
pub record RegistersTheSame (turn : ViewParts → OutcomeParts) (i j : Input) (s : ℕ) : Type 0 where
  pub pops : pops_of (outcomes_in turn i s) ≡ pops_of (outcomes_in turn j s)
  pub pushes : pushes_of (outcomes_in turn i s) ≡ pushes_of (outcomes_in turn j s)
  pub tags : tags_of (outcomes_in turn i s) ≡ tags_of (outcomes_in turn j s)

-- The tables and the tag sizes are the same where all that was registered before is.
abbrev pub TablesStay : Type 0
TablesStay = (turn : ViewParts → OutcomeParts) (i j : Input) (s : ℕ) → ((k : ℕ) → k < s → RegistersTheSame turn i j k) → HaveSameTables turn i j s

-- Process d has the arguments that it had, the same was delivered to it in superstep s, and after it the table and the tag size are the same.
pub record HasNoCause (turn : ViewParts → OutcomeParts) (i j : Input) (s d : ℕ) : Type 0 where
  pub args : slice_index_or i.args d [] ≡ slice_index_or j.args d []
  pub delivery : delivery_parts (outcomes_in turn i s) d ≡ delivery_parts (outcomes_in turn j s) d
  pub table : (state_at turn i (s + 1)).table ≡ (state_at turn j (s + 1)).table
  pub tag_size : (state_at turn i (s + 1)).tag_size ≡ (state_at turn j (s + 1)).tag_size

-- Such a process takes no turn again in superstep s + 1, where the previous run has that superstep.
abbrev pub NoTurnWithoutACause : Type 0
NoTurnWithoutACause =
    (turn : ViewParts → OutcomeParts) (looks : ViewParts → ℕ → Bool) (i : Input) (edits : List Edit) (update : Update) → input_fault i ≡ None → refusal_of i edits ≡ None
    → IsExact looks (Some (run turn i)) (run turn (edited i edits)) update
    → (s d : ℕ) → s + 1 < length (supersteps_of (run turn i)) → HasNoCause turn i (edited i edits) s d → Contains update.executed (record { step = s + 1; pid = d }) → ⊥
