-- What is known of the previous run: what the private functions of this crate ask and promise.
use Rattle.std.specs.Prelude.{◌≡◌, ℕ, ◌+◌, List, [], Option, None, Some, length, nat_lt, if◌then◌else◌, slice_index_or}
use Rattle.std.specs.Option.{ForSome}
use Rattle.bsp_model.specs.declared.input.Input.{Input}
use Rattle.bsp_model.specs.Input.{input_fault}
use Rattle.bsp_step.specs.ViewParts.{ViewParts}
use Rattle.bsp_step.specs.OutcomeParts.{OutcomeParts}
use Rattle.bsp_run.specs.Run.{Run}
use Rattle.bsp_run.specs.Supersteps.{superstep_at, supersteps_opened}
use Rattle.bsp_run.specs.Condition.{no_view}
use Rattle.bsp_run.specs.Law.{IsBspRun}
use Rattle.bsp_incr.specs.declared.edit.Edit.{Edit}
use Rattle.bsp_incr.specs.Edits.{edited}
use Rattle.bsp_incr.specs.Exact.{supersteps_before, delivered_before}

-- the superstep that the previous run took under this number, and the outcomes of the one that it delivered
abbrev pub views_before : Option Run → ℕ → List ViewParts
views_before old s = (superstep_at (supersteps_before old) s).views

abbrev pub outcomes_before : Option Run → ℕ → List OutcomeParts
outcomes_before old s = (superstep_at (supersteps_before old) s).outcomes

abbrev pub delivered_outcomes : Option Run → ℕ → List OutcomeParts
delivered_outcomes old s = (superstep_at (delivered_before old) s).outcomes

-- these outcomes; none where there is no such list
abbrev pub outcomes_if_any : Option (List OutcomeParts) → List OutcomeParts
outcomes_if_any None = []
outcomes_if_any (Some os) = os

-- the views after the delivery of superstep s; none where there was no such delivery
abbrev pub views_after : Option Run → ℕ → List ViewParts
views_after None s = []
views_after (Some r) s = if nat_lt s (length r.past) then (superstep_at (supersteps_opened r) (s + 1)).views else []

-- what the processes saw in superstep 0 of the previous run, and what process p saw
abbrev pub first_views_before : Run → List ViewParts
first_views_before r = (superstep_at (supersteps_opened r) 0).views

abbrev pub first_view_before : Run → ℕ → ViewParts
first_view_before r p = slice_index_or (first_views_before r) p no_view

-- The previous run is that of a lawful input, of which this stands.
pub record IsRunBefore (turn : ViewParts → OutcomeParts) (Stands : Input → Type 0) (r : Run) : Type 0 where
  pub input_before : Input
  pub lawful : input_fault input_before ≡ None
  pub law : IsBspRun turn input_before r
  pub stands : Stands input_before

-- the previous run, if there was one, is that of an input which has as many processes as the new one
abbrev pub IsBefore : (ViewParts → OutcomeParts) → Input → Option Run → Type 0
IsBefore turn input None = Unit {0}
IsBefore turn input (Some r) = IsRunBefore turn (λ before. length before.mems ≡ length input.mems) r

-- the previous run is that of an input of which these edits make the new one
abbrev pub IsBeforeEdits : (ViewParts → OutcomeParts) → List Edit → Input → Run → Type 0
IsBeforeEdits turn edits input r = IsRunBefore turn (λ before. input ≡ edited before edits) r

-- a process has the arguments that it had in the previous run, if there was one
abbrev pub HasSameArgs : Option Run → Input → ℕ → Type 0
HasSameArgs old input p = ForSome old (λ r. (first_view_before r p).args ≡ slice_index_or input.args p [])

-- a process has other arguments than in the previous run, if there was one
abbrev pub HasOtherArgs : Option Run → Input → ℕ → Type 0
HasOtherArgs old input p = ForSome old (λ r. (first_view_before r p).args ≡ slice_index_or input.args p [] → ⊥)

-- a process has the memory that it had in the previous run, if there was one
abbrev pub HasSameMemory : Option Run → Input → ℕ → Type 0
HasSameMemory old input p = ForSome old (λ r. (first_view_before r p).memory ≡ slice_index_or input.mems p [])

-- a process has another memory than in the previous run, if there was one
abbrev pub HasOtherMemory : Option Run → Input → ℕ → Type 0
HasOtherMemory old input p = ForSome old (λ r. (first_view_before r p).memory ≡ slice_index_or input.mems p [] → ⊥)
