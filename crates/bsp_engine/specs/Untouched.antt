-- Which processes an update touches, and that of all others nothing is another where both runs end alike (this profile).
use Rattle.std.specs.Prelude.{◌≡◌, ◌<◌, ℕ, Bool, true, false, List, ◌++◌, ◌==◌, ◌&&◌, not, map, length, slice_get, None, Some, Contains, if◌then◌else◌}
use Rattle.std.specs.List.{flat_map}
use Rattle.bsp_model.specs.declared.input.Input.{Input}
use Rattle.bsp_model.specs.Input.{input_fault}
use Rattle.bsp_step.specs.ViewParts.{ViewParts}
use Rattle.bsp_step.specs.OutcomeParts.{OutcomeParts}
use Rattle.bsp_run.specs.declared.result.RunResult.{RunResult}
use Rattle.bsp_run.specs.declared.result.Status.{Status}
use Rattle.bsp_run.specs.declared.result.Status.TheVariants.{Halted, Limit, Faulted, SyncFaulted}
use Rattle.bsp_run.specs.Run.{Run}
use Rattle.bsp_run.specs.Law.{IsBspRun}
use Rattle.bsp_run.specs.Result.{result_of}
use Rattle.bsp_incr.specs.declared.edit.Edit.{Edit}
use Rattle.bsp_incr.specs.declared.reply.Update.{Update}
use Rattle.bsp_incr.specs.Edits.{refusal_of, edited}
use Rattle.bsp_incr.specs.Exact.{IsExact}
use Rattle.bsp_incr.specs.Named.{word_pids}

-- The processes of which the batch changes a word, that took a turn again, or to which something was delivered again.
abbrev pub touched : List Edit → Update → List ℕ
touched batch update =
    flat_map word_pids batch ++ map (λ q. q.pid) update.executed ++ map (λ q. q.pid) update.redelivered

abbrev pub at_limit : Status → Bool
at_limit Halted = false
at_limit Limit = true
at_limit (Faulted step faults) = false
at_limit (SyncFaulted step fault) = false

-- The runs have as many supersteps, and both or neither ended at the limit.
abbrev pub end_alike : RunResult → RunResult → Bool
end_alike old new =
    (length old.costs == length new.costs)
    && (if at_limit old.status then at_limit new.status else not (at_limit new.status))

-- What process p has at the end, and what it printed.
pub record HasTheSame (old new : RunResult) (p : ℕ) : Type 0 where
  pub memory : slice_get old.memories p ≡ slice_get new.memories p
  pub lines : slice_get old.lines p ≡ slice_get new.lines p

-- A run before a batch, the run after it, and what was done for that.
pub record AreRunsAround (turn : ViewParts → OutcomeParts) (looks : ViewParts → ℕ → Bool) (input : Input) (batch : List Edit) (update : Update) (old new : Run) : Type 0 where
  pub lawful : input_fault input ≡ None
  pub accepted : refusal_of input batch ≡ None
  pub before : IsBspRun turn input old
  pub after : IsBspRun turn (edited input batch) new
  pub exact : IsExact looks (Some old) new update

-- Where two such runs end alike, a process that the update does not touch has the same.
abbrev pub UntouchedProcessesStay : Type 0
UntouchedProcessesStay =
    (turn : ViewParts → OutcomeParts) (looks : ViewParts → ℕ → Bool) (input : Input) (batch : List Edit) (update : Update) (old new : Run) → AreRunsAround turn looks input batch update old new
    → end_alike (result_of old) (result_of new) ≡ true → (p : ℕ) → p < length input.mems → (Contains (touched batch update) p → ⊥) → HasTheSame (result_of old) (result_of new) p
