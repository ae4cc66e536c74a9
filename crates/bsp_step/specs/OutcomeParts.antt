-- What a turn leaves.
use Rattle.std.specs.Prelude.{ℕ, List, [], slice_index_or, Option, None, Some, ◌≤◌, ◌+◌, ◌≡◌, length, All}
use Rattle.bsp_model.specs.Limits.{most_lines, most_line_words, most_memory_words, most_payload_words, most_requests, most_tag_words, most_work}
use Rattle.bsp_model.specs.declared.request.Put.{Put}
use Rattle.bsp_model.specs.declared.request.Get.{Get}
use Rattle.bsp_model.specs.declared.request.Send.{Send}
use Rattle.bsp_model.specs.declared.request.Store.{Store}
use Rattle.bsp_model.specs.declared.fault.Fault.{Fault}
use Rattle.bsp_table.specs.declared.area.Area.{Area}
use Rattle.bsp_step.specs.declared.outcome.Ended.{Ended}
use Rattle.bsp_step.specs.declared.outcome.Ended.TheVariants.{Halt}
use Rattle.bsp_step.specs.ViewParts.{ViewParts}
use Rattle.bsp_step.specs.Requests.{AreIssued}

-- The parts of an outcome.
pub record OutcomeParts : Type 0 where
  pub fault : Option Fault
  pub ended : Ended
  pub memory : List ℕ
  pub stores : List Store
  pub puts : List Put
  pub gets : List Get
  pub sends : List Send
  pub pops : List ℕ
  pub pushes : List Area
  pub tag : Option ℕ
  pub lines : List (List ℕ)
  pub work : ℕ

-- the outcome of a process that there is not
abbrev pub no_outcome : OutcomeParts
no_outcome =
    record {
      fault = None;
      ended = Halt;
      memory = [];
      stores = [];
      puts = [];
      gets = [];
      sends = [];
      pops = [];
      pushes = [];
      tag = None;
      lines = [];
      work = 0;
    }

-- the outcome of a process
abbrev pub outcome_of : List OutcomeParts → ℕ → OutcomeParts
outcome_of os p = slice_index_or os p no_outcome

-- a turn with a fault ends by halt
abbrev pub IsHaltOnFault : Option Fault → Ended → Type 0
IsHaltOnFault None ended = Unit {0}
IsHaltOnFault (Some f) ended = ended ≡ Halt

-- a message within the limits
pub record IsShortSend (m : Send) : Type 0 where
  pub tag : length m.tag ≤ most_tag_words
  pub words : length m.words ≤ most_payload_words

pub record AreShortSends (sends : List Send) : Type 0 where
  pub each : All IsShortSend sends

-- lines within the limits
pub record AreLines (lines : List (List ℕ)) : Type 0 where
  pub few : length lines ≤ most_lines
  pub short : All (λ line. length line ≤ most_line_words) lines

-- a choice within the limit, or none
abbrev pub IsTagChoice : Option ℕ → Type 0
IsTagChoice None = Unit {0}
IsTagChoice (Some n) = n ≤ most_tag_words

-- The limits that every outcome keeps (this profile).
pub record IsOutcome (o : OutcomeParts) : Type 0 where
  pub halts : IsHaltOnFault o.fault o.ended
  pub short_memory : length o.memory ≤ most_memory_words
  pub few_requests : length o.puts + length o.gets + length o.sends + length o.pops + length o.pushes ≤ most_requests
  pub sends : AreShortSends o.sends
  pub tag : IsTagChoice o.tag
  pub lines : AreLines o.lines
  pub little_work : o.work ≤ most_work

-- What an outcome of a view's turn keeps: a memory of the view's length, and requests inside the areas of the view's table (this profile).
pub record IsOutcomeOf (v : ViewParts) (o : OutcomeParts) : Type 0 where
  pub memory : length o.memory ≡ length v.memory
  pub issued : AreIssued v o.puts o.gets o.sends o.pops o.pushes
