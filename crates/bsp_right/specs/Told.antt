-- What a broadcast computes (the claim of this profile's program of that name).
use Rattle.std.specs.Prelude.{◌≡◌, ◌<◌, ◌≤◌, ◌+◌, ◌-◌, ◌*◌, ℕ, List, [], ◌∷◌, All, Some, None, map, length, slice_get, slice_set, slice_index, slice_index_or}
use Rattle.bsp_model.specs.declared.input.Input.{Input}
use Rattle.bsp_model.specs.declared.cost.CostRow.{CostRow}
use Rattle.bsp_model.specs.Input.{input_fault}
use Rattle.bsp_step.specs.ViewParts.{ViewParts}
use Rattle.bsp_step.specs.OutcomeParts.{OutcomeParts}
use Rattle.bsp_step.specs.Turn.{turn_of}
use Rattle.bsp_programs.specs.Broadcast.{broadcast_plan}
use Rattle.bsp_run.specs.declared.result.Status.TheVariants.{Halted}
use Rattle.bsp_run.specs.Run.{Run}
use Rattle.bsp_run.specs.Result.{status_of, memories_of, lines_of, costs_of, total_of}

-- the turn of a broadcast
abbrev pub broadcast_turn : ViewParts → OutcomeParts
broadcast_turn = turn_of (λ v. (broadcast_plan v v.memory).acts) (λ v. (broadcast_plan v v.memory).ending)

-- An input of a broadcast: all processes name one root, each has a word, and the limit leaves room for three supersteps.
pub record IsBroadcastInput (input : Input) (root : ℕ) : Type 0 where
  pub lawful : input_fault input ≡ None
  pub known : root < length input.mems
  pub roots : All (λ args. slice_get args 0 ≡ Some root) input.args
  pub words : All (λ memory. 1 ≤ length memory) input.mems
  pub room : 3 ≤ input.limit

-- the word that the root tells
abbrev pub word_told : Input → ℕ → ℕ
word_told input root = slice_index (slice_index_or input.mems root []) 0

-- What the supersteps cost: in the second the root sends its word to each other process.
abbrev pub costs_told : ℕ → ℕ → ℕ → List CostRow
costs_told nprocs g l =
    record { work = 0; h = 0; cost = l }
    ∷ record { work = 0; h = nprocs - 1; cost = (nprocs - 1) * g + l }
    ∷ record { work = 0; h = 0; cost = 0 }
    ∷ []

-- Every process ends with the root's word as its word 0, and has printed it once, as its only line.
pub record IsTold (input : Input) (root : ℕ) (r : Run) : Type 0 where
  pub status : status_of r ≡ Halted
  pub memories : memories_of r ≡ map (λ memory. slice_set memory 0 (word_told input root)) input.mems
  pub lines : lines_of r ≡ map (λ memory. (word_told input root ∷ []) ∷ []) input.mems
  pub costs : costs_of r ≡ costs_told (length input.mems) input.g input.l
  pub total : total_of (costs_of r) ≡ (length input.mems - 1) * input.g + 2 * input.l

-- Where the input is that of a broadcast, its root's word is told.
abbrev pub Tells : Input → Run → Type 0
Tells input r = (root : ℕ) → IsBroadcastInput input root → IsTold input root r
