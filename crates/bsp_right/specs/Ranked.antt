-- What list ranking computes (the claim of this profile's program of that name).
use Rattle.std.specs.Prelude.{◌≡◌, ◌<◌, ◌≤◌, ◌+◌, ◌-◌, ◌*◌, ◌^◌, ◌==◌, ℕ, min, if◌then◌else◌, List, [], ◌∷◌, ◌++◌, All, None, drop, map, length, slice_index, slice_index_or}
use Rattle.std.specs.List.{range_with_len}
use Rattle.bsp_model.specs.declared.input.Input.{Input}
use Rattle.bsp_model.specs.declared.cost.CostRow.{CostRow}
use Rattle.bsp_model.specs.Input.{input_fault}
use Rattle.bsp_step.specs.ViewParts.{ViewParts}
use Rattle.bsp_step.specs.OutcomeParts.{OutcomeParts}
use Rattle.bsp_step.specs.Turn.{turn_of}
use Rattle.bsp_deliver.specs.Requests.{each_below}
use Rattle.bsp_programs.specs.Rank.{rank_plan}
use Rattle.bsp_run.specs.declared.result.Status.TheVariants.{Halted}
use Rattle.bsp_run.specs.Run.{Run}
use Rattle.bsp_run.specs.Result.{status_of, memories_of, lines_of, costs_of, total_of}
use Rattle.bsp_right.specs.Orders.{IsOrder}
use Rattle.bsp_right.specs.Summed.{adding_work}

-- the turn of list ranking
abbrev pub rank_turn : ViewParts → OutcomeParts
rank_turn = turn_of (λ v. (rank_plan v v.memory).acts) (λ v. (rank_plan v v.memory).ending)

-- a word of a process in the input
abbrev pub word_in : Input → ℕ → ℕ → ℕ
word_in input p a = slice_index (slice_index_or input.mems p []) a

-- A linked list, of which each process is one element: element d is the one with d successors. The last element is its own successor. The limit
-- leaves room for k + 2 supersteps, where k is the least number with 2^k not below the number of processes.
pub record IsListInput (input : Input) (element successors : ℕ → ℕ) (k : ℕ) : Type 0 where
  pub lawful : input_fault input ≡ None
  pub words : All (λ memory. 4 ≤ length memory) input.mems
  pub order : IsOrder (length input.mems) element successors
  -- word 0 is the number of the successor
  pub linked : (p : ℕ) → p < length input.mems → word_in input p 0 ≡ element (successors p - 1)
  -- word 1 is 1, and 0 for the last element
  pub marked : (p : ℕ) → p < length input.mems → word_in input p 1 ≡ min 1 (successors p)
  pub reaches : length input.mems ≤ 2 ^ k
  pub least : (j : ℕ) → j < k → 2 ^ j < length input.mems
  pub room : k + 2 ≤ input.limit

-- The memory of a process at the end: the number of the last element, how many successors the process has, and the two words that it received last.
-- A single process receives none.
abbrev pub memory_ranked : Input → (ℕ → ℕ) → (ℕ → ℕ) → ℕ → ℕ → List ℕ
memory_ranked input element successors k p =
    if k == 0 then slice_index_or input.mems p []
    else element 0 ∷ successors p ∷ element 0 ∷ (successors p - 2 ^ (k - 1)) ∷ drop 4 (slice_index_or input.mems p [])

-- What superstep s costs, from 1 to k: 2^(s - 1) elements ask the last one for two words, and no element is asked by more.
abbrev pub jumping_cost : ℕ → ℕ → ℕ → CostRow
jumping_cost g l s = record { work = adding_work s; h = 2 ^ s; cost = adding_work s + 2 ^ s * g + l }

-- What the supersteps cost: the first registers, k double the distance that is known, and the last adds and prints.
abbrev pub costs_ranked : ℕ → ℕ → ℕ → List CostRow
costs_ranked k g l =
    record { work = 0; h = 0; cost = l }
    ∷ map (jumping_cost g l) (range_with_len 1 k)
    ++ record { work = adding_work (k + 1); h = 0; cost = adding_work (k + 1) } ∷ []

-- Every process has printed the number of its successors, as its only line, and ends with it as its word 1.
pub record IsRanked (input : Input) (element successors : ℕ → ℕ) (k : ℕ) (r : Run) : Type 0 where
  pub status : status_of r ≡ Halted
  pub memories : memories_of r ≡ each_below (length input.mems) (memory_ranked input element successors k)
  pub lines : lines_of r ≡ each_below (length input.mems) (λ p. (successors p ∷ []) ∷ [])
  pub costs : costs_of r ≡ costs_ranked k input.g input.l
  pub total : total_of (costs_of r) ≡ (2 ^ (k + 1) - 2) * input.g + (k + 1) * input.l + k

-- Where the input is a linked list, its elements are ranked.
abbrev pub Ranks : Input → Run → Type 0
Ranks input r = (element successors : ℕ → ℕ) (k : ℕ) → IsListInput input element successors k → IsRanked input element successors k r
