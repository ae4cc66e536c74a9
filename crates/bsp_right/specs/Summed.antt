-- What prefix sums compute (the claim of this profile's program of that name).
use Rattle.std.specs.Prelude.{◌≡◌, ◌<◌, ◌≤◌, ◌+◌, ◌-◌, ◌*◌, ◌^◌, ◌%◌, ◌==◌, ℕ, zero, suc, nat_le, if◌then◌else◌, List, [], ◌∷◌, ◌++◌, All, None, map, length, slice_index, slice_index_or, slice_set}
use Rattle.std.specs.List.{range_with_len}
use Rattle.bsp_model.specs.declared.input.Input.{Input}
use Rattle.bsp_model.specs.declared.cost.CostRow.{CostRow}
use Rattle.bsp_model.specs.Input.{input_fault}
use Rattle.bsp_step.specs.ViewParts.{ViewParts}
use Rattle.bsp_step.specs.OutcomeParts.{OutcomeParts}
use Rattle.bsp_step.specs.Turn.{turn_of}
use Rattle.bsp_deliver.specs.Requests.{each_below}
use Rattle.bsp_programs.specs.Prefix.{prefix_plan}
use Rattle.bsp_run.specs.declared.result.Status.TheVariants.{Halted}
use Rattle.bsp_run.specs.Run.{Run}
use Rattle.bsp_run.specs.Result.{status_of, memories_of, lines_of, costs_of, total_of}
use Rattle.bsp_right.specs.Sums.{sum_before}

-- the turn of prefix sums
abbrev pub prefix_turn : ViewParts → OutcomeParts
prefix_turn = turn_of (λ v. (prefix_plan v v.memory).acts) (λ v. (prefix_plan v v.memory).ending)

-- An input of prefix sums, where k is the least number with 2^k not below the number of processes: every process has two words, and the limit
-- leaves room for k + 2 supersteps.
pub record IsPrefixInput (input : Input) (k : ℕ) : Type 0 where
  pub lawful : input_fault input ≡ None
  pub words : All (λ memory. 2 ≤ length memory) input.mems
  pub reaches : length input.mems ≤ 2 ^ k
  pub least : (j : ℕ) → j < k → 2 ^ j < length input.mems
  pub room : k + 2 ≤ input.limit

-- word 0 of a process in the input
abbrev pub word_of_process : Input → ℕ → ℕ
word_of_process input p = slice_index (slice_index_or input.mems p []) 0

-- The sum of the words of processes 0 to p, modulo 2^64.
abbrev pub prefix_sum : Input → ℕ → ℕ
prefix_sum input p = sum_before (word_of_process input) (p + 1) % 2 ^ 64

-- the greatest of the first k powers of two that is not above p; 0 where there is none
abbrev pub reach : ℕ → ℕ → ℕ
reach zero p = 0
reach (suc k) p = if nat_le (2 ^ k) p then 2 ^ k else reach k p

-- The word 1 of a process at the end: the prefix sum of the process that far before it. To process 0 no word is put.
abbrev pub word_received : Input → ℕ → ℕ → ℕ
word_received input k p =
    if p == 0 then slice_index (slice_index_or input.mems p []) 1 else prefix_sum input (p - reach k p)

-- The memory of a process at the end: its own, with the word that it received as word 1 and its prefix sum as word 0.
abbrev pub memory_summed : Input → ℕ → ℕ → List ℕ
memory_summed input k p = slice_set (slice_set (slice_index_or input.mems p []) 1 (word_received input k p)) 0 (prefix_sum input p)

-- the work of superstep s: from the second on some process adds
abbrev pub adding_work : ℕ → ℕ
adding_work s = if nat_le 2 s then 1 else 0

-- What superstep s costs, from 1 to k: no process sends or receives more than one word.
abbrev pub doubling_cost : ℕ → ℕ → ℕ → CostRow
doubling_cost g l s = record { work = adding_work s; h = 1; cost = adding_work s + g + l }

-- What the supersteps cost: the first registers, k double the distance that the sums reach, and the last adds and prints.
abbrev pub costs_summed : ℕ → ℕ → ℕ → List CostRow
costs_summed k g l =
    record { work = 0; h = 0; cost = l }
    ∷ map (doubling_cost g l) (range_with_len 1 k)
    ++ record { work = adding_work (k + 1); h = 0; cost = adding_work (k + 1) } ∷ []

-- Every process ends with its prefix sum as its word 0, and has printed it once, as its only line.
pub record IsSummed (input : Input) (k : ℕ) (r : Run) : Type 0 where
  pub status : status_of r ≡ Halted
  pub memories : memories_of r ≡ each_below (length input.mems) (memory_summed input k)
  pub lines : lines_of r ≡ each_below (length input.mems) (λ p. (prefix_sum input p ∷ []) ∷ [])
  pub costs : costs_of r ≡ costs_summed k input.g input.l
  pub total : total_of (costs_of r) ≡ k * (input.g + input.l + 1) + input.l

-- Where the input is that of prefix sums, its words are summed.
abbrev pub Sums : Input → Run → Type 0
Sums input r = (k : ℕ) → IsPrefixInput input k → IsSummed input k r
