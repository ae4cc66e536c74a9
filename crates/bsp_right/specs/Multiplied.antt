-- What a matrix by a vector computes (the claim of this profile's program of that name).
use Rattle.std.specs.Prelude.{◌≡◌, ◌≤◌, ◌+◌, ◌-◌, ◌*◌, ◌/◌, ◌%◌, ◌^◌, ℕ, if◌then◌else◌, List, [], ◌∷◌, All, Some, None, map, length, slice_get, slice_index, slice_index_or}
use Rattle.std.specs.List.{range_with_len}
use Rattle.bsp_model.specs.Limits.{most_line_words}
use Rattle.bsp_model.specs.declared.input.Input.{Input}
use Rattle.bsp_model.specs.declared.cost.CostRow.{CostRow}
use Rattle.bsp_model.specs.Input.{input_fault}
use Rattle.bsp_step.specs.ViewParts.{ViewParts}
use Rattle.bsp_step.specs.OutcomeParts.{OutcomeParts}
use Rattle.bsp_step.specs.Turn.{turn_of}
use Rattle.bsp_deliver.specs.Requests.{each_below}
use Rattle.bsp_programs.specs.MatVec.{block_start, columns, is_within, matvec_plan, product_start, vector_start}
use Rattle.bsp_run.specs.declared.result.Status.TheVariants.{Halted}
use Rattle.bsp_run.specs.Run.{Run}
use Rattle.bsp_run.specs.Result.{status_of, memories_of, lines_of, costs_of, total_of}
use Rattle.bsp_right.specs.Sums.{sum_before}

-- the turn of a product
abbrev pub matvec_turn : ViewParts → OutcomeParts
matvec_turn = turn_of (λ v. (matvec_plan v v.memory v.queue).acts) (λ v. (matvec_plan v v.memory v.queue).ending)

-- An input of a product: all processes name one number b of rows, no more than a line has words, each memory has room for the rows, the two vectors
-- and the product, and the limit leaves room for three supersteps.
pub record IsMatVecInput (input : Input) (b : ℕ) : Type 0 where
  pub lawful : input_fault input ≡ None
  pub rows : All (λ args. slice_get args 0 ≡ Some b) input.args
  pub few : b ≤ most_line_words
  pub words : All (λ memory. product_start (length input.mems) b + b ≤ length memory) input.mems
  pub room : 3 ≤ input.limit

-- The entry in row i and column j of the matrix: each process has b rows, one after the other from its word 0 on.
abbrev pub entry : Input → ℕ → ℕ → ℕ → ℕ
entry input b i j = slice_index (slice_index_or input.mems (i / b) []) (i % b * columns (length input.mems) b + j)

-- Word j of the vector: each process has a block of b words after its rows.
abbrev pub vector_word : Input → ℕ → ℕ → ℕ
vector_word input b j = slice_index (slice_index_or input.mems (j / b) []) (block_start (length input.mems) b + j % b)

-- Word i of the product: the sum of the products of entry and word, column by column, modulo 2^64.
abbrev pub product_word : Input → ℕ → ℕ → ℕ
product_word input b i = sum_before (λ j. entry input b i j * vector_word input b j) (columns (length input.mems) b) % 2 ^ 64

-- the b words of the product that belong to the rows of process p
abbrev pub own_product : Input → ℕ → ℕ → List ℕ
own_product input b p = map (product_word input b) (range_with_len (p * b) b)

-- Word a of process p at the end: one of the whole vector, one of the own words of the product, or as it was.
abbrev pub word_multiplied : Input → ℕ → ℕ → ℕ → ℕ
word_multiplied input b p a =
    if is_within (vector_start (length input.mems) b) (columns (length input.mems) b) a then vector_word input b (a - vector_start (length input.mems) b)
    else (if is_within (product_start (length input.mems) b) b a then product_word input b (p * b + (a - product_start (length input.mems) b))
    else slice_index (slice_index_or input.mems p []) a)

abbrev pub memory_multiplied : Input → ℕ → ℕ → List ℕ
memory_multiplied input b p = each_below (length (slice_index_or input.mems p [])) (word_multiplied input b p)

-- What the supersteps cost: in the second each process sends its block, with a tag of one word, to each other; in the last it multiplies and adds
-- for each entry of its rows.
abbrev pub costs_multiplied : ℕ → ℕ → ℕ → ℕ → List CostRow
costs_multiplied nprocs b g l =
    record { work = 0; h = 0; cost = l }
    ∷ record { work = 0; h = (nprocs - 1) * (b + 1); cost = (nprocs - 1) * (b + 1) * g + l }
    ∷ record { work = nprocs * b * b; h = 0; cost = nprocs * b * b }
    ∷ []

-- Every process ends with the whole vector and with its words of the product, and has printed these, as its only line.
pub record IsMultiplied (input : Input) (b : ℕ) (r : Run) : Type 0 where
  pub status : status_of r ≡ Halted
  pub memories : memories_of r ≡ each_below (length input.mems) (memory_multiplied input b)
  pub lines : lines_of r ≡ each_below (length input.mems) (λ p. own_product input b p ∷ [])
  pub costs : costs_of r ≡ costs_multiplied (length input.mems) b input.g input.l
  pub total : total_of (costs_of r) ≡ length input.mems * b * b + (length input.mems - 1) * (b + 1) * input.g + 2 * input.l

-- Where the input is that of a product, the matrix and the vector are multiplied.
abbrev pub Multiplies : Input → Run → Type 0
Multiplies input r = (b : ℕ) → IsMatVecInput input b → IsMultiplied input b r
