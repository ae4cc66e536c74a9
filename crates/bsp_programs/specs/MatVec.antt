-- A matrix by a vector: each process has b rows of the matrix and b words of the vector, and ends with b words of the product (this profile).
use Rattle.std.specs.Prelude.{ℕ, Bool, false, List, [], ◌∷◌, ◌++◌, Option, None, Some, ◌+◌, ◌-◌, ◌*◌, ◌%◌, ◌^◌, ◌==◌, ◌&&◌, ◌||◌, if◌then◌else◌, nat_lt, nat_le, slice_get, length, map, take, drop, sum_by}
use Rattle.std.specs.List.{range_with_len, zip}
use Rattle.bsp_model.specs.Limits.{most_line_words}
use Rattle.bsp_model.specs.declared.request.Message.{Message}
use Rattle.bsp_model.specs.declared.fault.End.TheVariants.{Sync, Halt, Abort}
use Rattle.bsp_step.specs.ViewParts.{ViewParts}
use Rattle.bsp_step.specs.Act.{Act, set_tagsize, send, move_into, charge, print}
use Rattle.bsp_step.specs.Blocks.{words_at, stores, stored}
use Rattle.bsp_step.specs.Plan.{Plan, does, after, given_argument, given_word}

-- how many columns the matrix has: b for each process
abbrev pub columns : ℕ → ℕ → ℕ
columns nprocs b = nprocs * b

-- The own block of the vector starts after the b rows, which start at word 0.
abbrev pub block_start : ℕ → ℕ → ℕ
block_start nprocs b = b * columns nprocs b

-- the whole vector starts after the own block
abbrev pub vector_start : ℕ → ℕ → ℕ
vector_start nprocs b = block_start nprocs b + b

-- the own words of the product start after the whole vector
abbrev pub product_start : ℕ → ℕ → ℕ
product_start nprocs b = vector_start nprocs b + columns nprocs b

-- Loads of which one finds no word end the turn by Abort(1).
abbrev pub given_words : Option (List ℕ) → (List ℕ → Plan) → Plan
given_words None plan = does [] (Abort 1)
given_words (Some words) plan = plan words

-- Superstep 0 finds out whether the last word that is needed is there, and chooses tags of one word.
abbrev pub matvec_checking : ℕ → ℕ → List ℕ → Plan
matvec_checking nprocs b memory =
    if product_start nprocs b + b == 0 then does (set_tagsize 1 ∷ []) Sync
    else given_word (slice_get memory (product_start nprocs b + b - 1)) (λ last. does (set_tagsize 1 ∷ []) Sync)

-- a message to each of these processes, with the own number as its tag
abbrev pub sends_to_all : ℕ → List ℕ → List ℕ → List Act
sends_to_all own words pids = map (λ pid. send pid (own ∷ []) words) pids

-- Superstep 1 sends the own block to every process, the own one too.
abbrev pub matvec_sending : ℕ → ℕ → ℕ → List ℕ → Plan
matvec_sending nprocs pid b memory =
    given_words (words_at memory (block_start nprocs b) b) (λ block. does (sends_to_all pid block (range_with_len 0 nprocs)) Sync)

-- the sum of the products of the words side by side, modulo 2^64
abbrev pub inner_product : List ℕ → List ℕ → ℕ
inner_product row vector = sum_by (λ pair. pair.0 * pair.1) (zip row vector) % 2 ^ 64

-- the inner product of each of the b rows and the vector
abbrev pub product_of : ℕ → ℕ → List ℕ → List ℕ → List ℕ
product_of b n matrix vector = map (λ i. inner_product (take n (drop (i * n) matrix)) vector) (range_with_len 0 b)

-- the product is stored, charged for and printed as one line
abbrev pub matvec_answering : ℕ → ℕ → List ℕ → Plan
matvec_answering nprocs b product =
    does (stores (product_start nprocs b) product ++ charge (block_start nprocs b) ∷ print product ∷ []) Halt

-- the rows and the whole vector are loaded and multiplied
abbrev pub matvec_multiplying : ℕ → ℕ → List ℕ → Plan
matvec_multiplying nprocs b memory =
    given_words (words_at memory 0 (block_start nprocs b)) (λ matrix.
    given_words (words_at memory (vector_start nprocs b) (columns nprocs b)) (λ vector.
    matvec_answering nprocs b (product_of b (columns nprocs b) matrix vector)))

-- the number that a tag begins with, if it is that of a process
abbrev pub number_in : ℕ → List ℕ → Option ℕ
number_in nprocs [] = None
number_in nprocs (j ∷ others) = if nat_lt j nprocs then Some j else None

-- the process whose block a message is: its payload has b words, and its tag begins with that process's number
abbrev pub sender_of : ℕ → ℕ → Message → Option ℕ
sender_of nprocs b m = if length m.words == b then number_in nprocs m.tag else None

-- A message that is no process's block ends the turn by Abort(3).
abbrev pub given_sender : Option ℕ → (ℕ → Plan) → Plan
given_sender None plan = does [] (Abort 3)
given_sender (Some j) plan = plan j

-- Each later superstep takes the messages, one by one, and stores each one's words at its sender's place in the whole vector. Then it multiplies.
abbrev pub matvec_receiving : ℕ → ℕ → List ℕ → List Message → Plan
matvec_receiving nprocs b memory [] = matvec_multiplying nprocs b memory
matvec_receiving nprocs b memory (m ∷ later) =
    given_sender (sender_of nprocs b m) (λ j.
    after (move_into b ∷ stores (vector_start nprocs b + j * b) m.words)
    (matvec_receiving nprocs b (stored memory (vector_start nprocs b + j * b) m.words) later))

-- the turn, where a line has room for b words
abbrev pub matvec_working : ViewParts → List ℕ → List Message → ℕ → Plan
matvec_working v memory queue b =
    if v.step == 0 then matvec_checking v.nprocs b memory
    else (if v.step == 1 then matvec_sending v.nprocs v.pid b memory else matvec_receiving v.nprocs b memory queue)

-- Argument 0 is b. A b that is more than the words of a line ends the turn by Abort(2) in every superstep.
abbrev pub matvec_plan : ViewParts → List ℕ → List Message → Plan
matvec_plan v memory queue =
    given_argument (slice_get v.args 0) (λ b. if nat_lt most_line_words b then does [] (Abort 2) else matvec_working v memory queue b)

-- whether an address is one of len addresses from start on
abbrev pub is_within : ℕ → ℕ → ℕ → Bool
is_within start len address = nat_le start address && nat_lt address (start + len)

abbrev pub matvec_looks_with : ViewParts → Option ℕ → ℕ → Bool
matvec_looks_with v None address = false
matvec_looks_with v (Some b) address =
    if nat_lt most_line_words b then false
    else (if v.step == 0 then false
    else (if v.step == 1 then is_within (block_start v.nprocs b) b address
    else nat_lt address (block_start v.nprocs b) || is_within (vector_start v.nprocs b) (columns v.nprocs b) address))

-- It looks at the own block in superstep 1, and at the matrix and the whole vector in each later superstep.
abbrev pub matvec_looks : ViewParts → ℕ → Bool
matvec_looks v address = matvec_looks_with v (slice_get v.args 0) address
