-- Collective calls (BSP collectives after Valiant 1990; by messages: this profile). Each first half is the acts of a process in one superstep; what came is
-- taken in the next.
use Rattle.std.specs.Prelude.{ℕ, List, [], ◌∷◌, ◌++◌, ◌+◌, ◌-◌, ◌*◌, ◌/◌, ◌==◌, if◌then◌else◌, nat_lt, take, drop, length, map, slice_index, sum}
use Rattle.std.specs.List.{flat_map, prefix_len, range_with_len}
use Rattle.bsp_model.specs.Limits.{most_line_words}
use Rattle.bsp_step.specs.ViewParts.{ViewParts}
use Rattle.bsp_step.specs.Act.{Act}
use Rattle.bsp_model.specs.declared.request.Message.{Message}
use Rattle.bsp_collectives.specs.Messages.{joined, moves, sends}

-- all processes
abbrev pub everyone : ViewParts → List ℕ
everyone v = range_with_len 0 v.nprocs

-- The words in blocks of so many words: those of block k. The last blocks may be shorter, or empty.
abbrev pub block : List ℕ → ℕ → ℕ → List ℕ
block words size k = take size (drop (k * size) words)

-- the least size with which so many words make a block for each process: their number by that of the processes, rounded up
abbrev pub block_size : ℕ → ℕ → ℕ
block_size count nprocs = (count + (nprocs - 1)) / nprocs

-- the words in lines, as many in each as a line has room for
abbrev pub lines : List ℕ → List (List ℕ)
lines words = map (block words most_line_words) (range_with_len 0 (block_size (length words) most_line_words))

-- what all processes printed, one line after the other
abbrev pub words_printed : List (List (List ℕ)) → List ℕ
words_printed printed = flat_map (λ lines. flat_map (λ line. line) lines) printed

-- how many words lead that are below a bound
abbrev pub lead : ℕ → List ℕ → ℕ
lead bound words = prefix_len (λ word. nat_lt word bound) words

-- The words in parts of these lengths, one after the other: those of part k. Where the words end, the last parts are shorter, or empty, and a part without
-- a length is empty.
abbrev pub part : List ℕ → List ℕ → ℕ → List ℕ
part words lengths k = take (slice_index lengths k) (drop (sum (take k lengths)) words)

-- All-gather: each process sends its words to all.
abbrev pub all_gather : ViewParts → List ℕ → List Act
all_gather v words = sends v (λ _. words) (everyone v)

-- Total exchange: each process sends block d of its words to process d.
abbrev pub exchange : ViewParts → List ℕ → ℕ → List Act
exchange v words size = sends v (block words size) (everyone v)

-- Total exchange of parts of any lengths: each process sends part d of its words to process d (MPI_Alltoallv of MPI 1.1).
abbrev pub exchange_parts : ViewParts → List ℕ → List ℕ → List Act
exchange_parts v words lengths = sends v (part words lengths) (everyone v)

-- Gather: each process sends its words to the root.
abbrev pub gather : ViewParts → ℕ → List ℕ → List Act
gather v root words = sends v (λ _. words) (root ∷ [])

-- Broadcast: the root sends its words to all.
abbrev pub broadcast : ViewParts → ℕ → List ℕ → List Act
broadcast v root words = if v.pid == root then all_gather v words else []

-- Scatter: the root sends block d of its words to process d.
abbrev pub scatter : ViewParts → ℕ → List ℕ → ℕ → List Act
scatter v root words size = if v.pid == root then exchange v words size else []

-- Broadcast in two supersteps: the root scatters its words; then each process sends the block that came, with this queue, to all.
abbrev pub spread : ViewParts → ℕ → List ℕ → List Act
spread v root words = scatter v root words (block_size (length words) v.nprocs)

abbrev pub forward : ViewParts → List Message → List Act
forward v queue = moves queue ++ all_gather v (joined queue)

-- Reduce: each process sends a word to the root.
abbrev pub reduce : ViewParts → ℕ → ℕ → List Act
reduce v root word = gather v root (word ∷ [])

-- All-reduce: each process sends a word to all.
abbrev pub all_reduce : ViewParts → ℕ → List Act
all_reduce v word = all_gather v (word ∷ [])

-- Inclusive scan: each process sends a word to itself and to all later ones.
abbrev pub scan : ViewParts → ℕ → List Act
scan v word = sends v (λ _. word ∷ []) (range_with_len v.pid (v.nprocs - v.pid))
