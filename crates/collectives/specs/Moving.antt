-- Programs that make a collective call by which words are moved (this profile).
use Rattle.std.specs.Prelude.{ℕ, Bool, true, false, ◌==◌, ◌&&◌, nat_lt, if◌then◌else◌, List, [], ◌∷◌, ◌++◌, Option, None, Some, length, slice_get}
use Rattle.bsp_model.specs.declared.fault.End.TheVariants.{Sync, Halt}
use Rattle.bsp_model.specs.declared.request.Message.{Message}
use Rattle.bsp_step.specs.ViewParts.{ViewParts}
use Rattle.bsp_step.specs.Act.{Act, print}
use Rattle.bsp_step.specs.Blocks.{stores, words_at}
use Rattle.bsp_step.specs.Plan.{Plan, does, given_argument}
use Rattle.bsp_programs.specs.MatVec.{given_words}
use Rattle.bsp_collectives.specs.Messages.{joined, moves}
use Rattle.bsp_collectives.specs.Halves.{all_gather, block_size, broadcast, exchange, forward, gather, scatter, spread}
use Rattle.collectives.specs.Root.{root_of}
use Rattle.collectives.specs.declared.moving.Moving.{Moving as Movings}
use Rattle.collectives.specs.declared.moving.Moving.TheVariants.{Broadcast, BroadcastInTwo, Scatter, Gather, AllGather, Exchange}

-- the size of blocks, one for each process
abbrev pub own_size : ViewParts → List ℕ → ℕ
own_size v words = block_size (length words) v.nprocs

-- The first half, of these words. Where there is a root, it is argument 1, or process 0.
abbrev pub half : Movings → ViewParts → List ℕ → List Act
half Broadcast v words = broadcast v (root_of v) words
half BroadcastInTwo v words = spread v (root_of v) words
half Scatter v words = scatter v (root_of v) words (own_size v words)
half Gather v words = gather v (root_of v) words
half AllGather v words = all_gather v words
half Exchange v words = exchange v words (own_size v words)

-- Superstep 0 makes the first half of the own words: so many, from word 0 on.
abbrev pub beginning : Movings → ViewParts → ℕ → List ℕ → Plan
beginning call v count memory = given_words (words_at memory 0 count) (λ words. does (half call v words) Sync)

-- The last superstep takes what came, stores it after the own words, and prints it.
abbrev pub ending : ℕ → List Message → Plan
ending count queue = does (moves queue ++ stores count (joined queue) ++ print (joined queue) ∷ []) Halt

-- a broadcast in two supersteps has one between
abbrev pub is_in_two : Movings → Bool
is_in_two BroadcastInTwo = true
is_in_two Broadcast = false
is_in_two Scatter = false
is_in_two Gather = false
is_in_two AllGather = false
is_in_two Exchange = false

-- Argument 0 is the number of own words.
abbrev pub moving_plan : Movings → ViewParts → List ℕ → List Message → Plan
moving_plan call v memory queue =
    given_argument (slice_get v.args 0) (λ count.
    if v.step == 0 then beginning call v count memory
    else (if (v.step == 1) && is_in_two call then does (forward v queue) Sync
    else ending count queue))

abbrev pub is_root : ViewParts → Bool
is_root v = v.pid == root_of v

-- whether a process sends its words
abbrev pub is_sender : Movings → ViewParts → Bool
is_sender Broadcast v = is_root v
is_sender BroadcastInTwo v = is_root v
is_sender Scatter v = is_root v
is_sender Gather v = true
is_sender AllGather v = true
is_sender Exchange v = true

abbrev pub moving_looks_with : Movings → ViewParts → Option ℕ → ℕ → Bool
moving_looks_with call v None address = false
moving_looks_with call v (Some count) address = (v.step == 0) && nat_lt address count && is_sender call v

-- It looks at the own words in superstep 0, where it sends them.
abbrev pub moving_looks : Movings → ViewParts → ℕ → Bool
moving_looks call v address = moving_looks_with call v (slice_get v.args 0) address
