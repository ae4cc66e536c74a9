-- What arrives: the laws of collective calls. In each law about a half, every process of a superstep makes it (`AllMake`), and d, or the root, is one of them.
-- A root that is no process needs no premise in `GatherArrives` and `ReduceArrives`: a send to it faults, so no turn makes such a half.
use Rattle.std.specs.Prelude.{ℕ, ◌≡◌, ◌<◌, ◌+◌, List, [], None, length, map}
use Rattle.std.specs.List.{flat_map, range_with_len}
use Rattle.bsp_model.specs.declared.fault.End.{End}
use Rattle.bsp_step.specs.Act.{Act}
use Rattle.bsp_step.specs.Turn.{turn_of}
use Rattle.bsp_step.specs.ViewParts.{ViewParts}
use Rattle.bsp_step.specs.OutcomeParts.{OutcomeParts}
use Rattle.bsp_collectives.specs.declared.operation.Operation.{Operation as Operations}
use Rattle.bsp_collectives.specs.Messages.{joined}
use Rattle.bsp_collectives.specs.Operation.{combined}
use Rattle.bsp_collectives.specs.Halves.{all_gather, all_reduce, block, block_size, broadcast, exchange, exchange_parts, forward, gather, part, reduce, scan, scatter, spread}
use Rattle.bsp_collectives.specs.Arrivals.{AllMake, arrived, arrived_apart, sends_made}

-- A turn without a fault sends the messages of its acts, and no others.
abbrev pub TurnsSendTheirActs : Type 0
TurnsSendTheirActs =
    (acts : ViewParts → List Act) (ending : ViewParts → End) (v : ViewParts) → (turn_of acts ending v).fault ≡ None
    → (turn_of acts ending v).sends ≡ sends_made (acts v)

-- Broadcast: the root's words arrive at each process.
abbrev pub BroadcastArrives : Type 0
BroadcastArrives =
    (root : ℕ) (words : ℕ → List ℕ) (view : ℕ → ViewParts) (os : List OutcomeParts) (d : ℕ) → AllMake (λ p v. broadcast v root (words p)) view os → root < length os → d < length os
    → arrived os d ≡ words root

-- Broadcast in two supersteps: after the first, block d of the root's words arrives at process d, in blocks of the least size with which they make one for each process.
abbrev pub SpreadArrives : Type 0
SpreadArrives =
    (root : ℕ) (words : ℕ → List ℕ) (view : ℕ → ViewParts) (os : List OutcomeParts) (d : ℕ) → AllMake (λ p v. spread v root (words p)) view os → root < length os → d < length os
    → arrived os d ≡ block (words root) (block_size (length (words root)) (length os)) d

-- After the second, where such blocks of some words came to the processes, all of these words arrive at each process.
abbrev pub ForwardArrives : Type 0
ForwardArrives =
    (words : List ℕ) (view : ℕ → ViewParts) (os : List OutcomeParts) (d : ℕ) → AllMake (λ p v. forward v v.queue) view os
    → ((p : ℕ) → p < length os → joined (view p).queue ≡ block words (block_size (length words) (length os)) p) → d < length os
    → arrived os d ≡ words

-- Scatter: block d of the root's words arrives at process d.
abbrev pub ScatterArrives : Type 0
ScatterArrives =
    (root : ℕ) (words : ℕ → List ℕ) (size : ℕ → ℕ) (view : ℕ → ViewParts) (os : List OutcomeParts) (d : ℕ) → AllMake (λ p v. scatter v root (words p) (size p)) view os → root < length os → d < length os
    → arrived os d ≡ block (words root) (size root) d

-- Gather: the words of all processes arrive at the root, those of process 0 first.
abbrev pub GatherArrives : Type 0
GatherArrives =
    (root : ℕ) (words : ℕ → List ℕ) (view : ℕ → ViewParts) (os : List OutcomeParts) → AllMake (λ p v. gather v root (words p)) view os
    → arrived os root ≡ flat_map words (range_with_len 0 (length os))

-- Nothing arrives elsewhere.
abbrev pub GatherArrivesAtTheRootAlone : Type 0
GatherArrivesAtTheRootAlone =
    (root : ℕ) (words : ℕ → List ℕ) (view : ℕ → ViewParts) (os : List OutcomeParts) (d : ℕ) → AllMake (λ p v. gather v root (words p)) view os → (d ≡ root → ⊥)
    → arrived os d ≡ []

-- All-gather: the words of all processes arrive at each, those of process 0 first.
abbrev pub AllGatherArrives : Type 0
AllGatherArrives =
    (words : ℕ → List ℕ) (view : ℕ → ViewParts) (os : List OutcomeParts) (d : ℕ) → AllMake (λ p v. all_gather v (words p)) view os → d < length os
    → arrived os d ≡ flat_map words (range_with_len 0 (length os))

-- Total exchange: block d of the words of all processes arrives at process d, that of process 0 first.
abbrev pub ExchangeArrives : Type 0
ExchangeArrives =
    (words : ℕ → List ℕ) (size : ℕ → ℕ) (view : ℕ → ViewParts) (os : List OutcomeParts) (d : ℕ) → AllMake (λ p v. exchange v (words p) (size p)) view os → d < length os
    → arrived os d ≡ flat_map (λ p. block (words p) (size p) d) (range_with_len 0 (length os))

-- Total exchange of parts of any lengths: part d of the words of all processes arrives at process d, that of process 0 first.
abbrev pub ExchangePartsArrive : Type 0
ExchangePartsArrive =
    (words lengths : ℕ → List ℕ) (view : ℕ → ViewParts) (os : List OutcomeParts) (d : ℕ) → AllMake (λ p v. exchange_parts v (words p) (lengths p)) view os → d < length os
    → arrived os d ≡ flat_map (λ p. part (words p) (lengths p) d) (range_with_len 0 (length os))

-- Where the words of each message are read: in a gather those of all processes at the root,
abbrev pub GatherArrivesApart : Type 0
GatherArrivesApart =
    (root : ℕ) (words : ℕ → List ℕ) (view : ℕ → ViewParts) (os : List OutcomeParts) → AllMake (λ p v. gather v root (words p)) view os
    → arrived_apart os root ≡ map words (range_with_len 0 (length os))

-- in an all-gather the same at each process,
abbrev pub AllGatherArrivesApart : Type 0
AllGatherArrivesApart =
    (words : ℕ → List ℕ) (view : ℕ → ViewParts) (os : List OutcomeParts) (d : ℕ) → AllMake (λ p v. all_gather v (words p)) view os → d < length os
    → arrived_apart os d ≡ map words (range_with_len 0 (length os))

-- and in an exchange of parts the part d of all.
abbrev pub ExchangePartsArriveApart : Type 0
ExchangePartsArriveApart =
    (words lengths : ℕ → List ℕ) (view : ℕ → ViewParts) (os : List OutcomeParts) (d : ℕ) → AllMake (λ p v. exchange_parts v (words p) (lengths p)) view os → d < length os
    → arrived_apart os d ≡ map (λ p. part (words p) (lengths p) d) (range_with_len 0 (length os))

-- Reduce: what the operation makes of what arrives at the root is what it makes of the words of all processes.
abbrev pub ReduceArrives : Type 0
ReduceArrives =
    (operation : Operations) (root : ℕ) (word : ℕ → ℕ) (view : ℕ → ViewParts) (os : List OutcomeParts) → AllMake (λ p v. reduce v root (word p)) view os
    → combined operation (arrived os root) ≡ combined operation (map word (range_with_len 0 (length os)))

-- All-reduce: the same at each process.
abbrev pub AllReduceArrives : Type 0
AllReduceArrives =
    (operation : Operations) (word : ℕ → ℕ) (view : ℕ → ViewParts) (os : List OutcomeParts) (d : ℕ) → AllMake (λ p v. all_reduce v (word p)) view os → d < length os
    → combined operation (arrived os d) ≡ combined operation (map word (range_with_len 0 (length os)))

-- Inclusive scan: at process d it is what the operation makes of the words of processes 0 to d.
abbrev pub ScanArrives : Type 0
ScanArrives =
    (operation : Operations) (word : ℕ → ℕ) (view : ℕ → ViewParts) (os : List OutcomeParts) (d : ℕ) → AllMake (λ p v. scan v (word p)) view os → d < length os
    → combined operation (arrived os d) ≡ combined operation (map word (range_with_len 0 (d + 1)))
