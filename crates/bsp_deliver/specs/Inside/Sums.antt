-- Sums of words, transfer by transfer, which private functions keep: no public contract speaks of them.
use Rattle.std.specs.Prelude.{ℕ, Bool, true, false, ◌+◌, ◌*◌, ◌<◌, ◌≤◌, ◌==◌, if◌then◌else◌, List, [], ◌∷◌, ◌++◌, map, All, slice_index, slice_index_or, slice_set, replicate}
use Rattle.bsp_model.specs.Limits.{most_h, most_processes, most_request_words}
use Rattle.bsp_deliver.specs.declared.cost.Sums.{Sums}
use Rattle.bsp_deliver.specs.declared.cost.Targets.{Targets}
use Rattle.bsp_deliver.specs.declared.cost.Targets.TheVariants.{Everyone, Members}
use Rattle.bsp_step.specs.OutcomeParts.{OutcomeParts}
use Rattle.bsp_deliver.specs.Cost.{Transfer, put_transfer, get_transfer, send_transfer}

-- the sums with n more at p
abbrev pub raised : List ℕ → ℕ → ℕ → List ℕ
raised sums p n = slice_set sums p (slice_index sums p + n)

-- one transfer more
abbrev pub counted : Sums → Transfer → Sums
counted s t =
    if t.source == t.target then s
    else record { sent = raised s.sent t.source t.count; received = raised s.received t.target t.count }

-- the process is among those to which words are counted
abbrev pub is_target : Targets → ℕ → Bool
is_target Everyone process = true
is_target (Members set) process = slice_index_or set process false

-- one transfer more, counted where it is to one of the targets
abbrev pub counted_to : (ℕ → Bool) → Sums → Transfer → Sums
counted_to targets s t = if targets t.target then counted s t else s

abbrev pub no_words : Sums
no_words = record { sent = replicate most_processes 0; received = replicate most_processes 0 }

-- the transfers of one process
abbrev pub transfers_of : ℕ → OutcomeParts → List Transfer
transfers_of p o = map (put_transfer p) o.puts ++ map (get_transfer p) o.gets ++ map (send_transfer p) o.sends

-- the transfers of these processes, of which the first is p
abbrev pub transfers_from : ℕ → List OutcomeParts → List Transfer
transfers_from p [] = []
transfers_from p (o ∷ os) = transfers_of p o ++ transfers_from (p + 1) os

-- so many transfers more leave each sum within the most words of an h-relation
pub record HasRoom (s : Sums) (transfers : ℕ) : Type 0 where
  pub sent : All (λ n. n + most_request_words * transfers ≤ most_h) s.sent
  pub received : All (λ n. n + most_request_words * transfers ≤ most_h) s.received

-- a transfer between processes that there may be, of no more words than there may be
pub record IsSmall (t : Transfer) : Type 0 where
  pub known_source : t.source < most_processes
  pub known_target : t.target < most_processes
  pub few_words : t.count ≤ most_request_words
