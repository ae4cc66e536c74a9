-- Words on their way, counted by process: what private functions keep.
use Rattle.std.specs.Prelude.{ℕ, Bool, ◌+◌, ◌*◌, ◌≤◌, ◌==◌, if◌then◌else◌, All, replicate}
use Rattle.bsp_model.specs.Limits.{most_h, most_processes, most_request_words}
use Rattle.bsp_deliver.specs.Cost.{Transfer}
use Rattle.bsp_deliver.specs.Inside.Sums.{raised}
use Rattle.bsp_causes.specs.declared.moved.Moved.{Moved}

-- one transfer more
abbrev pub counted : Moved → Transfer → Moved
counted m t =
    if t.source == t.target then m
    else record { sent = raised m.sent t.source t.count; received = raised m.received t.target t.count }

abbrev pub no_words : Moved
no_words = record { sent = replicate most_processes 0; received = replicate most_processes 0 }

-- so many transfers more leave each sum within the most words of an h-relation
pub record HasRoom (m : Moved) (transfers : ℕ) : Type 0 where
  pub sent : All (λ n. n + most_request_words * transfers ≤ most_h) m.sent
  pub received : All (λ n. n + most_request_words * transfers ≤ most_h) m.received
