-- The h-relation of a superstep (the usual additive BSP cost formula, later than Valiant 1990; units and what counts: this profile).
use Rattle.std.specs.Prelude.{ℕ, Bool, ◌+◌, ◌&&◌, ◌==◌, not, max, List, [], ◌∷◌, ◌++◌, map, filter, length, sum_by}
use Rattle.bsp_model.specs.declared.request.Put.{Put}
use Rattle.bsp_model.specs.declared.request.Get.{Get}
use Rattle.bsp_model.specs.declared.request.Send.{Send}
use Rattle.bsp_step.specs.OutcomeParts.{OutcomeParts}
use Rattle.bsp_deliver.specs.Requests.{each_below, all_puts, all_gets, all_sends}

-- words on their way from a process to a process
pub record Transfer : Type 0 where
  pub source : ℕ
  pub target : ℕ
  pub count : ℕ

-- a put's words go from its sender to its target
abbrev pub put_transfer : ℕ → Put → Transfer
put_transfer sender p = record { source = sender; target = p.target; count = length p.words }

-- a get's words go from the owner to the process that asks
abbrev pub get_transfer : ℕ → Get → Transfer
get_transfer sender g = record { source = g.owner; target = sender; count = g.len }

-- a message counts its tag and its payload
abbrev pub send_transfer : ℕ → Send → Transfer
send_transfer sender m = record { source = sender; target = m.target; count = length m.tag + length m.words }

-- what all requests of the superstep move
unfoldable pub transfers : List OutcomeParts → List Transfer
transfers os =
    map (λ p. put_transfer p.0 p.1) (all_puts os) ++ map (λ g. get_transfer g.0 g.1) (all_gets os) ++ map (λ m. send_transfer m.0 m.1) (all_sends os)

-- The words that a process sends to others, and those that it receives from others. Words to oneself count nowhere.
abbrev pub count_sent : List Transfer → ℕ → ℕ
count_sent ts p = sum_by (λ t. t.count) (filter (λ t. (t.source == p) && not (t.target == p)) ts)

abbrev pub count_received : List Transfer → ℕ → ℕ
count_received ts p = sum_by (λ t. t.count) (filter (λ t. (t.target == p) && not (t.source == p)) ts)

abbrev pub largest : List ℕ → ℕ
largest [] = 0
largest (n ∷ ns) = max n (largest ns)

-- The largest number of words that a process sends or receives.
unfoldable pub h_relation : List OutcomeParts → ℕ
h_relation os =
    max (largest (each_below (length os) (count_sent (transfers os)))) (largest (each_below (length os) (count_received (transfers os))))

-- the requests of the superstep that move words to these processes
abbrev pub transfers_to : (ℕ → Bool) → List OutcomeParts → List Transfer
transfers_to targets os = filter (λ t. targets t.target) (transfers os)

-- The largest number of words that a process sends or receives, of the requests to these processes alone.
unfoldable pub h_relation_to : (ℕ → Bool) → List OutcomeParts → ℕ
h_relation_to targets os =
    let ts = transfers_to targets os in max (largest (each_below (length os) (count_sent ts))) (largest (each_below (length os) (count_received ts)))
