-- Supersteps in which every process makes a first half, and the words that arrive.
use Rattle.std.specs.Prelude.{◌≡◌, ◌<◌, ℕ, List, [], ◌∷◌, length}
use Rattle.bsp_model.specs.declared.request.Send.{Send}
use Rattle.bsp_step.specs.Act.{Act, store, charge, put, get, send, move_into, push_reg, pop_reg, set_tagsize, print}
use Rattle.bsp_step.specs.ViewParts.{ViewParts}
use Rattle.bsp_step.specs.OutcomeParts.{OutcomeParts, outcome_of}
use Rattle.bsp_deliver.specs.Delivery.{delivery_parts, next_queue}
use Rattle.bsp_collectives.specs.Messages.{apart, joined}

-- the messages that acts send, where none of them faults
abbrev pub sends_made : List Act → List Send
sends_made [] = []
sends_made (send target tag words ∷ later) = record { target = target; tag = tag; words = words } ∷ sends_made later
sends_made (store address value ∷ later) = sends_made later
sends_made (charge amount ∷ later) = sends_made later
sends_made (put pid words area offset ∷ later) = sends_made later
sends_made (get pid area offset into len ∷ later) = sends_made later
sends_made (move_into room ∷ later) = sends_made later
sends_made (push_reg start len ∷ later) = sends_made later
sends_made (pop_reg start ∷ later) = sends_made later
sends_made (set_tagsize size ∷ later) = sends_made later
sends_made (print words ∷ later) = sends_made later

-- The outcomes of a superstep in which process p sees the view of p, makes the half of p at that view, and sends nothing else.
pub record AllMake (half : ℕ → ViewParts → List Act) (view : ℕ → ViewParts) (os : List OutcomeParts) : Type 0 where
  pub nprocs : (p : ℕ) → p < length os → (view p).nprocs ≡ length os
  pub pid : (p : ℕ) → p < length os → (view p).pid ≡ p
  pub sent : (p : ℕ) → p < length os → (outcome_of os p).sends ≡ sends_made (half p (view p))

-- The words that arrive at process d: those of all messages in its next queue.
abbrev pub arrived : List OutcomeParts → ℕ → List ℕ
arrived os d = joined (next_queue (delivery_parts os d))

-- The words of each of these messages.
abbrev pub arrived_apart : List OutcomeParts → ℕ → List (List ℕ)
arrived_apart os d = apart (next_queue (delivery_parts os d))
