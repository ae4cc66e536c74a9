-- What a superstep's end brings to a process: its next memory, word by word, and its next queue.
use Rattle.std.specs.Prelude.{ℕ, ◌+◌, ◌-◌, Bool, ◌&&◌, ◌==◌, nat_le, nat_lt, if◌then◌else◌, List, [], ◌∷◌, map, filter, length, slice_index, Option, Some, None}
use Rattle.bsp_model.specs.declared.request.Put.{Put}
use Rattle.bsp_model.specs.declared.request.Get.{Get}
use Rattle.bsp_model.specs.declared.request.Send.{Send}
use Rattle.bsp_model.specs.declared.request.Message.{Message}
use Rattle.bsp_step.specs.OutcomeParts.{OutcomeParts, outcome_of}
use Rattle.bsp_deliver.specs.Requests.{each_below, all_puts, all_sends, words_read}

-- All that a delivery to one process depends on.
pub record DeliveryParts : Type 0 where
  -- its memory after computing
  pub memory : List ℕ
  -- its gets, each with the words that it reads
  pub gets : List (Get × List ℕ)
  -- the puts and the messages to it, each with its sender
  pub puts : List (ℕ × Put)
  pub sends : List (ℕ × Send)

unfoldable pub delivery_parts : List OutcomeParts → ℕ → DeliveryParts
delivery_parts os d =
    record {
      memory = (outcome_of os d).memory;
      gets = map (λ g. (g, words_read os g)) (outcome_of os d).gets;
      puts = filter (λ p. p.1.target == d) (all_puts os);
      sends = filter (λ m. m.1.target == d) (all_sends os);
    }

-- the first, unless there is a second
abbrev pub later : {X : Type 0} → Option X → Option X → Option X
later x None = x
later x (Some y) = Some y

-- the last member that passes the test
abbrev pub last_of : {X : Type 0} → (X → Bool) → List X → Option X
last_of test [] = None
last_of test (x ∷ xs) = later (if test x then Some x else None) (last_of test xs)

-- words from an address on
pub record Write : Type 0 where
  pub start : ℕ
  pub words : List ℕ

abbrev pub write_of : Put → Write
write_of p = record { start = p.start; words = p.words }

abbrev pub put_write : (ℕ × Put) → Write
put_write p = write_of p.1

abbrev pub get_write : (Get × List ℕ) → Write
get_write g = record { start = g.0.into; words = g.1 }

-- A write covers word a. One of no words covers nothing.
abbrev pub covers : ℕ → Write → Bool
covers a w = nat_le w.start a && nat_lt a (w.start + length w.words)

-- the word that a write brings to a, or else the word itself
abbrev pub word_of : ℕ → Option Write → ℕ → ℕ
word_of a None word = word
word_of a (Some w) word = slice_index w.words (a - w.start)

-- word a after these writes, of which the last wins
abbrev pub written : List Write → ℕ → ℕ → ℕ
written ws a word = word_of a (last_of (covers a) ws) word

-- Word a after delivery: that of the last put that covers it; else that of the last get; else the own word (Hill et al. 1998; that the last wins,
-- and a put over a get, is this profile's).
abbrev pub next_word : DeliveryParts → ℕ → ℕ
next_word parts a = written (map put_write parts.puts) a (written (map get_write parts.gets) a (slice_index parts.memory a))

unfoldable pub next_memory : DeliveryParts → List ℕ
next_memory parts = each_below (length parts.memory) (next_word parts)

abbrev pub message_of : Send → Message
message_of m = record { tag = m.tag; words = m.words }

-- The messages to the process, by sender, then by issue (Hill et al. 1998; order: this profile). What was not taken before is gone.
unfoldable pub next_queue : DeliveryParts → List Message
next_queue parts = map (λ m. message_of m.1) parts.sends
