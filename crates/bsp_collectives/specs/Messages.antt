-- The messages of collective calls: what is sent, and what is taken.
use Rattle.std.specs.Prelude.{ℕ, List, [], map, flat_map, length, replicate}
use Rattle.bsp_model.specs.declared.request.Message.{Message}
use Rattle.bsp_step.specs.ViewParts.{ViewParts}
use Rattle.bsp_step.specs.Context.{Context}
use Rattle.bsp_step.specs.Act.{Act, send, move_into}

-- A tag that says nothing: zeros, as many as the tag size in force (this profile).
abbrev pub blank_tag : ViewParts → List ℕ
blank_tag v = replicate v.tag_size 0

-- a message to each of these processes, with the words for it
abbrev pub sends : ViewParts → (ℕ → List ℕ) → List ℕ → List Act
sends v words pids = map (λ pid. send pid (blank_tag v) (words pid)) pids

-- all messages are taken, each whole
abbrev pub moves : List Message → List Act
moves queue = map (λ (m : Message). move_into (length m.words)) queue

-- the words of all messages, one message after the other
abbrev pub joined : List Message → List ℕ
joined queue = flat_map (λ (m : Message). m.words) queue

-- the words of each message
abbrev pub apart : List Message → List (List ℕ)
apart queue = map (λ (m : Message). m.words) queue

-- the context with no message left, and otherwise as it is
abbrev pub emptied : Context → Context
emptied c = record c { left = [] }
