-- What is left in a queue.
use Rattle.std.specs.Prelude.{ℕ, List, [], ◌∷◌, Option, None, Some, length}
use Rattle.bsp_model.specs.declared.request.Message.{Message}

-- the first message, if one is left
abbrev pub first_message : List Message → Option Message
first_message [] = None
first_message (m ∷ later) = Some m

-- the payload of the first message that is left
abbrev pub first_words : List Message → List ℕ
first_words [] = []
first_words (m ∷ later) = m.words

-- what is read of a message before it is taken: the length of its payload, and its tag
abbrev pub heading : Option Message → Option (ℕ × List ℕ)
heading None = None
heading (Some m) = Some (length m.words, m.tag)
