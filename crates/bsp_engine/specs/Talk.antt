-- What happens at a terminal, the lines that are heard there, and whole conversations (this profile).
use Rattle.std.specs.Prelude.{◌≡◌, ◌≢◌, ◌⊎◌, ◌+◌, ℕ, ◌==◌, List, [], ◌∷◌, ◌++◌, map, take, Option, None, Some, Result, Ok, Err, ⊤, if◌then◌else◌}
use Rattle.bsp_model.specs.Limits.{most_document_bytes}
use Rattle.bsp_engine.specs.declared.errors.EngineError.{EngineError}
use Rattle.bsp_engine.specs.declared.errors.EngineError.TheVariants.{Read, Write, OutOfMemory}

-- an event at a terminal
pub data Event : Type 0 where
  -- a read gave these bytes; none at the end
  heard : List ℕ → Event
  -- these bytes went out
  said : List ℕ → Event
  -- a read or a write failed
  failed : Event

-- a log, where it is known, goes on with these events, the newest first
abbrev pub Goes : Option (List Event) → Option (List Event) → List Event → Type 0
Goes None None es = ⊤
Goes None (Some grown) es = ⊥
Goes (Some log) None es = ⊥
Goes (Some log) (Some grown) es = grown ≡ es ++ log

-- all that was heard
abbrev pub heard_in : List Event → List ℕ
heard_in [] = []
heard_in (heard bytes ∷ before) = heard_in before ++ bytes
heard_in (said bytes ∷ before) = heard_in before
heard_in (failed ∷ before) = heard_in before

-- all that went out
abbrev pub said_in : List Event → List ℕ
said_in [] = []
said_in (heard bytes ∷ before) = said_in before
said_in (said bytes ∷ before) = said_in before ++ bytes
said_in (failed ∷ before) = said_in before

-- a byte before a text of these whole lines and this rest
abbrev pub begun_with : ℕ → List (List ℕ) → List ℕ → List (List ℕ) × List ℕ
begun_with b [] rest = ([], b ∷ rest)
begun_with b (line ∷ lines) rest = ((b ∷ line) ∷ lines, rest)

-- A text split at its LFs: the lines that have an end, each without its LF, and the rest behind the last LF.
abbrev pub split : List ℕ → List (List ℕ) × List ℕ
split [] = ([], [])
split (b ∷ bs) = if b == 10 then ([] ∷ (split bs).0, (split bs).1) else begun_with b (split bs).0 (split bs).1

-- Of a line that is longer than a document may be, so many bytes and one more are read.
unfoldable pub cut : List ℕ → List ℕ
cut line = take (most_document_bytes + 1) line

-- the lines of a text that have an end
abbrev pub whole_lines : List ℕ → List (List ℕ)
whole_lines bytes = map cut (split bytes).0

abbrev pub unless_empty : List ℕ → List (List ℕ)
unless_empty [] = []
unless_empty (b ∷ bs) = (b ∷ bs) ∷ []

-- all lines of a text that has come to its end: the last one may lack its LF
abbrev pub all_lines : List ℕ → List (List ℕ)
all_lines bytes = map cut ((split bytes).0 ++ unless_empty (split bytes).1)

-- the newest read found the end
abbrev pub HasEnded : List Event → Type 0
HasEnded [] = ⊥
HasEnded (heard bytes ∷ before) = bytes ≡ []
HasEnded (said bytes ∷ before) = HasEnded before
HasEnded (failed ∷ before) = HasEnded before

-- the newest event, where it is known, is a failure
abbrev pub HasFailed : Option (List Event) → Type 0
HasFailed (Some []) = ⊥
HasFailed (Some (heard bytes ∷ before)) = ⊥
HasFailed (Some (said bytes ∷ before)) = ⊥
HasFailed (Some (failed ∷ before)) = ⊤
HasFailed None = ⊤

-- the newest event, where it is known, is a failure, or a write that took no byte
abbrev pub HasNotWritten : Option (List Event) → Type 0
HasNotWritten (Some []) = ⊥
HasNotWritten (Some (heard bytes ∷ before)) = ⊥
HasNotWritten (Some (said bytes ∷ before)) = bytes ≡ []
HasNotWritten (Some (failed ∷ before)) = ⊤
HasNotWritten None = ⊤

-- A failure, where the log is known, is its newest event: a new one, or the one that was the newest before.
abbrev pub Fails : Option (List Event) → Option (List Event) → Type 0
Fails old new = HasFailed new × (Goes old new (failed ∷ []) ⊎ Goes old new [])

-- the text is a beginning of this one
abbrev pub IsBeginning : List ℕ → List ℕ → Type 0
IsBeginning text whole = (later : List ℕ) × (whole ≡ text ++ later)

-- what is due for lines, given which lines there are
abbrev pub Due : Type 0
Due = List (List ℕ) → List ℕ

-- What was said is what is due for the lines that were heard, whenever more is waited for. The newest event comes first.
abbrev pub IsPrompt : Due → List Event → Type 0
IsPrompt due [] = ⊤
IsPrompt due (heard bytes ∷ before) = (said_in before ≡ due (whole_lines (heard_in before))) × IsPrompt due before
IsPrompt due (said bytes ∷ before) = IsPrompt due before
IsPrompt due (failed ∷ before) = IsPrompt due before

-- a whole conversation: all was heard and answered, each line before more was waited for
pub record Talks (due : Due) (old new : Option (List Event)) : Type 0 where
  pub events : List Event
  pub goes : Goes old new events
  pub prompt : IsPrompt due events
  pub said : said_in events ≡ due (all_lines (heard_in events))
  pub ended : HasEnded events

-- the text is what is due for the first of these lines
pub record IsDueForSome (due : Due) (lines : List (List ℕ)) (text : List ℕ) : Type 0 where
  pub answered : List (List ℕ)
  pub others : List (List ℕ)
  pub all : lines ≡ answered ++ others
  pub is : text ≡ due answered

-- Why a conversation may break off, by its log: a read or a write failed, or memory was refused.
abbrev pub IsReason : EngineError → Option (List Event) → Type 0
IsReason Read log = HasFailed log
IsReason Write log = HasNotWritten log
IsReason OutOfMemory log = ⊤
IsReason error log = ⊥

-- A conversation that broke off for this reason: each line that was heard before was answered, and a beginning of what is due went out. Unless a write
-- failed, that is nothing, or what is due for the first of the lines: whole blocks.
pub record Breaks (due : Due) (old new : Option (List Event)) (error : EngineError) : Type 0 where
  pub events : List Event
  pub goes : Goes old new events
  pub reason : IsReason error new
  pub prompt : IsPrompt due events
  pub said : IsBeginning (said_in events) (due (all_lines (heard_in events)))
  pub whole : error ≢ Write → (said_in events ≡ []) ⊎ IsDueForSome due (all_lines (heard_in events)) (said_in events)

-- The conversation was whole, or it broke off for the reason that is answered.
abbrev pub TalksUntil : Due → Option (List Event) → Option (List Event) → Result (Unit {0}) EngineError → Type 0
TalksUntil due old new (Ok u) = Talks due old new
TalksUntil due old new (Err error) = Breaks due old new error
