-- How a conversation goes on, byte by byte and line by line: private functions alone speak of it.
use Rattle.std.specs.Prelude.{◌≡◌, ◌≢◌, ℕ, Bool, true, false, ◌==◌, List, [], ◌∷◌, ◌++◌, length, nat_lt, if◌then◌else◌, Option, ⊤}
use Rattle.bsp_model.specs.Limits.{most_document_bytes}
use Rattle.bsp_engine.specs.declared.errors.EngineError.{EngineError}
use Rattle.bsp_engine.specs.declared.errors.EngineError.TheVariants.{Write, OutOfMemory}
use Rattle.bsp_engine.specs.Talk.{Breaks, Due, Event, Goes, HasNotWritten, IsBeginning, IsPrompt, IsReason, Talks, failed, heard, heard_in, said, said_in, whole_lines}

-- What is kept of a line of which one more byte was heard.
unfoldable pub kept : List ℕ → ℕ → List ℕ
kept begun byte = if nat_lt most_document_bytes (length begun) then begun else begun ++ byte ∷ []

-- the lines that end in these bytes, each without its LF, where this is kept of the first
abbrev pub lines_from : List ℕ → List ℕ → List (List ℕ)
lines_from begun [] = []
lines_from begun (b ∷ bs) = if b == 10 then begun ∷ lines_from [] bs else lines_from (kept begun b) bs

-- what is kept of the line that comes after the last LF
abbrev pub rest_from : List ℕ → List ℕ → List ℕ
rest_from begun [] = begun
rest_from begun (b ∷ bs) = if b == 10 then rest_from [] bs else rest_from (kept begun b) bs

-- nothing was heard
abbrev pub OnlySaid : List Event → Type 0
OnlySaid [] = ⊤
OnlySaid (heard bytes ∷ before) = ⊥
OnlySaid (said bytes ∷ before) = OnlySaid before
OnlySaid (failed ∷ before) = OnlySaid before

-- this text went out, and nothing was heard
pub record Says (old new : Option (List Event)) (text : List ℕ) : Type 0 where
  pub events : List Event
  pub goes : Goes old new events
  pub only : OnlySaid events
  pub is : said_in events ≡ text

-- a beginning of this text went out, then a write failed or took no byte, and nothing was heard
pub record SaysPart (old new : Option (List Event)) (whole : List ℕ) : Type 0 where
  pub text : List ℕ
  pub begins : IsBeginning text whole
  pub says : Says old new text
  pub unwritten : HasNotWritten new

-- the line was answered; `due` is what was due before it, `now` what is due after it
pub record Answered (due now : Due) (line : List ℕ) (old new : Option (List Event)) : Type 0 where
  pub text : List ℕ
  pub says : Says old new text
  pub next : (later : List (List ℕ)) → due (line ∷ later) ≡ text ++ now later

-- the answer to the line broke off for this reason: a beginning of it went out after a failed write, else nothing
pub record Stopped (due : Due) (line : List ℕ) (old new : Option (List Event)) (error : EngineError) : Type 0 where
  pub text : List ℕ
  pub says : Says old new text
  pub reason : IsReason error new
  pub begins : (later : List (List ℕ)) → IsBeginning text (due (line ∷ later))
  pub whole : error ≢ Write → text ≡ []

-- One more byte was taken: at an LF the line that was begun was answered, else it is kept and nothing happened.
abbrev pub AttendedIf : Bool → Due → Due → List ℕ → ℕ → List ℕ → Option (List Event) → Option (List Event) → Type 0
AttendedIf true due now begun byte next old new = (next ≡ []) × Answered due now begun old new
AttendedIf false due now begun byte next old new = (next ≡ kept begun byte) × (now ≡ due) × (new ≡ old)

abbrev pub Attended : Due → Due → List ℕ → ℕ → List ℕ → Option (List Event) → Option (List Event) → Type 0
Attended due now begun byte next old new = AttendedIf (byte == 10) due now begun byte next old new

-- The byte was not taken: the answer to the line broke off, or memory was refused and nothing happened.
abbrev pub UnattendedIf : Bool → Due → List ℕ → Option (List Event) → Option (List Event) → EngineError → Type 0
UnattendedIf true due begun old new error = Stopped due begun old new error
UnattendedIf false due begun old new error = (error ≡ OutOfMemory) × (new ≡ old)

abbrev pub Unattended : Due → List ℕ → ℕ → Option (List Event) → Option (List Event) → EngineError → Type 0
Unattended due begun byte old new error = UnattendedIf (byte == 10) due begun old new error

-- A conversation that goes on. Of what was heard the lines up to some place were answered, this is kept of the line that was begun there, and these
-- bytes are left; `now` is due for the lines to come.
pub record IsGoing (due now : Due) (old new : Option (List Event)) (begun left : List ℕ) : Type 0 where
  pub events : List Event
  pub goes : Goes old new events
  pub prompt : IsPrompt due events
  pub done : List ℕ
  pub heard_all : heard_in events ≡ done ++ left
  pub next : (later : List (List ℕ)) → due (whole_lines done ++ later) ≡ said_in events ++ now later
  pub rest : begun ≡ rest_from [] done

-- Whatever conversation had come here with these bytes left goes on with none left; `next` is kept of the line that was begun.
abbrev pub GoesOn : (now after : Due) (begun left next : List ℕ) (old new : Option (List Event)) → Type 0
GoesOn now after begun left next old new = (due : Due) (start : Option (List Event)) → IsGoing due now start old begun left → IsGoing due after start new next []

-- Whatever conversation had come here with these bytes left broke off for this reason.
abbrev pub BreaksOff : (now : Due) (begun left : List ℕ) (old new : Option (List Event)) → EngineError → Type 0
BreaksOff now begun left old new error = (due : Due) (start : Option (List Event)) → IsGoing due now start old begun left → Breaks due start new error

-- Whatever conversation had come here with no byte left was whole.
abbrev pub TalksOn : (now : Due) (begun : List ℕ) (old new : Option (List Event)) → Type 0
TalksOn now begun old new = (due : Due) (start : Option (List Event)) → IsGoing due now start old begun [] → Talks due start new

-- Whatever conversation had come to the end here was whole.
abbrev pub Ends : (now : Due) (begun : List ℕ) (old new : Option (List Event)) → Type 0
Ends now begun old new =
    (due : Due) (start mid : Option (List Event)) → IsGoing due now start mid begun [] → Goes mid old (heard [] ∷ []) → Talks due start new
