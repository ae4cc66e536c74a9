-- What the engine answers, and what it writes then (this profile).
use Rattle.std.specs.Prelude.{◌≡◌, ◌⊎◌, ℕ, List, Option, Result, Ok, Err}
use Rattle.std.specs.Io.KnownBytes.{Appends}
use Rattle.bsp_engine.specs.declared.errors.EngineError.{EngineError}
use Rattle.bsp_engine.specs.declared.errors.EngineError.TheVariants.{Read, Write, OutOfMemory}
use Rattle.bsp_engine.specs.Flow.{AppendsPrefix}

-- a read failed, or memory was refused
abbrev pub IsFailure : Result (Unit {0}) EngineError → Type 0
IsFailure answer = (answer ≡ Err Read) ⊎ (answer ≡ Err OutOfMemory)

-- The answers to a document that has this report, or none for this reason; `old` and `new` are what the sink holds before and after. A report goes out
-- whole, or a beginning of it does and then a write fails. A document that has none is answered why. Either may be answered by a failure instead.
abbrev pub Answers : Result (List ℕ) EngineError → Option (List ℕ) → Option (List ℕ) → Result (Unit {0}) EngineError → Type 0
Answers (Ok text) old new answer = (((answer ≡ Ok tt) × Appends old new text) ⊎ ((answer ≡ Err Write) × AppendsPrefix old new text)) ⊎ IsFailure answer
Answers (Err error) old new answer = (answer ≡ Err error) ⊎ IsFailure answer
