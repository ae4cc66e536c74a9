-- What is answered to a document, by its report. `report` is what a document's bytes have as theirs.
use Rattle.std.proofs.Common.{◌≡◌, ◌<◌, ℕ, List, length, Option, None, Some, Result, Ok, Err, sym, ap, subst, inl, inr}
use Rattle.std.specs.Prelude.{IfSome, IsErrAnd}
use Rattle.bsp_model.specs.Limits.{most_document_bytes}
use Rattle.bsp_engine.specs.declared.errors.JobError.{JobError}
use Rattle.bsp_engine.specs.declared.errors.JobError.TheVariants.{Fault, OutOfMemory}
use Rattle.bsp_engine.specs.declared.errors.EngineError.{EngineError}
use Rattle.bsp_engine.specs.declared.errors.EngineError.TheVariants.{Job, Read, TooLong, Write, OutOfMemory as NoMemory}
use Rattle.bsp_engine.specs.Answer.{IsFailure, Answers}
use Rattle.bsp_engine.specs.Refusal.{IfFault}
use Rattle.bsp_engine.specs.Inside.Refusal.{IsUnread, job_error_of}

pub err_of : (r : Result (Unit {0}) EngineError) (x : EngineError) → IsErrAnd r (λ y. y ≡ x) → r ≡ Err x
err_of (Ok u) x h = absurd h
err_of (Err y) x h = ap Err h

-- where the document has this report
pub answered : (report r : Result (List ℕ) EngineError) (old new : Option (List ℕ)) (answer : Result (Unit {0}) EngineError) → report ≡ r → Answers r old new answer → Answers report old new answer
answered report r old new answer made fact = subst (λ (x : Result (List ℕ) EngineError). Answers x old new answer) (sym made) fact

fails : (r : Result (List ℕ) EngineError) (old new : Option (List ℕ)) (answer : Result (Unit {0}) EngineError) → IsFailure answer → Answers r old new answer
fails (Ok text) old new answer failure = inr failure
fails (Err error) old new answer failure = inr failure

-- where it is no job, or memory was refused
pub answered_job : (report : Result (List ℕ) EngineError) (e : JobError) (old new : Option (List ℕ)) (answer : Result (Unit {0}) EngineError) → IsErrAnd answer (λ x. x ≡ job_error_of e) → IfFault e (λ f. report ≡ Err (Job f)) → Answers report old new answer
answered_job report (Fault f) old new answer made own = answered report (Err (Job f)) old new answer own (inl (err_of answer (Job f) made))
answered_job report OutOfMemory old new answer made own = fails report old new answer (inr (err_of answer NoMemory made))

failed : (report : List ℕ → Result (List ℕ) EngineError) (source : Option (List ℕ)) (old new : Option (List ℕ)) (answer : Result (Unit {0}) EngineError) → IsFailure answer → IfSome source (λ all. Answers (report all) old new answer)
failed report None old new answer failure = tt
failed report (Some all) old new answer failure = fails (report all) old new answer failure

answered_long : (report : List ℕ → Result (List ℕ) EngineError) (too_long : (all : List ℕ) → most_document_bytes < length all → report all ≡ Err TooLong) (source : Option (List ℕ)) (old new : Option (List ℕ)) (answer : Result (Unit {0}) EngineError) → IfSome source (λ all. most_document_bytes < length all) → answer ≡ Err TooLong → IfSome source (λ all. Answers (report all) old new answer)
answered_long report too_long None old new answer long is = tt
answered_long report too_long (Some all) old new answer long is = answered (report all) (Err TooLong) old new answer (too_long all long) (inl is)

-- where it was not read
pub answered_read : {X : Type 0} (report : List ℕ → Result (List ℕ) EngineError) (too_long : (all : List ℕ) → most_document_bytes < length all → report all ≡ Err TooLong) (source : Option (List ℕ)) (r : Result X EngineError) (e : EngineError) (old new : Option (List ℕ)) (answer : Result (Unit {0}) EngineError) → r ≡ Err e → IsUnread e → (r ≡ Err TooLong → IfSome source (λ all. most_document_bytes < length all)) → IsErrAnd answer (λ x. x ≡ e) → IfSome source (λ all. Answers (report all) old new answer)
answered_read report too_long source r Read old new answer was unread long made = failed report source old new answer (inl (err_of answer Read made))
answered_read report too_long source r TooLong old new answer was unread long made = answered_long report too_long source old new answer (long was) (err_of answer TooLong made)
answered_read report too_long source r NoMemory old new answer was unread long made = failed report source old new answer (inr (err_of answer NoMemory made))
answered_read report too_long source r (Job fault) old new answer was unread long made = absurd unread
answered_read report too_long source r Write old new answer was unread long made = absurd unread
