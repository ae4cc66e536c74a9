-- The session of a document, from its bytes on.
use Rattle.std.proofs.Common.{◌≡◌, ◌<◌, ◌≤◌, ℕ, Bool, List, length, Option, None, Some, Result, Ok, Err, nat_lt, true, false, sym, ap, subst, inl, inr, arith}
use Rattle.std.proofs.lemmas.Bool.Decides.{nat_tests}
use Rattle.std.specs.Prelude.{IfSome, IsErrAnd, IsOkAnd}
use Rattle.bsp_model.specs.Limits.{most_document_bytes}
use Rattle.bsp_model.specs.declared.fault.End.{End}
use Rattle.bsp_step.specs.ViewParts.{ViewParts}
use Rattle.bsp_step.specs.Act.{Act}
use Rattle.bsp_engine.specs.declared.errors.JobError.{JobError}
use Rattle.bsp_engine.specs.declared.errors.JobError.TheVariants.{Fault, OutOfMemory}
use Rattle.bsp_engine.specs.declared.errors.JobFault.{JobFault}
use Rattle.bsp_engine.specs.declared.errors.EngineError.{EngineError}
use Rattle.bsp_engine.specs.declared.errors.EngineError.TheVariants.{Job as Refused, Read, TooLong, Write, OutOfMemory as NoMemory}
use Rattle.bsp_engine.specs.declared.jobs.Job.{Job}
use Rattle.bsp_options.specs.declared.options.Detail.{Detail}
use Rattle.bsp_engine.specs.Answer.{IsFailure}
use Rattle.bsp_engine.specs.Catalogue.{Meaning}
use Rattle.bsp_engine.specs.Document.{WithOwnText}
use Rattle.bsp_engine.specs.Followed.{Follows, FollowsIf, admitted, or_refused}
use Rattle.bsp_engine.specs.JobOf.{job_of}
use Rattle.bsp_engine.specs.Live.{due_of}
use Rattle.bsp_engine.specs.Refusal.{IfFault}
use Rattle.bsp_engine.specs.Talk.{Due, Event, TalksUntil}
use Rattle.bsp_engine.specs.Inside.LiveReplies.{live_replying}
use Rattle.bsp_engine.specs.Inside.Refusal.{IsUnread, job_error_of}
use Rattle.bsp_engine.proofs.Answering.{err_of}
use Rattle.bsp_engine.proofs.LiveLaws.{are_live_replies}

-- what a document that was not read or is no job is answered is no failure at the terminal
pub no_job_is_no_read : (e : JobError) (answer : Result (Unit {0}) EngineError) → IsErrAnd answer (λ x. x ≡ job_error_of e) → answer ≡ Err Read → ⊥
no_job_is_no_read (Fault f) answer made is = let other : answer ≡ Err (Refused f) = err_of answer (Refused f) made in cc
no_job_is_no_read OutOfMemory answer made is = let other = err_of answer (job_error_of OutOfMemory) made in cc

pub no_job_is_no_write : (e : JobError) (answer : Result (Unit {0}) EngineError) → IsErrAnd answer (λ x. x ≡ job_error_of e) → answer ≡ Err Write → ⊥
no_job_is_no_write (Fault f) answer made is = let other : answer ≡ Err (Refused f) = err_of answer (Refused f) made in cc
no_job_is_no_write OutOfMemory answer made is = let other = err_of answer (job_error_of OutOfMemory) made in cc

module _ {P : Type 0} (meaning : Meaning P) (acts : P → ViewParts → List Act) (ending : P → ViewParts → End) (looks : P → ViewParts → ℕ → Bool) (detail : Detail) where
  admitted_if : (bytes : List ℕ) (r : Result (Job P) JobFault) → length bytes ≤ most_document_bytes → job_of meaning bytes ≡ r → admitted meaning bytes ≡ or_refused r
  admitted_if bytes r short is = let fits : nat_lt most_document_bytes (length bytes) ≡ false = grind (arith, nat_tests) in rw fits (ap or_refused is)

  admitted_long : (bytes : List ℕ) → most_document_bytes < length bytes → admitted meaning bytes ≡ Err TooLong
  admitted_long bytes h = let long : nat_lt most_document_bytes (length bytes) ≡ true = grind (arith, nat_tests) in rw long

  fails : (bytes : List ℕ) (r : Result (Job P) EngineError) (old new : Option (List Event)) (silent : Type 0) (answer : Result (Unit {0}) EngineError) → IsFailure answer → silent → FollowsIf acts ending looks detail bytes r old new silent answer
  fails bytes (Ok job) old new silent answer failure nothing = inl (failure, nothing)
  fails bytes (Err error) old new silent answer failure nothing = (inr failure, nothing)

  refused : (bytes : List ℕ) (error : EngineError) (old new : Option (List Event)) (silent : Type 0) (answer : Result (Unit {0}) EngineError) → admitted meaning bytes ≡ Err error → answer ≡ Err error → silent → Follows meaning acts ending looks detail bytes old new silent answer
  refused bytes error old new silent answer none is nothing =
      subst (λ (r : Result (Job P) EngineError). FollowsIf acts ending looks detail bytes r old new silent answer) (sym none) (inl is, nothing)

  -- where the bytes are no job, or memory was refused
  pub follows_no_job : (bytes : List ℕ) (e : JobError) (old new : Option (List Event)) (silent : Type 0) (answer : Result (Unit {0}) EngineError) → length bytes ≤ most_document_bytes
      → IsErrAnd answer (λ x. x ≡ job_error_of e) → IfFault e (λ f. job_of meaning bytes ≡ Err f) → silent → Follows meaning acts ending looks detail bytes old new silent answer
  follows_no_job bytes (Fault f) old new silent answer short made own nothing = refused bytes (Refused f) old new silent answer (admitted_if bytes (Err f) short own) (err_of answer (Refused f) made) nothing
  follows_no_job bytes OutOfMemory old new silent answer short made own nothing =
      fails bytes (admitted meaning bytes) old new silent answer (inr (err_of answer (job_error_of OutOfMemory) made)) nothing

  talked_if : (bytes : List ℕ) (r : Result (Job P) JobFault) (due : Due) (old new : Option (List Event)) (silent : Type 0) (answer : Result (Unit {0}) EngineError)
      → IsOkAnd r (λ job. WithOwnText bytes (λ own. due ≡ due_of acts ending (live_replying acts ending looks) detail own job)) → TalksUntil due old new answer → FollowsIf acts ending looks detail bytes (or_refused r) old new silent answer
  talked_if bytes (Err f) due old new silent answer h talks = absurd h
  talked_if bytes (Ok job) due old new silent answer h talks =
      inr (h.0, h.1, (live_replying acts ending looks, are_live_replies acts ending looks, subst (λ (d : Due). TalksUntil d old new answer) h.2 talks))

  -- where its session was opened
  pub follows_job : (bytes : List ℕ) (due : Due) (old new : Option (List Event)) (silent : Type 0) (answer : Result (Unit {0}) EngineError) → length bytes ≤ most_document_bytes
      → IsOkAnd (job_of meaning bytes) (λ job. WithOwnText bytes (λ own. due ≡ due_of acts ending (live_replying acts ending looks) detail own job)) → TalksUntil due old new answer → Follows meaning acts ending looks detail bytes old new silent answer
  follows_job bytes due old new silent answer short h talks =
      subst (λ (r : Result (Job P) EngineError). FollowsIf acts ending looks detail bytes r old new silent answer) (sym (admitted_if bytes (job_of meaning bytes) short (ap (λ b. job_of meaning b) (λ k. bytes))))
      (talked_if bytes (job_of meaning bytes) due old new silent answer h talks)

  too_long : (source : Option (List ℕ)) (old new : Option (List Event)) (silent : Type 0) (answer : Result (Unit {0}) EngineError) → IfSome source (λ all. most_document_bytes < length all) → answer ≡ Err TooLong → silent → IfSome source (λ all. Follows meaning acts ending looks detail all old new silent answer)
  too_long None old new silent answer long is nothing = tt
  too_long (Some all) old new silent answer long is nothing = refused all TooLong old new silent answer (admitted_long all long) is nothing

  unread : (source : Option (List ℕ)) (old new : Option (List Event)) (silent : Type 0) (answer : Result (Unit {0}) EngineError) → IsFailure answer → silent → IfSome source (λ all. Follows meaning acts ending looks detail all old new silent answer)
  unread None old new silent answer failure nothing = tt
  unread (Some all) old new silent answer failure nothing = fails all (admitted meaning all) old new silent answer failure nothing

  -- where the document was not read
  pub follows_unread : {X : Type 0} (source : Option (List ℕ)) (r : Result X EngineError) (e : EngineError) (old new : Option (List Event)) (silent : Type 0) (answer : Result (Unit {0}) EngineError) → r ≡ Err e → IsUnread e
      → (r ≡ Err TooLong → IfSome source (λ all. most_document_bytes < length all)) → IsErrAnd answer (λ x. x ≡ e) → silent → IfSome source (λ all. Follows meaning acts ending looks detail all old new silent answer)
  follows_unread source r Read old new silent answer was of long made nothing = unread source old new silent answer (inl (err_of answer Read made)) nothing
  follows_unread source r TooLong old new silent answer was of long made nothing = too_long source old new silent answer (long was) (err_of answer TooLong made) nothing
  follows_unread source r NoMemory old new silent answer was of long made nothing = unread source old new silent answer (inr (err_of answer NoMemory made)) nothing
  follows_unread source r (Refused fault) old new silent answer was of long made nothing = absurd of
  follows_unread source r Write old new silent answer was of long made nothing = absurd of
