-- The report that is computed is that of the document.
use Rattle.std.proofs.Common.{◌≡◌, ◌∙◌, ℕ, Bool, true, false, cond, List, Option, None, Some, Result, Ok, Err, refl, subst}
use Rattle.std.specs.Prelude.{IfSome}
use Rattle.bsp_model.specs.declared.fault.End.{End}
use Rattle.bsp_model.specs.declared.fault.InputFault.{InputFault}
use Rattle.bsp_model.specs.Input.{input_fault}
use Rattle.bsp_step.specs.ViewParts.{ViewParts}
use Rattle.bsp_step.specs.Act.{Act}
use Rattle.bsp_step.specs.Turn.{turn_of}
use Rattle.bsp_incr.specs.Inside.Replies.{replies}
use Rattle.bsp_incr.proofs.Replying.{law_of_replies}
use Rattle.toml.specs.Data.{Members}
use Rattle.bsp_engine.specs.declared.errors.JobFault.{JobFault}
use Rattle.bsp_engine.specs.declared.errors.JobFault.TheVariants.{BadWord}
use Rattle.bsp_engine.specs.declared.errors.EngineError.{EngineError}
use Rattle.bsp_engine.specs.declared.errors.EngineError.TheVariants.{TooLong}
use Rattle.bsp_engine.specs.declared.jobs.Job.{Job}
use Rattle.bsp_engine.specs.Answer.{Answers}
use Rattle.bsp_options.specs.declared.options.Detail.{Detail}
use Rattle.bsp_engine.specs.Catalogue.{Meaning}
use Rattle.bsp_engine.specs.JobOf.{job_with, job_named, job_unless, job_of_tree, job_of}
use Rattle.bsp_engine.specs.Keys.{key_fault}
use Rattle.bsp_engine.specs.Signs.{has_negative_word}
use Rattle.bsp_engine.specs.Sizes.{described_fault}
use Rattle.bsp_engine.specs.Tree.{tree_of}
use Rattle.bsp_engine.specs.Values.{input_of, batches_of}
use Rattle.bsp_engine.specs.Reported.{AreRepliesTo, IsJobReport, IsReportUnless, is_too_long, IsReport, IsAnswered}
use Rattle.bsp_engine.specs.Inside.Replies.{replies_of}
use Rattle.bsp_engine.specs.Inside.Report.{job_report, report_of}
use Rattle.bsp_engine.proofs.LawfulInputs.{lawful_described}

pub law_of_replies_to : {P : Type 0} (acts : P → ViewParts → List Act) (ending : P → ViewParts → End) (looks : P → ViewParts → ℕ → Bool) (scratch : Bool) (job : Job P) → input_fault job.input ≡ None → AreRepliesTo acts ending looks scratch job (replies_of acts ending looks scratch job)
unfolding replies_of
law_of_replies_to acts ending looks true job lawful =
    let turn = turn_of (acts job.program) (ending job.program) in
    record { whole = replies (looks job.program) turn job.input job.batches; are = law_of_replies (looks job.program) turn job.input job.batches lawful; without = refl }
law_of_replies_to acts ending looks false job lawful = law_of_replies (looks job.program) (turn_of (acts job.program) (ending job.program)) job.input job.batches lawful

-- the input of a job that a document has is lawful
abbrev IsLawful : {P : Type 0} → Result (Job P) JobFault → Type 0
IsLawful (Ok job) = input_fault job.input ≡ None
IsLawful (Err fault) = Unit {0}

lawful_signed : {P : Type 0} (b : Bool) (program : P) (t : Members) → described_fault t ≡ None → IsLawful (cond b (Err BadWord) (Ok (record { program = program; input = input_of t; batches = batches_of t })))
lawful_signed true program t h = tt
lawful_signed false program t h = lawful_described t h

lawful_with : {P : Type 0} (meaning : Meaning P) (program : P) (o : Option InputFault) (t : Members) → described_fault t ≡ o → IsLawful (job_with meaning program o t)
lawful_with meaning program (Some fault) t h = tt
lawful_with meaning program None t h = lawful_signed (has_negative_word meaning t) program t h

lawful_named : {P : Type 0} (meaning : Meaning P) (o : Option P) (t : Members) → IsLawful (job_named meaning o t)
lawful_named meaning None t = tt
lawful_named meaning (Some program) t = lawful_with meaning program (described_fault t) t refl

lawful_unless : {P : Type 0} (meaning : Meaning P) (o : Option JobFault) (t : Members) → IsLawful (job_unless meaning o t)
lawful_unless meaning (Some fault) t = tt
lawful_unless meaning None t = lawful_named meaning (meaning.program_of t) t

lawful_tree : {P : Type 0} (meaning : Meaning P) (o : Option Members) → IsLawful (job_of_tree meaning o)
lawful_tree meaning None = tt
lawful_tree meaning (Some t) = lawful_unless meaning (key_fault meaning t) t

law_of_job : {P : Type 0} (acts : P → ViewParts → List Act) (ending : P → ViewParts → End) (looks : P → ViewParts → ℕ → Bool) (scratch : Bool) (detail : Detail) (job : Result (Job P) JobFault) → IsLawful job
    → IsJobReport acts ending looks scratch detail job (job_report acts ending looks scratch detail job)
law_of_job acts ending looks scratch detail (Ok job) lawful =
    record { replies = replies_of acts ending looks scratch job; are = law_of_replies_to acts ending looks scratch job lawful; is = refl }
law_of_job acts ending looks scratch detail (Err fault) lawful = refl

law_unless : (b : Bool) (report : Result (List ℕ) EngineError) (of_job : Result (List ℕ) EngineError → Type 0) → of_job report → IsReportUnless b (cond b (Err TooLong) report) (of_job (cond b (Err TooLong) report))
law_unless true report of_job h = refl
law_unless false report of_job h = h

is_report : {P : Type 0} (meaning : Meaning P) (acts : P → ViewParts → List Act) (ending : P → ViewParts → End) (looks : P → ViewParts → ℕ → Bool) (scratch : Bool) (detail : Detail) (bytes : List ℕ)
    → IsReport meaning acts ending looks scratch detail bytes (report_of meaning acts ending looks scratch detail bytes)
is_report meaning acts ending looks scratch detail bytes =
    law_unless (is_too_long bytes) (job_report acts ending looks scratch detail (job_of meaning bytes)) (IsJobReport acts ending looks scratch detail (job_of meaning bytes))
    (law_of_job acts ending looks scratch detail (job_of meaning bytes) (lawful_tree meaning (tree_of bytes)))

-- Whoever is answered by the report that is computed is answered by the document's.
pub is_answered : {P : Type 0} (meaning : Meaning P) (acts : P → ViewParts → List Act) (ending : P → ViewParts → End) (looks : P → ViewParts → ℕ → Bool) (scratch : Bool) (detail : Detail) (source old new : Option (List ℕ)) (answer : Result (Unit {0}) EngineError)
    → IfSome source (λ bytes. Answers (report_of meaning acts ending looks scratch detail bytes) old new answer) → IfSome source (λ bytes. IsAnswered meaning acts ending looks scratch detail bytes old new answer)
is_answered meaning acts ending looks scratch detail None old new answer h = tt
is_answered meaning acts ending looks scratch detail (Some bytes) old new answer h =
    record { report = report_of meaning acts ending looks scratch detail bytes; is = is_report meaning acts ending looks scratch detail bytes; answers = h }

-- the same of bytes that were read
pub is_answered_read : {P : Type 0} (meaning : Meaning P) (acts : P → ViewParts → List Act) (ending : P → ViewParts → End) (looks : P → ViewParts → ℕ → Bool) (scratch : Bool) (detail : Detail) (source : Option (List ℕ)) (slice bytes : List ℕ) (old new : Option (List ℕ)) (answer : Result (Unit {0}) EngineError)
    → slice ≡ bytes → IfSome source (λ all. bytes ≡ all) → Answers (report_of meaning acts ending looks scratch detail slice) old new answer → IfSome source (λ all. IsAnswered meaning acts ending looks scratch detail all old new answer)
is_answered_read meaning acts ending looks scratch detail None slice bytes old new answer same read h = tt
is_answered_read meaning acts ending looks scratch detail (Some all) slice bytes old new answer same read h =
    is_answered meaning acts ending looks scratch detail (Some all) old new answer (subst (λ (b : List ℕ). Answers (report_of meaning acts ending looks scratch detail b) old new answer) (same ∙ read) h)
