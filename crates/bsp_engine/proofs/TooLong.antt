-- A document past the largest size has no report.
use Rattle.std.proofs.Common.{◌≡◌, ◌<◌, ℕ, Bool, List, length, Option, Result, Err, nat_lt, true, arith}
use Rattle.std.specs.Prelude.{IfSome, IsErrAnd}
use Rattle.std.proofs.lemmas.Bool.Decides.{nat_tests}
use Rattle.bsp_model.specs.Limits.{most_document_bytes}
use Rattle.bsp_model.specs.declared.fault.End.{End}
use Rattle.bsp_step.specs.ViewParts.{ViewParts}
use Rattle.bsp_step.specs.Act.{Act}
use Rattle.bsp_engine.specs.declared.errors.EngineError.{EngineError}
use Rattle.bsp_engine.specs.declared.errors.EngineError.TheVariants.{TooLong}
use Rattle.bsp_options.specs.declared.options.Detail.{Detail}
use Rattle.bsp_engine.specs.Catalogue.{Meaning}
use Rattle.bsp_engine.specs.Reported.{IsAnswered}
use Rattle.bsp_engine.specs.Inside.Refusal.{IsUnread}
use Rattle.bsp_engine.specs.Inside.Report.{report_of}
use Rattle.bsp_engine.proofs.Answering.{answered_read}
use Rattle.bsp_engine.proofs.LawOfReports.{is_answered}

pub report_of-long : {P : Type 0} (meaning : Meaning P) (acts : P → ViewParts → List Act) (ending : P → ViewParts → End) (looks : P → ViewParts → ℕ → Bool) (scratch : Bool) (detail : Detail) (all : List ℕ) → most_document_bytes < length all → report_of meaning acts ending looks scratch detail all ≡ Err TooLong
report_of-long meaning acts ending looks scratch detail all h = let long : nat_lt most_document_bytes (length all) ≡ true = grind (arith, nat_tests) in rw long

-- what is answered to a document that was not read
pub is_answered_unread : {X P : Type 0} (meaning : Meaning P) (acts : P → ViewParts → List Act) (ending : P → ViewParts → End) (looks : P → ViewParts → ℕ → Bool) (scratch : Bool) (detail : Detail) (source : Option (List ℕ)) (r : Result X EngineError) (e : EngineError) (old new : Option (List ℕ)) (answer : Result (Unit {0}) EngineError)
    → r ≡ Err e → IsUnread e → (r ≡ Err TooLong → IfSome source (λ all. most_document_bytes < length all)) → IsErrAnd answer (λ x. x ≡ e) → IfSome source (λ all. IsAnswered meaning acts ending looks scratch detail all old new answer)
is_answered_unread meaning acts ending looks scratch detail source r e old new answer was unread long made =
    is_answered meaning acts ending looks scratch detail source old new answer
    (answered_read (report_of meaning acts ending looks scratch detail) (report_of-long meaning acts ending looks scratch detail) source r e old new answer was unread long made)
