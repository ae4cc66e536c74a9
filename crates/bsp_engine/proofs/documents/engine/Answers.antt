use Rattle.std.proofs.Common.{List, ℕ, refl, inl, inr, Ok, Err, subst}
use Rattle.std.specs.Io.KnownBytes.{Appends}
use Rattle.bsp_engine.specs.Flow.{AppendsPrefix}
use Rattle.bsp_engine.specs.declared.errors.EngineError.TheVariants.{Write}
use Rattle.bsp_engine.specs.Inside.Report.{report_of}
use Rattle.bsp_engine.proofs.Answering.{answered, answered_job}
use Rattle.bsp_engine.proofs.LawOfReports.{is_answered_read}
use Rattle.bsp_engine.proofs.TooLong.{is_answered_unread}
use Rattle.bsp_engine.proofs.documents.engine.Goals as goal

pub returns-in_err-read_all-clause-answer : goal.returns-in_err-read_all-clause-answer
returns-in_err-read_all-clause-answer g c =
    is_answered_unread g.C.Catalogue.meaning g.C.Program.Program.acts g.C.Program.Program.ending g.C.Program.Program.looks c.args.options.scratch c.args.options.detail (g.S.Source.remaining c.args.reader.now) c.read_all.result
    c.in_err-read_all.field-0.0 (g.K.Sink.contents c.args.writer.now) (g.K.Sink.contents c.args.writer.now) c.from_residual.result c.in_err-read_all.was c.in_err-read_all.ensures.unread c.read_all.ensures.long c.from_residual.ensures.1

pub returns-in_err-put_report_of-clause-answer : goal.returns-in_err-put_report_of-clause-answer
returns-in_err-put_report_of-clause-answer g c =
    let report = report_of g.C.Catalogue.meaning g.C.Program.Program.acts g.C.Program.Program.ending g.C.Program.Program.looks c.args.options.scratch c.args.options.detail c.as_slice.result.now in
    is_answered_read g.C.Catalogue.meaning g.C.Program.Program.acts g.C.Program.Program.ending g.C.Program.Program.looks c.args.options.scratch c.args.options.detail (g.S.Source.remaining c.args.reader.now) c.as_slice.result.now c.read_all.new.document.items
    (g.K.Sink.contents c.args.writer.now) (g.K.Sink.contents c.args.writer.now) c.from_residual-in_err-put_report_of.result c.as_slice.ensures.value c.in_ok-read_all.ensures.all
    (answered_job report c.in_err-put_report_of.field-0.0 (g.K.Sink.contents c.args.writer.now) (g.K.Sink.contents c.args.writer.now) c.from_residual-in_err-put_report_of.result c.from_residual-in_err-put_report_of.ensures.1 c.in_err-put_report_of.ensures.fault)

pub returns-in-Ok-clause-answer : goal.returns-in-Ok-clause-answer
returns-in-Ok-clause-answer g c =
    let report = report_of g.C.Catalogue.meaning g.C.Program.Program.acts g.C.Program.Program.ending g.C.Program.Program.looks c.args.options.scratch c.args.options.detail c.as_slice.result.now in
    is_answered_read g.C.Catalogue.meaning g.C.Program.Program.acts g.C.Program.Program.ending g.C.Program.Program.looks c.args.options.scratch c.args.options.detail (g.S.Source.remaining c.args.reader.now) c.as_slice.result.now c.read_all.new.document.items
    (g.K.Sink.contents c.args.writer.now) (g.K.Sink.contents c.write_text.new.sink) (Ok tt) c.as_slice.ensures.value c.in_ok-read_all.ensures.all
    (answered report (Ok c.put_report_of.new.text.items) (g.K.Sink.contents c.args.writer.now) (g.K.Sink.contents c.write_text.new.sink) (Ok tt) c.in_ok-put_report_of.ensures.ok (inl (inl (refl, subst (λ (text : List ℕ). Appends (g.K.Sink.contents c.args.writer.now) (g.K.Sink.contents c.write_text.new.sink) text) c.as_slice-2.ensures.value c.in-Ok.ensures.ok))))

pub returns-clause-answer : goal.returns-clause-answer
returns-clause-answer g c =
    let report = report_of g.C.Catalogue.meaning g.C.Program.Program.acts g.C.Program.Program.ending g.C.Program.Program.looks c.args.options.scratch c.args.options.detail c.as_slice.result.now in
    is_answered_read g.C.Catalogue.meaning g.C.Program.Program.acts g.C.Program.Program.ending g.C.Program.Program.looks c.args.options.scratch c.args.options.detail (g.S.Source.remaining c.args.reader.now) c.as_slice.result.now c.read_all.new.document.items
    (g.K.Sink.contents c.args.writer.now) (g.K.Sink.contents c.write_text.new.sink) (Err Write) c.as_slice.ensures.value c.in_ok-read_all.ensures.all
    (answered report (Ok c.put_report_of.new.text.items) (g.K.Sink.contents c.args.writer.now) (g.K.Sink.contents c.write_text.new.sink) (Err Write) c.in_ok-put_report_of.ensures.ok (inl (inr (refl, subst (λ (text : List ℕ). AppendsPrefix (g.K.Sink.contents c.args.writer.now) (g.K.Sink.contents c.write_text.new.sink) text) c.as_slice-2.ensures.value c.in-Err.ensures.err))))
