use Rattle.std.proofs.Common.{◌≡◌, List, ℕ, inr, refl}
use Rattle.bsp_engine.specs.Followed.{Follows}
use Rattle.bsp_engine.specs.Inside.DueAt.{due_from}
use Rattle.bsp_engine.proofs.Beginning.{when_read}
use Rattle.bsp_engine.proofs.Conversations.{reads_fail, writes_fail}
use Rattle.bsp_engine.proofs.SessionOf.{follows_job, follows_no_job, follows_unread, no_job_is_no_read, no_job_is_no_write}
use Rattle.bsp_engine.proofs.documents.follow.Goals as goal

pub returns-in_err-read_all-clause-answer : goal.returns-in_err-read_all-clause-answer
returns-in_err-read_all-clause-answer g c =
    follows_unread g.C.Catalogue.meaning g.C.Program.Program.acts g.C.Program.Program.ending g.C.Program.Program.looks c.args.options.detail (g.S.Source.remaining c.args.source.now) c.read_all.result c.in_err-read_all.field-0.0
    (g.T.Terminal.log c.args.terminal.now) (g.T.Terminal.log c.args.terminal.now) (c.args.terminal.now ≡ c.args.terminal.now) c.from_residual.result c.in_err-read_all.was c.in_err-read_all.ensures.unread c.read_all.ensures.long c.from_residual.ensures.1 refl

pub returns-in_err-attendant-clause-answer : goal.returns-in_err-attendant-clause-answer
returns-in_err-attendant-clause-answer g c =
    let log = g.T.Terminal.log c.args.terminal.now in
    when_read (g.S.Source.remaining c.args.source.now) c.as_slice.result.now c.read_all.new.document.items
    (λ (bytes : List ℕ). Follows g.C.Catalogue.meaning g.C.Program.Program.acts g.C.Program.Program.ending g.C.Program.Program.looks c.args.options.detail bytes log log (c.args.terminal.now ≡ c.args.terminal.now) c.from_residual-in_err-attendant.result)
    c.as_slice.ensures.value c.in_ok-read_all.ensures.all
    (follows_no_job g.C.Catalogue.meaning g.C.Program.Program.acts g.C.Program.Program.ending g.C.Program.Program.looks c.args.options.detail c.as_slice.result.now c.in_err-attendant.field-0.0 log log (c.args.terminal.now ≡ c.args.terminal.now) c.from_residual-in_err-attendant.result
    (rw c.as_slice.ensures.value c.in_ok-read_all.ensures.fits) c.from_residual-in_err-attendant.ensures.1 c.in_err-attendant.ensures.fault refl)

pub returns-in_err-attendant-clause-read_failed : goal.returns-in_err-attendant-clause-read_failed
returns-in_err-attendant-clause-read_failed g c = λ is. absurd (no_job_is_no_read c.in_err-attendant.field-0.0 c.from_residual-in_err-attendant.result c.from_residual-in_err-attendant.ensures.1 is)

pub returns-in_err-attendant-clause-write_failed : goal.returns-in_err-attendant-clause-write_failed
returns-in_err-attendant-clause-write_failed g c = λ is. absurd (no_job_is_no_write c.in_err-attendant.field-0.0 c.from_residual-in_err-attendant.result c.from_residual-in_err-attendant.ensures.1 is)

pub returns-clause-answer : goal.returns-clause-answer
returns-clause-answer g c =
    when_read (g.S.Source.remaining c.args.source.now) c.as_slice.result.now c.read_all.new.document.items
    (λ (bytes : List ℕ). Follows g.C.Catalogue.meaning g.C.Program.Program.acts g.C.Program.Program.ending g.C.Program.Program.looks c.args.options.detail bytes (g.T.Terminal.log c.args.terminal.now) (g.T.Terminal.log c.talk-talked.new.terminal) (c.talk-talked.new.terminal ≡ c.args.terminal.now) c.talk-talked.result)
    c.as_slice.ensures.value c.in_ok-read_all.ensures.all
    (follows_job g.C.Catalogue.meaning g.C.Program.Program.acts g.C.Program.Program.ending g.C.Program.Program.looks c.args.options.detail c.as_slice.result.now (due_from g.C.Program.Program.acts g.C.Program.Program.ending g.C.Program.Program.looks c.in_ok-attendant.attendant)
    (g.T.Terminal.log c.args.terminal.now) (g.T.Terminal.log c.talk-talked.new.terminal) (c.talk-talked.new.terminal ≡ c.args.terminal.now) c.talk-talked.result (rw c.as_slice.ensures.value c.in_ok-read_all.ensures.fits) c.in_ok-attendant.ensures.ok c.talk-talked.ensures)

pub returns-clause-read_failed : goal.returns-clause-read_failed
returns-clause-read_failed g c = λ is. inr (reads_fail c.talk-talked.result (due_from g.C.Program.Program.acts g.C.Program.Program.ending g.C.Program.Program.looks c.in_ok-attendant.attendant) (g.T.Terminal.log c.args.terminal.now) (g.T.Terminal.log c.talk-talked.new.terminal) c.talk-talked.ensures is)

pub returns-clause-write_failed : goal.returns-clause-write_failed
returns-clause-write_failed g c = writes_fail c.talk-talked.result (due_from g.C.Program.Program.acts g.C.Program.Program.ending g.C.Program.Program.looks c.in_ok-attendant.attendant) (g.T.Terminal.log c.args.terminal.now) (g.T.Terminal.log c.talk-talked.new.terminal) c.talk-talked.ensures
