use Rattle.std.proofs.Common.{◌≡◌, ◌∙◌, ◌++◌, List, OnOk, ap, false, subst}
use Rattle.bsp_incr.specs.declared.edit.Edit.{Edit}
use Rattle.bsp_engine.specs.Blocks.{text_of}
use Rattle.bsp_engine.specs.Live.{LiveParts, after_batches, opened}
use Rattle.bsp_engine.specs.Inside.Replies.{job_told}
use Rattle.bsp_engine.proofs.Beginning.{begun_text}
use Rattle.bsp_engine.proofs.Handing.{and_told}
use Rattle.bsp_causes.proofs.Handing.{and_given}
use Rattle.bsp_engine.proofs.live_blocks.begin.Goals as goal

pub returns-in-Ok-clause-live : goal.returns-in-Ok-clause-live
returns-in-Ok-clause-live g c =
    let opening = opened c.args.detail c.args.job.program c.args.job.input in
    and_given c.tell_all-told.result c.tell_all-told.new.live c.and.result _ c.and.ensures
    (λ after. after ∙ ap (λ (v : LiveParts _). after_batches v c.as_slice.result.now) c.in-Ok.ensures.live ∙ ap (λ (bs : List (List Edit)). after_batches opening bs) c.as_slice.ensures) c.tell_all-told.ensures.live

pub returns-in-Ok-clause-text : goal.returns-in-Ok-clause-text
returns-in-Ok-clause-text g c =
    subst (λ (bs : List (List Edit)). OnOk c.and.result (c.tell_all-told.new.text.items ≡ c.args.text.now.items
    ++ text_of c.args.detail (job_told g.P.Program.acts g.P.Program.ending g.P.Program.looks false c.args.detail (record { program = c.args.job.program; input = c.args.job.input; batches = bs })) ++ c.args.end.now)) c.as_slice.ensures
    (and_told c.tell_all-told.result c.tell_all-told.new.live c.and.result _ _ c.and.ensures
    (λ text. begun_text g.P.Program.acts g.P.Program.ending g.P.Program.looks c.args.detail (record { program = c.args.job.program; input = c.args.job.input; batches = c.as_slice.result.now }) c.in-Ok.live c.args.text.now.items _ c.args.end.now
    c.in-Ok.ensures.live text) c.tell_all-told.ensures.text)
