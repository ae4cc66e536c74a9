use Rattle.std.proofs.Common.{◌≡◌, List, ℕ, refl}
use Rattle.bsp_engine.specs.declared.conversation.Attendant.{Attendant}
use Rattle.bsp_engine.specs.declared.jobs.Job.{Job}
use Rattle.bsp_engine.specs.Document.{WithOwnText}
use Rattle.bsp_engine.specs.JobOf.{job_of}
use Rattle.bsp_engine.specs.Live.{due_of}
use Rattle.bsp_engine.specs.Inside.DueAt.{due_from}
use Rattle.bsp_engine.specs.Inside.LiveReplies.{live_replying}
use Rattle.bsp_engine.proofs.Beginning.{due_from_job, first_text_is, for_job}
use Rattle.bsp_engine.proofs.conversation.attendant_of.Goals as goal

pub returns-clause-ok : goal.returns-clause-ok
returns-clause-ok g c =
    let acts = g.C.Program.Program.acts in
    let ending = g.C.Program.Program.ending in
    let looks = g.C.Program.Program.looks in
    let attendant : Attendant _ = record { live = c.in_ok-live.live; last = c.len-last.result; own = c.in_ok-job.own; text = c.begin.new.text } in
    for_job (job_of g.C.Catalogue.meaning c.args.bytes.now) c.in_ok-job.job
    (λ (job : Job _). WithOwnText c.args.bytes.now (λ (own : List ℕ). due_from acts ending looks attendant ≡ due_of acts ending (live_replying acts ending looks) c.args.detail own job))
    c.in_ok-job.ensures.ok (
      c.in_ok-job.own.items,
      c.in_ok-job.ensures.own,
      due_from_job acts ending looks c.args.detail c.in_ok-job.own.items c.in_ok-job.job attendant refl
          (first_text_is acts ending looks c.args.detail c.in_ok-job.job _ _ c.new-text.ensures.items c.in_ok-live.ensures.text) c.len-last.ensures c.in_ok-live.ensures.live,
    )
