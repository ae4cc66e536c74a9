-- The replies to a job, as a function of it.
use Rattle.std.specs.Prelude.{ℕ, Bool, List, map, if◌then◌else◌}
use Rattle.bsp_model.specs.declared.fault.End.{End}
use Rattle.bsp_step.specs.ViewParts.{ViewParts}
use Rattle.bsp_step.specs.Act.{Act}
use Rattle.bsp_step.specs.Turn.{turn_of}
use Rattle.bsp_incr.specs.Replies.{without_update}
use Rattle.bsp_incr.specs.Inside.Replies.{replies}
use Rattle.bsp_incr.specs.declared.reply.Reply.{Reply}
use Rattle.bsp_engine.specs.declared.jobs.Job.{Job}
use Rattle.bsp_options.specs.declared.options.Detail.{Detail}
use Rattle.bsp_engine.specs.Told.{ToldReply}
use Rattle.bsp_engine.specs.Reported.{told_to}

-- The replies of a session of the job's program, by the acts, the endings and the footprints of programs: to its input, and then one to each batch.
-- Runs made from scratch have no updates.
unfoldable pub replies_of : {P : Type 0} → (P → ViewParts → List Act) → (P → ViewParts → End) → (P → ViewParts → ℕ → Bool) → Bool → Job P → List Reply
replies_of acts ending looks scratch job =
    let all = replies (looks job.program) (turn_of (acts job.program) (ending job.program)) job.input job.batches in
    if scratch then map without_update all else all

-- the same as the blocks of a report tell them
abbrev pub job_told : {P : Type 0} → (P → ViewParts → List Act) → (P → ViewParts → End) → (P → ViewParts → ℕ → Bool) → Bool → Detail → Job P → List ToldReply
job_told acts ending looks scratch detail job = told_to acts ending looks detail job (replies_of acts ending looks scratch job)
