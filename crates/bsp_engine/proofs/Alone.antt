-- Replies without updates, of which no more is told.
use Rattle.std.proofs.Common.{◌≡◌, List, [], ◌∷◌, map, true, refl, ap, ℕ, Bool}
use Rattle.bsp_model.specs.declared.input.Input.{Input}
use Rattle.bsp_model.specs.declared.fault.End.{End}
use Rattle.bsp_step.specs.ViewParts.{ViewParts}
use Rattle.bsp_step.specs.OutcomeParts.{OutcomeParts}
use Rattle.bsp_step.specs.Act.{Act}
use Rattle.bsp_step.specs.Turn.{turn_of}
use Rattle.bsp_incr.specs.declared.edit.Edit.{Edit}
use Rattle.bsp_incr.specs.declared.reply.Reply.{Reply}
use Rattle.bsp_incr.specs.declared.reply.Reply.TheVariants.{Done, Refused}
use Rattle.bsp_incr.specs.Replies.{input_after, without_update}
use Rattle.bsp_incr.specs.Inside.Replies.{replies}
use Rattle.bsp_engine.specs.declared.jobs.Job.{Job}
use Rattle.bsp_options.specs.declared.options.Detail.{Detail}
use Rattle.bsp_engine.specs.Told.{alone, told_after, told_of}
use Rattle.bsp_engine.specs.Inside.Replies.{job_told, replies_of}

told_alone-after : (detail : Detail) (looks : ViewParts → ℕ → Bool) (turn : ViewParts → OutcomeParts) (input : Input) (batches : List (List Edit)) (replies : List Reply)
    → told_after detail looks turn input batches (map without_update replies) ≡ map alone (map without_update replies)
told_alone-after detail looks turn input batches [] = refl
told_alone-after detail looks turn input [] (reply ∷ replies) = ap (λ l. alone (without_update reply) ∷ l) (told_alone-after detail looks turn input [] replies)
told_alone-after detail looks turn input (batch ∷ later) (Done result update ∷ replies) = ap (λ l. alone (without_update (Done result update)) ∷ l) (told_alone-after detail looks turn (input_after input batch) later replies)
told_alone-after detail looks turn input (batch ∷ later) (Refused refusal ∷ replies) = ap (λ l. alone (Refused refusal) ∷ l) (told_alone-after detail looks turn (input_after input batch) later replies)

told_alone-of : (detail : Detail) (looks : ViewParts → ℕ → Bool) (turn : ViewParts → OutcomeParts) (input : Input) (batches : List (List Edit)) (replies : List Reply)
    → told_of detail looks turn input batches (map without_update replies) ≡ map alone (map without_update replies)
told_alone-of detail looks turn input batches [] = refl
told_alone-of detail looks turn input batches (Done result update ∷ replies) = ap (λ l. alone (without_update (Done result update)) ∷ l) (told_alone-after detail looks turn input batches replies)
told_alone-of detail looks turn input batches (Refused refusal ∷ replies) = ap (λ l. alone (Refused refusal) ∷ l) (told_alone-after detail looks turn input batches replies)

-- Of runs made from scratch there is no update to tell of.
pub scratch_told : {P : Type 0} (acts : P → ViewParts → List Act) (ending : P → ViewParts → End) (looks : P → ViewParts → ℕ → Bool) (detail : Detail) (job : Job P)
    → job_told acts ending looks true detail job ≡ map alone (replies_of acts ending looks true job)
unfolding replies_of
scratch_told acts ending looks detail job =
    let turn = turn_of (acts job.program) (ending job.program) in
    told_alone-of detail (looks job.program) turn job.input job.batches (replies (looks job.program) turn job.input job.batches)
