-- The replies of an open session, as functions of it.
use Rattle.std.specs.Prelude.{ℕ, Bool, false, List, [], ◌∷◌, None, Some}
use Rattle.bsp_model.specs.declared.input.Input.{Input}
use Rattle.bsp_model.specs.declared.fault.End.{End}
use Rattle.bsp_step.specs.ViewParts.{ViewParts}
use Rattle.bsp_step.specs.Act.{Act}
use Rattle.bsp_step.specs.Turn.{turn_of}
use Rattle.bsp_run.specs.Run.{run}
use Rattle.bsp_incr.specs.declared.edit.Edit.{Edit}
use Rattle.bsp_incr.specs.declared.reply.Reply.{Reply}
use Rattle.bsp_incr.specs.Replies.{input_after}
use Rattle.bsp_incr.specs.Inside.Replies.{done, reply_to}
use Rattle.bsp_engine.specs.Blocks.{reply_block}
use Rattle.bsp_engine.specs.Live.{LiveParts, Replying, after_batch}
use Rattle.bsp_engine.specs.Told.{ToldReply, told_by}
use Rattle.bsp_engine.specs.Inside.Replies.{job_told}
use Rattle.bsp_options.specs.declared.options.Detail.{Detail}

-- the reply to the opening
abbrev pub opening_reply : {P : Type 0} → (P → ViewParts → List Act) → (P → ViewParts → End) → (P → ViewParts → ℕ → Bool) → P → Input → Reply
opening_reply acts ending looks program input = done (looks program) None (run (turn_of (acts program) (ending program)) input)

abbrev pub opening_block : {P : Type 0} → (P → ViewParts → List Act) → (P → ViewParts → End) → (P → ViewParts → ℕ → Bool) → Detail → P → Input → List ℕ
opening_block acts ending looks detail program input =
    let opening = opening_reply acts ending looks program input in
    reply_block detail.places 0 None (told_by detail (looks program) None (run (turn_of (acts program) (ending program)) input) opening)

-- the session after a batch, with nothing more to take back
abbrev pub advanced : {P : Type 0} → LiveParts P → List Edit → LiveParts P
advanced live batch = record live { input = input_after live.input batch }

-- the reply to a batch, as its block tells it
unfoldable pub live_reply : {P : Type 0} → (P → ViewParts → List Act) → (P → ViewParts → End) → (P → ViewParts → ℕ → Bool) → LiveParts P → List Edit → ToldReply
live_reply acts ending looks live batch =
    let turn = turn_of (acts live.program) (ending live.program) in
    told_by live.detail (looks live.program) (Some (run turn live.input)) (run turn (input_after live.input batch)) (reply_to (looks live.program) turn live.input batch)

-- the replies to batches, one after the other
abbrev pub live_replies : {P : Type 0} → (P → ViewParts → List Act) → (P → ViewParts → End) → (P → ViewParts → ℕ → Bool) → LiveParts P → List (List Edit) → List ToldReply
live_replies acts ending looks live [] = []
live_replies acts ending looks live (batch ∷ later) = live_reply acts ending looks live batch ∷ live_replies acts ending looks (after_batch live batch) later

abbrev pub live_replying : {P : Type 0} → (P → ViewParts → List Act) → (P → ViewParts → End) → (P → ViewParts → ℕ → Bool) → Replying P
live_replying acts ending looks = record { job = job_told acts ending looks false; batch = live_reply acts ending looks }
