-- Laws of live sessions.
use Rattle.std.proofs.Common.{◌≡◌, ℕ, ◌+◌, Bool, cond, false, List, [], ◌∷◌, ◌++◌, map, length, codes, Option, None, Some, refl, sym, ap, ◌∙◌, append_assoc, arith}
use Rattle.bsp_model.specs.declared.input.Input.{Input}
use Rattle.bsp_model.specs.Input.{input_fault}
use Rattle.bsp_model.specs.declared.fault.End.{End}
use Rattle.bsp_step.specs.ViewParts.{ViewParts}
use Rattle.bsp_step.specs.Act.{Act}
use Rattle.bsp_step.specs.Turn.{turn_of}
use Rattle.bsp_run.specs.Run.{run}
use Rattle.bsp_incr.specs.declared.edit.Edit.{Edit}
use Rattle.bsp_incr.specs.declared.edit.EditRefusal.{EditRefusal}
use Rattle.bsp_incr.specs.Edits.{refusal_of, edited}
use Rattle.bsp_incr.specs.Undo.{undo_of}
use Rattle.bsp_incr.specs.Replies.{input_after, input_if}
use Rattle.bsp_incr.specs.Inside.Replies.{done, reply_to}
use Rattle.bsp_incr.proofs.Replying.{law_of_replies, law_of_reply, lawful_after, replies_fixed}
use Rattle.bsp_incr.proofs.TakingBack.{undone}
use Rattle.bsp_engine.proofs.LawOfReports.{law_of_replies_to}
use Rattle.bsp_engine.specs.declared.asked.Asked.{Asked}
use Rattle.bsp_engine.specs.declared.asked.Asked.TheVariants.{Batch, Undo}
use Rattle.std.specs.List.{list_any}
use Rattle.std.proofs.lemmas.Bool.{or_parts}
use Rattle.bsp_engine.specs.declared.jobs.Job.{Job}
use Rattle.bsp_engine.specs.LineLaws.{LinesAreBatches}
use Rattle.bsp_engine.specs.Asked.{asked_of, asks_for_text}
use Rattle.bsp_engine.specs.Live.{LiveParts, Replying, asked_text, after, after_batch, after_batches, opened, undos_after, last_result, run_of, answer_to, answer_block, blocks, first_text, due_of, AreLiveReplies}
use Rattle.bsp_engine.specs.Inside.LiveReplies.{live_reply, live_replies, live_replying, opening_block}
use Rattle.bsp_engine.specs.Inside.Replies.{job_told, replies_of}
use Rattle.bsp_engine.specs.Reported.{told_to}
use Rattle.bsp_engine.specs.Told.{ToldReply, told_by}
use Rattle.bsp_engine.specs.Blocks.{blocks_after, reply_block, text_of}
use Rattle.bsp_options.specs.declared.options.Detail.{Detail}
use Rattle.bsp_engine.proofs.Beginning.{blocks-batch, report_is}

module _ {P : Type 0} (acts : P → ViewParts → List Act) (ending : P → ViewParts → End) (looks : P → ViewParts → ℕ → Bool) where
  -- Replies that keep the law are those that are computed.
  job_is : (replying : Replying P) (detail : Detail) (job : Job P) → AreLiveReplies acts ending looks replying → input_fault job.input ≡ None → replying.job detail job ≡ job_told acts ending looks false detail job
  unfolding replies_of
  job_is replying detail job are lawful =
      let told = are.job detail job lawful in
      told.gives ∙ ap (told_to acts ending looks detail job) (replies_fixed (looks job.program) (turn_of (acts job.program) (ending job.program)) job.input job.batches told.replies lawful told.are)

  batch_is : (replying : Replying P) (live : LiveParts P) (batch : List Edit) → AreLiveReplies acts ending looks replying → input_fault live.input ≡ None → replying.batch live batch ≡ live_reply acts ending looks live batch
  unfolding live_reply
  batch_is replying live batch are lawful =
      let turn = turn_of (acts live.program) (ending live.program) in
      let opening = done (looks live.program) None (run turn live.input) in
      let told = are.batch live batch lawful in
      let both : opening ∷ told.reply ∷ [] ≡ opening ∷ reply_to (looks live.program) turn live.input batch ∷ [] =
      replies_fixed (looks live.program) turn live.input (batch ∷ []) (opening ∷ told.reply ∷ []) lawful
      ((law_of_replies (looks live.program) turn live.input [] lawful).0, (told.is, refl)) in
      let same : told.reply ≡ reply_to (looks live.program) turn live.input batch = cc in
      told.gives ∙ ap (told_by live.detail (looks live.program) (Some (run turn live.input)) (run turn (input_after live.input batch))) same

  -- what lasts through batches
  lawful_through : (live : LiveParts P) (batches : List (List Edit)) → input_fault live.input ≡ None → input_fault (after_batches live batches).input ≡ None
  lawful_through live [] lawful = lawful
  lawful_through live (b ∷ bs) lawful = lawful_through (after_batch live b) bs (lawful_after live.input b lawful)

  detail_through : (live : LiveParts P) (batches : List (List Edit)) → (after_batches live batches).detail ≡ live.detail
  detail_through live [] = refl
  detail_through live (b ∷ bs) = detail_through (after_batch live b) bs

  -- One definition of a block serves documents and lines: where each line asks for a batch, the blocks are those of a document that has these batches
  -- from block k on.
  blocks-batches : (replying : Replying P) (own : List ℕ) (k : ℕ) (live : LiveParts P) (lines : List (List ℕ)) (batches : List (List Edit)) → AreLiveReplies acts ending looks replying → input_fault live.input ≡ None
      → map asked_of lines ≡ map Batch batches → list_any asks_for_text lines ≡ false
      → blocks acts ending replying own k live lines ≡ blocks_after live.detail k (last_result acts ending live) (live_replies acts ending looks live batches)
  unfolding blocks
  blocks-batches replying own k live [] [] are lawful same none = refl
  blocks-batches replying own k live [] (b ∷ bs) are lawful same none = cc
  blocks-batches replying own k live (l ∷ ls) [] are lawful same none = cc
  blocks-batches replying own k live (l ∷ ls) (b ∷ bs) are lawful same none =
      let first : asked_of l ≡ Batch b = cc in
      let others : map asked_of ls ≡ map Batch bs = cc in
      let (here, more) = or_parts (asks_for_text l) (list_any asks_for_text ls) none in
      let last = last_result acts ending live in
      let places = live.detail.places in
      let told = asked_text own live.input (run_of acts ending live) l ++ blocks acts ending replying own k live ls in
      let block = answer_block places k last (answer_to replying live (asked_of l)) ++ blocks acts ending replying own (k + 1) (after live (asked_of l)) ls in
      ap (λ (q : Bool). cond q told block) here
      ∙ (ap (λ (a : Asked). answer_block places k last (answer_to replying live a) ++ blocks acts ending replying own (k + 1) (after live a) ls) first
      ∙ (ap (λ (r : ToldReply). reply_block places k last r ++ blocks acts ending replying own (k + 1) (after_batch live b) ls) (batch_is replying live b are lawful)
      ∙ (ap (λ t. reply_block places k last (live_reply acts ending looks live b) ++ t) (blocks-batches replying own (k + 1) (after_batch live b) ls bs are (lawful_after live.input b lawful) others more)
      ∙ sym (blocks-batch acts ending looks live.detail k live (after_batch live b) b bs refl refl))))

  -- batches behind others
  blocks-append : (detail : Detail) (k n : ℕ) (live : LiveParts P) (batches later : List (List Edit)) → live.detail ≡ detail → n ≡ k + length batches
      → blocks_after detail k (last_result acts ending live) (live_replies acts ending looks live (batches ++ later))
      ≡ blocks_after detail k (last_result acts ending live) (live_replies acts ending looks live batches)
      ++ blocks_after detail n (last_result acts ending (after_batches live batches)) (live_replies acts ending looks (after_batches live batches) later)
  blocks-append detail k n live [] later same count =
      let here : k ≡ n = omega arith in
      ap (λ (m : ℕ). blocks_after detail m (last_result acts ending live) (live_replies acts ending looks live later)) here
  blocks-append detail k n live (b ∷ bs) later same count =
      let next = after_batch live b in
      let first = reply_block detail.places k (last_result acts ending live) (live_reply acts ending looks live b) in
      let others = blocks_after detail (k + 1) (last_result acts ending next) (live_replies acts ending looks next bs) in
      let rest = blocks_after detail n (last_result acts ending (after_batches next bs)) (live_replies acts ending looks (after_batches next bs) later) in
      let count_on : n ≡ k + 1 + length bs = omega arith in
      blocks-batch acts ending looks detail k live next b (bs ++ later) same refl
      ∙ (ap (λ t. first ++ t) (blocks-append detail (k + 1) n next bs later same count_on)
      ∙ (sym (append_assoc first others rest) ∙ ap (λ t. t ++ rest) (sym (blocks-batch acts ending looks detail k live next b bs same refl))))

  pub lines_are_batches : LinesAreBatches acts ending looks
  unfolding due_of first_text
  lines_are_batches replying detail own job lines batches are lawful same none =
      let start = opened detail job.program job.input in
      let live = after_batches start job.batches in
      let number = length job.batches + 1 in
      let whole : Job P = record job { batches = job.batches ++ batches } in
      let first = opening_block acts ending looks detail job.program job.input in
      let told = blocks_after detail 1 (last_result acts ending start) (live_replies acts ending looks start job.batches) in
      let later = blocks_after detail number (last_result acts ending live) (live_replies acts ending looks live batches) in
      let counted : number ≡ 1 + length job.batches = omega arith in
      let report : text_of detail (job_told acts ending looks false detail job) ≡ text_of detail (replying.job detail job) = ap (text_of detail) (sym (job_is replying detail job are lawful)) in (
        later,
        ap (text_of detail) (job_is replying detail whole are lawful) ∙ (sym (report_is acts ending looks detail whole start refl)
            ∙ (ap (λ t. first ++ t) (blocks-append detail 1 number start job.batches batches refl counted)
            ∙ (sym (append_assoc first told later) ∙ ap (λ t. t ++ later) (report_is acts ending looks detail job start refl ∙ report)))),
        ap (λ t. (text_of detail (replying.job detail job) ++ codes "ready\n") ++ t)
            (blocks-batches replying own number live lines batches are (lawful_through start job.batches lawful) same none
            ∙ ap (λ (d : Detail). blocks_after d number (last_result acts ending live) (live_replies acts ending looks live batches)) (detail_through start job.batches)),
      )

-- `undo` after an accepted batch leaves the session as it was before: its input, and what else can be taken back. So it is never refused.
pub undo-batch : {P : Type 0} (live : LiveParts P) (batch : List Edit) → input_fault live.input ≡ None → refusal_of live.input batch ≡ None → after (after_batch live batch) Undo ≡ live
undo-batch live batch lawful none =
    let back = undone live.input batch lawful none in
    let made = edited live.input batch in
    let undo = undo_of live.input batch in
    let input : input_if (refusal_of made undo) made (edited made undo) ≡ live.input = ap (λ (r : Option EditRefusal). input_if r made (edited made undo)) back.accepted ∙ back.input in
    ap (λ (r : Option EditRefusal). after (record live { input = input_if r live.input made; undos = undos_after r live batch }) Undo) none
    ∙ ap (λ (i : Input). record live { input = i }) input

-- The replies of live sessions are those of sessions.
pub are_live_replies : {P : Type 0} (acts : P → ViewParts → List Act) (ending : P → ViewParts → End) (looks : P → ViewParts → ℕ → Bool) → AreLiveReplies acts ending looks (live_replying acts ending looks)
unfolding live_reply
are_live_replies acts ending looks =
    record {
      job = λ detail job lawful. record { replies = replies_of acts ending looks false job; are = law_of_replies_to acts ending looks false job lawful; gives = refl };
      batch = λ live batch lawful.
          let turn = turn_of (acts live.program) (ending live.program) in
          record { reply = reply_to (looks live.program) turn live.input batch; is = law_of_reply (looks live.program) turn live.input batch lawful; gives = refl };
    }
