-- A live session from its job on.
use Rattle.std.proofs.Common.{◌≡◌, ℕ, ◌+◌, Bool, true, false, cond, List, [], ◌∷◌, ◌++◌, length, Option, None, Some, Result, Ok, refl, sym, ap, subst, ◌∙◌, append_assoc, codes}
use Rattle.std.specs.Prelude.{IfSome, IsOkAnd}
use Rattle.bsp_model.specs.declared.fault.End.{End}
use Rattle.bsp_model.specs.Input.{input_fault}
use Rattle.bsp_step.specs.ViewParts.{ViewParts}
use Rattle.bsp_step.specs.Act.{Act}
use Rattle.bsp_step.specs.Turn.{turn_of}
use Rattle.bsp_run.specs.Run.{Run, run}
use Rattle.bsp_run.specs.Law.{IsBspRun}
use Rattle.bsp_run.proofs.OneRun.{one_run}
use Rattle.bsp_run.specs.Result.{result_of}
use Rattle.bsp_incr.specs.declared.edit.Edit.{Edit}
use Rattle.bsp_incr.specs.declared.reply.Reply.TheVariants.{Done}
use Rattle.bsp_incr.specs.declared.reply.Update.{Update}
use Rattle.bsp_incr.specs.Inside.Changes.{update_of}
use Rattle.bsp_incr.specs.Edits.{refusal_of, edited}
use Rattle.bsp_incr.specs.Replies.{input_if}
use Rattle.bsp_incr.specs.Inside.Replies.{done, reply_if, replies_from}
use Rattle.bsp_engine.specs.declared.errors.JobFault.{JobFault}
use Rattle.bsp_engine.specs.declared.jobs.Job.{Job}
use Rattle.bsp_options.specs.declared.options.Detail.{Detail}
use Rattle.bsp_engine.specs.Asked.{asked_of, asks_for_text}
use Rattle.bsp_engine.specs.declared.conversation.Attendant.{Attendant}
use Rattle.bsp_engine.specs.Inside.DueAt.{due_at, due_from}
use Rattle.bsp_engine.specs.Live.{LiveParts, after, after_batch, after_batches, opened, last_result, run_of, answer_to, answer_block, asked_text, blocks, first_text, due_of}
use Rattle.bsp_engine.specs.Inside.LiveReplies.{live_reply, live_replies, live_replying, opening_block}
use Rattle.bsp_engine.specs.Inside.Replies.{job_told, replies_of}
use Rattle.bsp_engine.specs.Told.{told_after, told_by}
use Rattle.bsp_engine.specs.Blocks.{reply_block, compared_result, blocks_after, text_of}

module _ {P : Type 0} (acts : P → ViewParts → List Act) (ending : P → ViewParts → End) (looks : P → ViewParts → ℕ → Bool) where
  -- the replies of an open session are those of the job's
  live_replies-from : (live : LiveParts P) (batches : List (List Edit)) → live_replies acts ending looks live batches
      ≡ told_after live.detail (looks live.program) (turn_of (acts live.program) (ending live.program)) live.input batches
      (replies_from (looks live.program) (turn_of (acts live.program) (ending live.program)) live.input batches)
  unfolding live_reply
  live_replies-from live [] = refl
  live_replies-from live (batch ∷ later) = ap (λ l. live_reply acts ending looks live batch ∷ l) (live_replies-from (after_batch live batch) later)

  -- the result that the blocks after a batch are told against
  pub last_result-next : (live : LiveParts P) (batch : List Edit) → last_result acts ending (after_batch live batch) ≡ compared_result live.detail.changes (last_result acts ending live) (live_reply acts ending looks live batch).reply
  unfolding last_result live_reply
  last_result-next live batch =
      let turn = turn_of (acts live.program) (ending live.program) in
      elim (refusal_of live.input batch) as (λ r. cond live.detail.changes (Some (result_of (run turn (input_if r live.input (edited live.input batch))))) None
      ≡ compared_result live.detail.changes (cond live.detail.changes (Some (result_of (run turn live.input))) None) (reply_if r (done (looks live.program) (Some (run turn live.input)) (run turn (edited live.input batch))))) [
        | Some refusal ↦ refl
        | None ↦ refl
      ]

  -- a batch more
  pub blocks-batch : (detail : Detail) (k : ℕ) (live next : LiveParts P) (batch : List Edit) (later : List (List Edit)) → live.detail ≡ detail → next ≡ after_batch live batch
      → blocks_after detail k (last_result acts ending live) (live_replies acts ending looks live (batch ∷ later))
      ≡ reply_block detail.places k (last_result acts ending live) (live_reply acts ending looks live batch) ++ blocks_after detail (k + 1) (last_result acts ending next) (live_replies acts ending looks next later)
  blocks-batch detail k live next batch later same is =
      let reply = live_reply acts ending looks live batch in
      ap (λ b. reply_block detail.places k (last_result acts ending live) reply ++ blocks_after detail (k + 1) b (live_replies acts ending looks (after_batch live batch) later))
      (ap (λ (d : Detail). compared_result d.changes (last_result acts ending live) reply.reply) (sym same) ∙ sym (last_result-next live batch))
      ∙ ap (λ (v : LiveParts P). reply_block detail.places k (last_result acts ending live) reply ++ blocks_after detail (k + 1) (last_result acts ending v) (live_replies acts ending looks v later)) (sym is)

  -- the opening and the batches make the report
  pub report_is : (detail : Detail) (job : Job P) (live : LiveParts P) → live ≡ opened detail job.program job.input
      → opening_block acts ending looks detail job.program job.input ++ blocks_after detail 1 (last_result acts ending live) (live_replies acts ending looks live job.batches) ≡ text_of detail (job_told acts ending looks false detail job)
  unfolding replies_of last_result
  report_is detail job live is =
      let first = opening_block acts ending looks detail job.program job.input in
      ap (λ (v : LiveParts P). first ++ blocks_after detail 1 (last_result acts ending v) (live_replies acts ending looks v job.batches)) is
      ∙ ap (λ rs. first ++ blocks_after detail 1 (last_result acts ending (opened detail job.program job.input)) rs) (live_replies-from (opened detail job.program job.input) job.batches)

  pub begun_text : (detail : Detail) (job : Job P) (live : LiveParts P) (zero two end : List ℕ) → live ≡ opened detail job.program job.input
      → two ≡ zero ++ opening_block acts ending looks live.detail live.program live.input ++ blocks_after live.detail 1 (last_result acts ending live) (live_replies acts ending looks live job.batches) ++ end
      → two ≡ zero ++ text_of detail (job_told acts ending looks false detail job) ++ end
  begun_text detail job live zero two end is t =
      let first = opening_block acts ending looks detail job.program job.input in
      let others = blocks_after detail 1 (last_result acts ending live) (live_replies acts ending looks live job.batches) in
      t ∙ ap (λ (v : LiveParts P). zero ++ opening_block acts ending looks v.detail v.program v.input
      ++ blocks_after v.detail 1 (last_result acts ending live) (live_replies acts ending looks live job.batches) ++ end) is
      ∙ ap (λ u. u ++ end) (append_assoc zero first others ∙ ap (λ u. zero ++ u) (report_is detail job live is))

  -- the history of an open session, if it is that of its input
  pub opened_run : (live next : LiveParts P) (history : Run) → live ≡ next → input_fault live.input ≡ None → IsBspRun (turn_of (acts live.program) (ending live.program)) live.input history
      → history ≡ run (turn_of (acts next.program) (ending next.program)) next.input
  opened_run live next history at lawful law =
      (one_run (turn_of (acts live.program) (ending live.program)) live.input history lawful).0 law ∙ ap (λ (v : LiveParts P). run (turn_of (acts v.program) (ending v.program)) v.input) at

  -- the block of an opening, of which the run was told
  pub opening_told : (live next : LiveParts P) (history : Run) (update : Update) (old new : List ℕ) → live ≡ next → input_fault live.input ≡ None
      → IsBspRun (turn_of (acts live.program) (ending live.program)) live.input history → update ≡ update_of (looks next.program) None (run (turn_of (acts next.program) (ending next.program)) next.input)
      → new ≡ old ++ reply_block live.detail.places 0 None (told_by live.detail (looks live.program) None history (Done (result_of history) (Some update)))
      → new ≡ old ++ opening_block acts ending looks next.detail next.program next.input
  opening_told live next history update old new at lawful law done told =
      let is = opened_run live next history at lawful law in
      told ∙ (λ k. old ++ reply_block ((at k).detail).places 0 None (told_by ((at k).detail) (looks ((at k).program)) None (is k) (Done (result_of (is k)) (Some (done k)))))

  -- one line more, that asks for no text
  blocks_next : (own : List ℕ) (last number : ℕ) (live next : LiveParts P) (l text : List ℕ) → asks_for_text l ≡ false → number ≡ last + 1
      → text ≡ answer_block live.detail.places number (last_result acts ending live) (answer_to (live_replying acts ending looks) live (asked_of l)) → next ≡ after live (asked_of l)
      → (later : List (List ℕ)) → blocks acts ending (live_replying acts ending looks) own (last + 1) live (l ∷ later) ≡ text ++ blocks acts ending (live_replying acts ending looks) own (number + 1) next later
  unfolding blocks
  blocks_next own last number live next l text d n t x later =
      let told = asked_text own live.input (run_of acts ending live) l ++ blocks acts ending (live_replying acts ending looks) own (last + 1) live later in
      let block = answer_block live.detail.places (last + 1) (last_result acts ending live) (answer_to (live_replying acts ending looks) live (asked_of l)) in
      let rest = blocks acts ending (live_replying acts ending looks) own (last + 1 + 1) (after live (asked_of l)) later in
      ap (λ (b : Bool). cond b told (block ++ rest)) d
      ∙ (ap (λ (k : ℕ). answer_block live.detail.places k (last_result acts ending live) (answer_to (live_replying acts ending looks) live (asked_of l)) ++ blocks acts ending (live_replying acts ending looks) own (k + 1) (after live (asked_of l)) later) (sym n)
      ∙ (ap (λ b. b ++ blocks acts ending (live_replying acts ending looks) own (number + 1) (after live (asked_of l)) later) (sym t)
      ∙ ap (λ (v : LiveParts P). text ++ blocks acts ending (live_replying acts ending looks) own (number + 1) v later) (sym x)))

  -- one that asks for a text
  text_next : (own : List ℕ) (k : ℕ) (live : LiveParts P) (l text : List ℕ) → asks_for_text l ≡ true → text ≡ asked_text own live.input (run_of acts ending live) l
      → (later : List (List ℕ)) → blocks acts ending (live_replying acts ending looks) own k live (l ∷ later) ≡ text ++ blocks acts ending (live_replying acts ending looks) own k live later
  unfolding blocks
  text_next own k live l text d t later =
      let rest = blocks acts ending (live_replying acts ending looks) own k live later in
      let block = answer_block live.detail.places k (last_result acts ending live) (answer_to (live_replying acts ending looks) live (asked_of l)) in
      ap (λ (b : Bool). cond b (asked_text own live.input (run_of acts ending live) l ++ rest) (block ++ blocks acts ending (live_replying acts ending looks) own (k + 1) (after live (asked_of l)) later)) d
      ∙ ap (λ b. b ++ rest) (sym t)

  -- the same of whoever answers
  pub attendant_next : (a b : Attendant P) (l text : List ℕ) (number : ℕ) → asks_for_text l ≡ false → number ≡ a.last + 1 → b.last ≡ number → b.own.items ≡ a.own.items
      → text ≡ answer_block a.live.detail.places number (last_result acts ending a.live) (answer_to (live_replying acts ending looks) a.live (asked_of l)) → b.live ≡ after a.live (asked_of l)
      → (later : List (List ℕ)) → due_at acts ending looks a (l ∷ later) ≡ text ++ due_at acts ending looks b later
  unfolding due_at
  attendant_next a b l text number d n m o t x later =
      blocks_next a.own.items a.last number a.live b.live l text d n t x later
      ∙ (ap (λ (k : ℕ). text ++ blocks acts ending (live_replying acts ending looks) a.own.items (k + 1) b.live later) (sym m)
      ∙ ap (λ (w : List ℕ). text ++ blocks acts ending (live_replying acts ending looks) w (b.last + 1) b.live later) (sym o))

  pub attendant_tells : (a b : Attendant P) (l text : List ℕ) → asks_for_text l ≡ true → text ≡ asked_text a.own.items a.live.input (run_of acts ending a.live) l → a.own.items ≡ b.own.items → a.last ≡ b.last → a.live ≡ b.live
      → (later : List (List ℕ)) → due_at acts ending looks a (l ∷ later) ≡ text ++ due_at acts ending looks b later
  unfolding due_at
  attendant_tells a b l text d t own last live later =
      text_next a.own.items (a.last + 1) a.live l text d t later
      ∙ (λ k. text ++ blocks acts ending (live_replying acts ending looks) (own k) (last k + 1) (live k) later)

  pub due_at-none : (a : Attendant P) → due_at acts ending looks a [] ≡ []
  unfolding due_at blocks
  due_at-none a = refl

  pub first_text_is : (detail : Detail) (job : Job P) (zero text : List ℕ) → zero ≡ [] → text ≡ zero ++ text_of detail (job_told acts ending looks false detail job) ++ codes "ready\n" → text ≡ first_text (live_replying acts ending looks) detail job
  unfolding first_text
  first_text_is detail job zero text none is = is ∙ ap (λ t. t ++ text_of detail (job_told acts ending looks false detail job) ++ codes "ready\n") none

  -- what is due from whoever answers the lines of a job's session
  pub due_from_job : (detail : Detail) (own : List ℕ) (job : Job P) (a : Attendant P) → a.own.items ≡ own → a.text.items ≡ first_text (live_replying acts ending looks) detail job → a.last ≡ length job.batches
      → a.live ≡ after_batches (opened detail job.program job.input) job.batches → due_from acts ending looks a ≡ due_of acts ending (live_replying acts ending looks) detail own job
  unfolding due_of due_at
  due_from_job detail own job a is_own text last live =
      λ k lines. text k ++ blocks acts ending (live_replying acts ending looks) (is_own k) (last k + 1) (live k) lines

-- what is known of the bytes that were read is known of all that the source had
pub when_read : (source : Option (List ℕ)) (slice bytes : List ℕ) (F : List ℕ → Type 0) → slice ≡ bytes → IfSome source (λ all. bytes ≡ all) → F slice → IfSome source F
when_read None slice bytes F same read fact = tt
when_read (Some all) slice bytes F same read fact = subst F (same ∙ read) fact

pub for_job : {P : Type 0} (r : Result (Job P) JobFault) (job : Job P) (X : Job P → Type 0) → r ≡ Ok job → X job → IsOkAnd r X
for_job r job X is fact = subst (λ (s : Result (Job _) JobFault). IsOkAnd s X) (sym is) fact
