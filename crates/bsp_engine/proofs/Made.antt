-- Batches that an open session makes, and their text.
use Rattle.std.proofs.Common.{◌≡◌, ◌<◌, ℕ, ◌+◌, Bool, Bor, unwrap_or, List, [], ◌∷◌, ◌++◌, drop, drop-cons, add-one, get_or, length, codes, Option, None, Some, Result, OnOk, append_assoc, refl, sym, ap, subst, ◌∙◌}
use Rattle.std.specs.Prelude.{option_copied}
use Rattle.bsp_model.specs.declared.input.Input.{Input}
use Rattle.bsp_model.specs.declared.fault.End.{End}
use Rattle.bsp_step.specs.ViewParts.{ViewParts}
use Rattle.bsp_step.specs.Act.{Act}
use Rattle.bsp_step.specs.Turn.{turn_of}
use Rattle.bsp_run.specs.Run.{Run, run}
use Rattle.bsp_run.specs.Result.{result_of}
use Rattle.bsp_run.proofs.OneRun.{one_run}
use Rattle.bsp_incr.specs.declared.edit.Edit.{Edit}
use Rattle.bsp_incr.specs.declared.edit.EditRefusal.{EditRefusal}
use Rattle.bsp_incr.specs.Edits.{edited, refusal_of}
use Rattle.bsp_incr.specs.Replies.{input_after, input_if}
use Rattle.bsp_incr.proofs.Lawful.{edited_lawful}
use Rattle.bsp_model.specs.Input.{input_fault}
use Rattle.bsp_incr.specs.Undo.{undo_of}
use Rattle.bsp_incr.specs.declared.reply.Reply.{Reply}
use Rattle.bsp_incr.specs.declared.reply.Reply.TheVariants.{Done}
use Rattle.bsp_incr.specs.declared.reply.Update.{Update}
use Rattle.bsp_incr.specs.Inside.Replies.{done, reply_if, reply_to}
use Rattle.bsp_incr.proofs.Replying.{replied_is}
use Rattle.bsp_options.specs.declared.options.Detail.{Detail}
use Rattle.bsp_text.specs.Lines.{line}
use Rattle.bsp_engine.specs.Blocks.{reply_lines, blocks_after}
use Rattle.bsp_engine.specs.Text.{refusal_line}
use Rattle.bsp_engine.specs.Told.{told_by}
use Rattle.bsp_engine.specs.declared.asked.Asked.TheVariants.{Undo}
use Rattle.bsp_engine.specs.Live.{LiveParts, after_batch, answer_lines, answer_to, answer_to_undo, last_result, undos_after}
use Rattle.bsp_engine.specs.Untouched.{AreRunsAround}
use Rattle.bsp_engine.specs.Inside.LiveReplies.{live_reply, live_replies, live_replying}
use Rattle.bsp_engine.specs.Inside.Given.{result_if}
use Rattle.bsp_engine.proofs.Beginning.{blocks-batch}

-- what takes an accepted batch back is kept
pub kept_undo : {P : Type 0} (before live : LiveParts P) (batch undo : List Edit) (undos : List (List Edit)) → before ≡ live → refusal_of before.input batch ≡ None → undo ≡ undo_of before.input batch → undos ≡ undo ∷ before.undos
    → record before { undos = undos } ≡ record live { undos = undos_after (refusal_of live.input batch) live batch }
kept_undo before live batch undo undos at none is more =
    let all : undos ≡ undos_after (refusal_of before.input batch) before batch =
    more ∙ ap (λ (u : List Edit). u ∷ before.undos) is ∙ sym (ap (λ (r : Option EditRefusal). undos_after r before batch) none) in
    subst (λ (v : LiveParts _). record before { undos = undos } ≡ record v { undos = undos_after (refusal_of v.input batch) v batch }) at (λ k. record before { undos = all k })

-- what is borrowed, or else another borrowed value
pub borrowed_or : {A : Type 0} (o : Option (Bor A)) (x : Bor A) → (unwrap_or o x).now ≡ unwrap_or (option_copied o) x.now
borrowed_or None x = refl
borrowed_or (Some y) x = refl

module _ {P : Type 0} (acts : P → ViewParts → List Act) (ending : P → ViewParts → End) (looks : P → ViewParts → ℕ → Bool) where
  abbrev advance_lines : LiveParts P → List Edit → List ℕ
  advance_lines v batch = reply_lines v.detail.places (last_result acts ending v) (live_reply acts ending looks v batch)

  -- The text of an accepted batch, of which the lines of the run after it were told against the previous run.
  pub accepted_text : {E : Type 0} (program : P) (detail : Detail) (live shown : LiveParts P) (batch : List Edit) (update : Update) (before after old new : Run) (r : Result (Unit {0}) E) (t0 t1 : List ℕ) → live ≡ shown → detail ≡ live.detail → program ≡ live.program
      → AreRunsAround (turn_of (acts live.program) (ending live.program)) (looks live.program) live.input batch update before after → old ≡ before → new ≡ after
      → OnOk r (t1 ≡ t0 ++ reply_lines detail.places (result_if detail.changes old) (told_by detail (looks program) (Some old) new (Done (result_of new) (Some update))))
      → OnOk r (t1 ≡ t0 ++ reply_lines shown.detail.places (last_result acts ending shown) (live_reply acts ending looks shown batch))
  unfolding last_result live_reply
  accepted_text program detail live shown batch update before after old new r t0 t1 at asked same_program runs same_old same_new told =
      let turn = turn_of (acts live.program) (ending live.program) in
      let input : Input = live.input in
      let run_before : old ≡ run turn input = same_old ∙ (one_run turn input before runs.lawful).0 runs.before in
      let made : input_after input batch ≡ edited input batch = ap (λ (o : Option EditRefusal). input_if o input (edited input batch)) runs.accepted in
      let lawful_after : input_fault (edited input batch) ≡ None = edited_lawful input batch runs.accepted runs.lawful in
      let run_after : new ≡ run turn (input_after input batch) = same_new ∙ (one_run turn (edited input batch) after lawful_after).0 runs.after ∙ ap (λ (i : Input). run turn i) (sym made) in
      let reply : Done (result_of new) (Some update) ≡ reply_to (looks live.program) turn input batch =
      ap (λ (h : Run). Done (result_of h) (Some update)) same_new
      ∙ replied_is (looks live.program) turn input batch before after update runs.lawful runs.accepted runs.before runs.after runs.exact in
      let lines : reply_lines detail.places (result_if detail.changes old) (told_by detail (looks program) (Some old) new (Done (result_of new) (Some update))) ≡ advance_lines live batch =
      λ k. reply_lines (asked k).places (result_if (asked k).changes (run_before k)) (told_by (asked k) (looks (same_program k)) (Some (run_before k)) (run_after k) (reply k)) in
      subst (λ v. OnOk r (t1 ≡ t0 ++ advance_lines v batch)) at
      (subst (λ (l : List ℕ). OnOk r (t1 ≡ t0 ++ l)) lines told)

  -- the text of a batch that is refused
  pub refused_text : {E : Type 0} (live shown : LiveParts P) (batch : List Edit) (refusal : EditRefusal) (r : Result (Unit {0}) E) (old new : List ℕ) → live ≡ shown → refusal_of live.input batch ≡ Some refusal
      → OnOk r (new ≡ old ++ refusal_line refusal) → OnOk r (new ≡ old ++ reply_lines shown.detail.places (last_result acts ending shown) (live_reply acts ending looks shown batch))
  unfolding live_reply
  refused_text live shown batch refusal r old new at is told =
      let turn = turn_of (acts live.program) (ending live.program) in
      let input : Input = live.input in
      let reply : Option EditRefusal → Reply = λ o. reply_if o (done (looks live.program) (Some (run turn input)) (run turn (edited input batch))) in
      subst (λ v. OnOk r (new ≡ old ++ advance_lines v batch)) at
      (subst (λ (o : Option EditRefusal). OnOk r (new ≡ old ++ reply_lines live.detail.places (last_result acts ending live)
      (told_by live.detail (looks live.program) (Some (run turn input)) (run turn (input_after input batch)) (reply o)))) (sym is) told)

  -- the text of a batch, whatever else can be taken back
  pub made_text : {E : Type 0} (live next : LiveParts P) (undos : List (List Edit)) (batch : List Edit) (r : Result (Unit {0}) E) (old new : List ℕ) → next ≡ record live { undos = undos }
      → OnOk r (new ≡ old ++ reply_lines next.detail.places (last_result acts ending next) (live_reply acts ending looks next batch)) → OnOk r (new ≡ old ++ reply_lines live.detail.places (last_result acts ending live) (live_reply acts ending looks live batch))
  unfolding last_result live_reply
  made_text live next undos batch r old new is told = subst (λ v. OnOk r (new ≡ old ++ advance_lines v batch)) is told

  -- the text of a batch that is taken back
  pub undone_text : {E : Type 0} (before live : LiveParts P) (undo batch : List Edit) (former : List (List Edit)) (r : Result (Unit {0}) E) (old new : List ℕ) → before ≡ live → before.undos ≡ undo ∷ former → batch ≡ undo
      → OnOk r (new ≡ old ++ reply_lines before.detail.places (last_result acts ending (record before { undos = former })) (live_reply acts ending looks (record before { undos = former }) batch))
      → OnOk r (new ≡ old ++ answer_lines live.detail.places (last_result acts ending live) (answer_to (live_replying acts ending looks) live Undo))
  unfolding last_result live_reply
  undone_text before live undo batch former r old new at us same told =
      subst (λ v. OnOk r (new ≡ old ++ answer_lines v.detail.places (last_result acts ending v) (answer_to_undo (live_replying acts ending looks) v v.undos))) at
      (subst (λ (l : List (List Edit)). OnOk r (new ≡ old ++ answer_lines before.detail.places (last_result acts ending before) (answer_to_undo (live_replying acts ending looks) before l))) (sym us)
      (subst (λ b. OnOk r (new ≡ old ++ advance_lines before b)) same told))

  -- a block more
  pub block_more : (detail : Detail) (i : ℕ) (live next : LiveParts P) (batch : List Edit) (batches later : List (List Edit)) (t0 t1 t2 : List ℕ) → live.detail ≡ detail → next ≡ after_batch live batch → batches ≡ batch ∷ later
      → t1 ≡ t0 ++ line (codes "run") ((i + 1) ∷ []) → t2 ≡ t1 ++ reply_lines live.detail.places (last_result acts ending live) (live_reply acts ending looks live batch)
      → t2 ++ blocks_after detail (i + 1 + 1) (last_result acts ending next) (live_replies acts ending looks next later) ≡ t0 ++ blocks_after detail (i + 1) (last_result acts ending live) (live_replies acts ending looks live batches)
  block_more detail i live next batch batches later t0 t1 t2 same is all run more =
      let number = line (codes "run") ((i + 1) ∷ []) in
      let lines = reply_lines detail.places (last_result acts ending live) (live_reply acts ending looks live batch) in
      let rest = blocks_after detail (i + 1 + 1) (last_result acts ending next) (live_replies acts ending looks next later) in
      let block : t2 ≡ t0 ++ (number ++ lines) =
      more ∙ ap (λ (d : Detail). t1 ++ reply_lines d.places (last_result acts ending live) (live_reply acts ending looks live batch)) same
      ∙ ap (λ t. t ++ lines) run ∙ append_assoc t0 number lines in
      ap (λ t. t ++ rest) block ∙ append_assoc t0 (number ++ lines) rest
      ∙ ap (λ t. t0 ++ t) (sym (blocks-batch acts ending looks detail (i + 1) live next batch later same is))
      ∙ ap (λ bs. t0 ++ blocks_after detail (i + 1) (last_result acts ending live) (live_replies acts ending looks live bs)) (sym all)

-- the next item of a list
pub drop_item : {A : Type 0} (xs : List A) (i : ℕ) (x y : A) → i < length xs → x ≡ get_or xs i x → y ≡ x → drop i xs ≡ y ∷ drop (i + 1) xs
drop_item xs i x y l is same =
    let next : drop i xs ≡ get_or xs i x ∷ drop (i + 1) xs = rw add-one (drop-cons xs i x l) in
    next ∙ ap (λ z. z ∷ drop (i + 1) xs) (sym is ∙ sym same)
