use Rattle.std.proofs.Common.{◌≡◌, ◌<◌, ◌≤◌, ◌∙◌, ◌++◌, ◌∷◌, [], List, ℕ, length, get_or, refl, subst, sym, arith}
use Rattle.std.proofs.lemmas.Grind.{common_steps}
use Rattle.bsp_model.specs.Limits.{most_document_bytes}
use Rattle.bsp_engine.specs.declared.errors.EngineError.{EngineError}
use Rattle.bsp_engine.specs.Inside.DueAt.{due_at}
use Rattle.bsp_engine.specs.Inside.Talk.{Answered, BreaksOff, Stopped}
use Rattle.bsp_engine.proofs.Beginning.{due_at-none}
use Rattle.bsp_engine.proofs.Conversations.{attended_byte, attended_line, breaks_in_byte, drop_next, goes_as, going_byte, handed_on, kept_none, kept_one, unattended_byte, unattended_line}
use Rattle.bsp_engine.proofs.conversation.attend_all.Goals as goal

pub loop-byte-init : goal.loop-byte-init
loop-byte-init g c = λ due start h. h

pub loop-byte-preserved-then-byte-eq10 : goal.loop-byte-preserved-then-byte-eq10
loop-byte-preserved-then-byte-eq10 g c =
    let now = due_at g.P.Program.acts g.P.Program.ending g.P.Program.looks c.loop-byte.attendant in
    let after = due_at g.P.Program.acts g.P.Program.ending g.P.Program.looks c.answer.new.attendant in
    let answered = subst (λ (line : List ℕ). Answered now after line (g.T.Terminal.log c.loop-byte.terminal) (g.T.Terminal.log c.answer.new.terminal)) c.as_slice.ensures.value c.in_ok-answer.ensures.ok in
    λ due start h. going_byte _ _ _ _ _ _ _ _ _ _ _ (c.loop-byte.invariant due start h) (drop_next _ _ c.loop-byte-test.true) (attended_line _ _ _ _ _ _ _ c.if-byte-eq10.true c.clear.ensures.items answered)

pub loop-byte-preserved-then-len-gt-MOST_DOCUMENT_BYTES : goal.loop-byte-preserved-then-len-gt-MOST_DOCUMENT_BYTES
loop-byte-preserved-then-len-gt-MOST_DOCUMENT_BYTES g c =
    let long : most_document_bytes < length c.loop-byte.begun.items = omega arith in
    λ due start h. going_byte _ _ _ _ _ _ _ _ _ _ _ (c.loop-byte.invariant due start h) (drop_next _ _ c.loop-byte-test.true)
    (attended_byte _ _ _ _ _ _ _ c.if-byte-eq10.false (sym (kept_none c.loop-byte.begun.items (get_or c.args.bytes.now c.loop-byte.byte-index 0) long)) refl refl)

pub loop-byte-preserved : goal.loop-byte-preserved
loop-byte-preserved g c =
    let byte = get_or c.args.bytes.now c.loop-byte.byte-index 0 in
    let short : length c.loop-byte.begun.items ≤ most_document_bytes = omega arith in
    let pushed : c.push.new.self.items ≡ c.loop-byte.begun.items ++ byte ∷ [] = grind (arith, common_steps) in
    λ due start h. going_byte _ _ _ _ _ _ _ _ _ _ _ (c.loop-byte.invariant due start h) (drop_next _ _ c.loop-byte-test.true)
    (attended_byte _ _ _ _ _ _ _ c.if-byte-eq10.false (pushed ∙ sym (kept_one c.loop-byte.begun.items byte short)) refl refl)

pub returns-in_err-answer-clause-err : goal.returns-in_err-answer-clause-err
returns-in_err-answer-clause-err g c =
    let now = due_at g.P.Program.acts g.P.Program.ending g.P.Program.looks c.loop-byte.attendant in
    let stopped = subst (λ (line : List ℕ). Stopped now line (g.T.Terminal.log c.loop-byte.terminal) (g.T.Terminal.log c.answer.new.terminal) c.in_err-answer.field-0.0) c.as_slice.ensures.value c.in_err-answer.ensures.err in
    handed_on c.from_residual.result c.in_err-answer.field-0.0
    (λ (e : EngineError). BreaksOff (due_at g.P.Program.acts g.P.Program.ending g.P.Program.looks c.args.attendant.now) c.args.begun.now.items c.args.bytes.now (g.T.Terminal.log c.args.terminal.now) (g.T.Terminal.log c.answer.new.terminal) e)
    c.from_residual.ensures.1
    (λ due start h. breaks_in_byte _ _ _ _ _ _ _ _ _ _ (c.loop-byte.invariant due start h) (due_at-none g.P.Program.acts g.P.Program.ending g.P.Program.looks c.loop-byte.attendant) (drop_next _ _ c.loop-byte-test.true) (unattended_line _ _ _ _ _ _ c.if-byte-eq10.true stopped))

pub returns-then-is_err-clause-err : goal.returns-then-is_err-clause-err
returns-then-is_err-clause-err g c =
    λ due start h. breaks_in_byte _ _ _ _ _ _ _ _ _ _ (c.loop-byte.invariant due start h) (due_at-none g.P.Program.acts g.P.Program.ending g.P.Program.looks c.loop-byte.attendant) (drop_next _ _ c.loop-byte-test.true)
    (unattended_byte _ _ _ _ _ _ c.if-byte-eq10.false refl refl)

pub returns-clause-ok : goal.returns-clause-ok
returns-clause-ok g c = λ due start h. goes_as _ _ _ _ _ _ _ _ (c.loop-byte.invariant due start h) refl (grind (arith, common_steps))
