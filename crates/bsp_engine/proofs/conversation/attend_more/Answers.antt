use Rattle.std.proofs.Common.{◌≡◌, ◌∙◌, [], ◌∷◌, List, ℕ, OnOk, true, false, take, ap, refl, subst, sym, arith}
use Rattle.std.specs.Prelude.{IfErr}
use Rattle.std.proofs.lemmas.Grind.{common_steps}
use Rattle.bsp_engine.specs.declared.errors.EngineError.{EngineError}
use Rattle.bsp_engine.specs.Inside.DueAt.{due_at}
use Rattle.bsp_engine.specs.Inside.Talk.{BreaksOff, Ends}
use Rattle.bsp_engine.specs.Talk.{Goes, heard}
use Rattle.bsp_engine.proofs.Beginning.{due_at-none}
use Rattle.bsp_engine.proofs.Conversations.{breaks_read, goes_as, goes_heard, none_begun, rest_breaks, rest_ends, some_begun, talks_end}
use Rattle.bsp_engine.proofs.Handing.{and_failed, and_ok}
use Rattle.bsp_engine.proofs.conversation.attend_more.Goals as goal

pub returns-in_default-clause-err : goal.returns-in_default-clause-err
returns-in_default-clause-err g c = λ due start h. breaks_read due _ start _ _ _ h (due_at-none g.P.Program.acts g.P.Program.ending g.P.Program.looks c.args.attendant.now) c.in_default.ensures.failed

pub returns-then-is_empty-clause-end : goal.returns-then-is_empty-clause-end
returns-then-is_empty-clause-end g c =
    let ended : take c.in-Ok.n c.hear.new.buf ≡ [] = ap (λ (n : ℕ). take n c.hear.new.buf) c.if-n-eq0.true in
    let empty = sym c.as_slice-line.ensures.value ∙ none_begun c.as_slice-line.result.now _ refl (sym c.is_empty.ensures ∙ c.if-is_empty.true) in
    λ is. λ due start h. talks_end due _ start _ _ c.args.begun.now.items _ h (due_at-none g.P.Program.acts g.P.Program.ending g.P.Program.looks c.args.attendant.now) c.in-Ok.ensures.heard ended empty

pub returns-then-n-eq0-clause-more : goal.returns-then-n-eq0-clause-more
returns-then-n-eq0-clause-more g c = and_ok c.answer-ended.result false true c.and.result _ _ c.and.ensures c.answer-ended.ensures.ok (λ answered is. let no : ⊥ = cc in absurd no)

pub returns-then-n-eq0-clause-end : goal.returns-then-n-eq0-clause-end
returns-then-n-eq0-clause-end g c =
    let now = due_at g.P.Program.acts g.P.Program.ending g.P.Program.looks c.args.attendant.now in
    let ended : take c.in-Ok.n c.hear.new.buf ≡ [] = ap (λ (n : ℕ). take n c.hear.new.buf) c.if-n-eq0.true in
    let ends = subst (λ (begun : List ℕ). OnOk c.answer-ended.result (Ends now begun (g.T.Terminal.log c.hear.new.self) (g.T.Terminal.log c.answer-ended.new.terminal))) c.as_slice-line.ensures.value
    (rest_ends c.answer-ended.result now (due_at g.P.Program.acts g.P.Program.ending g.P.Program.looks c.answer-ended.new.attendant) c.as_slice-line.result.now _ _
    (due_at-none g.P.Program.acts g.P.Program.ending g.P.Program.looks c.args.attendant.now) (due_at-none g.P.Program.acts g.P.Program.ending g.P.Program.looks c.answer-ended.new.attendant)
    (some_begun c.as_slice-line.result.now _ refl (sym c.is_empty.ensures ∙ c.if-is_empty.false)) c.answer-ended.ensures.ok) in
    and_ok c.answer-ended.result false false c.and.result _ _ c.and.ensures ends (λ so is. λ due start h. so due start (g.T.Terminal.log c.args.terminal.now) h
    (subst (λ (l : List ℕ). Goes (g.T.Terminal.log c.args.terminal.now) (g.T.Terminal.log c.hear.new.self) (heard l ∷ [])) ended c.in-Ok.ensures.heard))

pub returns-then-n-eq0-clause-err : goal.returns-then-n-eq0-clause-err
returns-then-n-eq0-clause-err g c =
    let now = due_at g.P.Program.acts g.P.Program.ending g.P.Program.looks c.args.attendant.now in
    let ended : take c.in-Ok.n c.hear.new.buf ≡ [] = ap (λ (n : ℕ). take n c.hear.new.buf) c.if-n-eq0.true in
    let broken = subst (λ (begun : List ℕ). IfErr c.answer-ended.result (λ e. BreaksOff now begun [] (g.T.Terminal.log c.hear.new.self) (g.T.Terminal.log c.answer-ended.new.terminal) e)) c.as_slice-line.ensures.value
    (rest_breaks c.answer-ended.result now c.as_slice-line.result.now _ _ (due_at-none g.P.Program.acts g.P.Program.ending g.P.Program.looks c.args.attendant.now)
    (some_begun c.as_slice-line.result.now _ refl (sym c.is_empty.ensures ∙ c.if-is_empty.false)) c.answer-ended.ensures.err) in
    and_failed c.answer-ended.result false c.and.result _
    (λ (e : EngineError). BreaksOff now c.args.begun.now.items [] (g.T.Terminal.log c.args.terminal.now) (g.T.Terminal.log c.answer-ended.new.terminal) e)
    c.and.ensures broken
    (λ e breaks. λ due start h. breaks due start
    (goes_as _ _ _ _ _ _ _ _ (goes_heard _ _ _ _ _ _ _ h (due_at-none g.P.Program.acts g.P.Program.ending g.P.Program.looks c.args.attendant.now) c.in-Ok.ensures.heard) refl ended))

pub returns-clause-more : goal.returns-clause-more
returns-clause-more g c =
    and_ok c.attend_all-attended.result true true c.and-2.result _ _ c.and-2.ensures c.attend_all-attended.ensures.ok (λ goes is. λ due start h. goes due start
    (goes_as _ _ _ _ _ _ _ _ (goes_heard _ _ _ _ _ _ _ h (due_at-none g.P.Program.acts g.P.Program.ending g.P.Program.looks c.args.attendant.now) c.in-Ok.ensures.heard) refl (grind (arith, common_steps))))

pub returns-clause-end : goal.returns-clause-end
returns-clause-end g c = and_ok c.attend_all-attended.result true false c.and-2.result _ _ c.and-2.ensures c.attend_all-attended.ensures.ok (λ goes is. let no : ⊥ = cc in absurd no)

pub returns-clause-err : goal.returns-clause-err
returns-clause-err g c =
    and_failed c.attend_all-attended.result true c.and-2.result _
    (λ (e : EngineError). BreaksOff (due_at g.P.Program.acts g.P.Program.ending g.P.Program.looks c.args.attendant.now) c.args.begun.now.items [] (g.T.Terminal.log c.args.terminal.now) (g.T.Terminal.log c.attend_all-attended.new.terminal) e)
    c.and-2.ensures c.attend_all-attended.ensures.err
    (λ e breaks. λ due start h. breaks due start
    (goes_as _ _ _ _ _ _ _ _ (goes_heard _ _ _ _ _ _ _ h (due_at-none g.P.Program.acts g.P.Program.ending g.P.Program.looks c.args.attendant.now) c.in-Ok.ensures.heard) refl (grind (arith, common_steps))))
