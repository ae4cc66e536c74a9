use Rattle.std.proofs.Common.{◌≡◌, ◌∙◌, List, None, ap, sym, subst}
use Rattle.bsp_model.specs.declared.input.Input.{Input}
use Rattle.bsp_step.specs.Turn.{turn_of}
use Rattle.bsp_run.specs.Law.{IsBspRun}
use Rattle.bsp_incr.specs.declared.edit.Edit.{Edit}
use Rattle.bsp_incr.specs.Edits.{refusal_of}
use Rattle.bsp_incr.specs.Undo.{undo_of, TakesBack}
use Rattle.bsp_incr.proofs.TakingBack.{undone}
use Rattle.bsp_incr.proofs.session.Session.undo_of.Goals as goal

pub returns-clause-back : goal.returns-clause-back
returns-clause-back g c =
    let i : Input = c.args.self.now.input in
    let es : List Edit = c.args.edits.now in
    let none : refusal_of i es ≡ None = ap (λ j. refusal_of j es) (sym c.input-input.ensures.input) ∙ sym c.refusal_of.ensures ∙ c.in_default.is in
    subst (TakesBack i es) (sym (c.in_ok-formers_of.ensures ∙ ap (λ j. undo_of j es) c.input-input.ensures.input)) (undone i es c.input-input.ensures.lawful none)

pub returns-clause-history : goal.returns-clause-history
returns-clause-history g c =
    let turn = turn_of (g.P.Program.acts c.args.self.now.program) (g.P.Program.ending c.args.self.now.program) in
    let back = returns-clause-back g c in
    subst (λ (i : Input). IsBspRun turn i c.args.self.now.history) (sym back.input)
    (subst (IsBspRun turn c.args.self.now.input) c.history-history.ensures.history c.history-history.ensures.law)
