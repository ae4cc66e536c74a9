use Rattle.std.proofs.Common.{◌≡◌, ◌∙◌, None, Some, ap, sym, subst}
use Rattle.bsp_model.specs.declared.input.Input.{Input}
use Rattle.bsp_model.specs.Input.{input_fault}
use Rattle.bsp_step.specs.Turn.{turn_of}
use Rattle.bsp_run.specs.Run.{run}
use Rattle.bsp_run.specs.Law.{IsBspRun}
use Rattle.bsp_run.proofs.OneRun.{one_run}
use Rattle.bsp_incr.specs.Edits.{refusal_of}
use Rattle.bsp_incr.specs.Exact.{IsExact}
use Rattle.bsp_incr.specs.Replies.{SessionParts}
use Rattle.bsp_incr.proofs.Exactness.{exact_of}
use Rattle.bsp_incr.proofs.Lawful.{edited_lawful}
use Rattle.bsp_incr.proofs.session.Session.apply_accepted.Goals as goal

pub invariant_of-self-2 : goal.invariant_of-self-2
invariant_of-self-2 g c =
    let turn = turn_of (g.P.Program.acts c.self.inside.program) (g.P.Program.ending c.self.inside.program) in
    let input : Input = c.self.inside.input in
    let given = c.in_ok-update.ensures.given in
    let accepted : refusal_of input c.args.edits.now ≡ None =
    subst (λ (s : SessionParts _). refusal_of s.input c.args.edits.now ≡ None) (sym c.self.view_is) c.requires.accepted in
    let lawful : input_fault c.rerun_edited.new.input ≡ None =
    subst (λ (i : Input). input_fault i ≡ None) (sym given) (edited_lawful input c.args.edits.now accepted c.self.invariant.lawful) in
    record {
      lawful = lawful;
      law = (one_run turn c.rerun_edited.new.input c.rerun_edited.new.history lawful).1 (c.in_ok-update.ensures.run ∙ sym (ap (run turn) given));
    }

pub returns-clause-law : goal.returns-clause-law
returns-clause-law g c =
    subst (λ (s : SessionParts _). IsBspRun (turn_of (g.P.Program.acts s.program) (g.P.Program.ending s.program)) c.rerun_edited.new.input c.rerun_edited.new.history) c.self.view_is
    (invariant_of-self-2 g c).law

pub returns-clause-exact : goal.returns-clause-exact
returns-clause-exact g c =
    subst (λ (s : SessionParts _). IsExact (g.P.Program.looks s.program) (Some s.history) c.rerun_edited.new.history c.in_ok-update.update) c.self.view_is
    (exact_of c.in_ok-update.ensures.update)
