use Rattle.std.proofs.Common.{◌≡◌, sym, subst, None}
use Rattle.bsp_model.specs.declared.input.Input.{Input}
use Rattle.bsp_model.specs.Input.{input_fault}
use Rattle.bsp_model.proofs.Inputs.{lawful_input}
use Rattle.bsp_step.specs.Turn.{turn_of}
use Rattle.bsp_incr.proofs.Lawful.{edited_lawful}
use Rattle.bsp_incr.proofs.RunBefore.{before_edits}
use Rattle.bsp_incr.proofs.rerun.rerun_edited.Goals as goal

pub rerun-requires-clause-lawful : goal.rerun-requires-clause-lawful
rerun-requires-clause-lawful g c κs within =
    subst (λ (i : Input). input_fault i ≡ None) (sym c.in_ok-formers.ensures.made) (edited_lawful c.args.input.now c.args.edits.now c.requires.accepted c.requires.lawful)

pub marks_of_edits-marks-requires-clause-few : goal.marks_of_edits-marks-requires-clause-few
marks_of_edits-marks-requires-clause-few g c =
    let lawful : input_fault c.make_edits.new.input ≡ None =
    subst (λ (i : Input). input_fault i ≡ None) (sym c.in_ok-formers.ensures.made) (edited_lawful c.args.input.now c.args.edits.now c.requires.accepted c.requires.lawful) in
    (lawful_input c.make_edits.new.input lawful).few_processes

pub rerun-requires-clause-before : goal.rerun-requires-clause-before
rerun-requires-clause-before g c κs within =
    before_edits (turn_of (g.P.Program.acts c.args.program.now) (g.P.Program.ending c.args.program.now)) c.args.edits.now c.make_edits.new.input c.args.history.now
    record { input_before = c.args.input.now; lawful = c.requires.lawful; law = c.requires.before; stands = c.in_ok-formers.ensures.made }
