use Rattle.std.proofs.Common.{◌≡◌, ◌∙◌, ap, arith, sym, subst, Option, Some}
use Rattle.std.specs.Prelude.{option_map}
use Rattle.bsp_model.specs.declared.input.Input.{Input}
use Rattle.bsp_model.proofs.Inputs.{lawful_input}
use Rattle.bsp_step.specs.Turn.{turn_of}
use Rattle.bsp_run.specs.Run.{Run}
use Rattle.bsp_run.specs.Law.{IsBspRun}
use Rattle.bsp_run.proofs.Laws.{IsBspRun-run}
use Rattle.bsp_incr.specs.declared.reply.Update.{Update}
use Rattle.bsp_incr.specs.Inside.Changes.{update_of}
use Rattle.bsp_incr.specs.Inside.Before.{IsBefore}
use Rattle.bsp_incr.specs.Inside.Stays.{LinesStayBut}
use Rattle.bsp_incr.proofs.Lasting.{lines_stay}
use Rattle.bsp_incr.proofs.rerun.rerun.Goals as goal

pub invariant_of-given : goal.invariant_of-given
invariant_of-given g c = record { lawful = c.requires.lawful; before = c.requires.before; others = c.requires.args }

pub finished-requires-clause-few : goal.finished-requires-clause-few
finished-requires-clause-few g c = omega (arith, c.len.ensures, (lawful_input c.args.input.now c.requires.lawful).few_processes)

pub finished-requires-clause-executed : goal.finished-requires-clause-executed
finished-requires-clause-executed g c = λ r e.
    let acts = g.P.Program.acts c.args.program.now in
    let ending = g.P.Program.ending c.args.program.now in
    let looks = g.P.Program.looks c.args.program.now in
    let turn = turn_of acts ending in
    let laws = g.met.P.Program g.world.𝓛 g.world.𝓜 g.world.𝓡 ((λ s x. x), (λ x. x), (λ x. x), λ x. x) in
    let input : Input = c.args.input.now in
    let tape : Run = c.in_ok-tape-2.field-0.tape in
    let update : Update = c.in_ok-tape-2.field-0.update in
    let law : IsBspRun turn input tape = subst (IsBspRun turn input) (sym c.in_ok-tape-2.ensures.run) (IsBspRun-run turn input c.requires.lawful) in
    let updated : update ≡ update_of looks (Some r) tape = subst (λ (o : Option Run). update ≡ update_of looks o tape) e c.in_ok-tape-2.ensures.updated in
    subst (LinesStayBut r tape) (sym c.as_slice.ensures)
    (lines_stay acts ending looks input r tape update (laws.footprint c.args.program.now) c.requires.lawful (subst (IsBefore turn input) e c.requires.before) law updated)

pub returns-clause-run : goal.returns-clause-run
returns-clause-run g c =
    c.in_ok-history.ensures ∙ c.in_ok-tape-2.ensures.run

pub returns-clause-update : goal.returns-clause-update
returns-clause-update g c =
    c.in_ok-tape-2.ensures.updated ∙ ap (update_of (g.P.Program.looks c.args.program.now) (option_map (λ k. k.now) c.args.old)) (sym c.in_ok-history.ensures)
