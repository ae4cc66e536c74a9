use Rattle.std.proofs.Common.{◌++◌, ◌∙◌, ◌∷◌, [], None, Some, ap, codes, sym}
use Rattle.bsp_run.specs.Run.{Run}
use Rattle.bsp_incr.specs.Inside.Changes.{update_of}
use Rattle.bsp_run.specs.Result.{result_of}
use Rattle.bsp_text.specs.Lines.{line}
use Rattle.bsp_engine.specs.Text.{result_lines, update_lines}
use Rattle.bsp_engine.specs.WhyLines.{more_lines}
use Rattle.bsp_engine.proofs.Beginning.{opened_run, opening_told}
use Rattle.bsp_engine.proofs.Handing.{told}
use Rattle.bsp_text.proofs.Numbering.{three_parts}
use Rattle.bsp_engine.proofs.UpdateSteps.{opening_steps}
use Rattle.bsp_engine.proofs.live_blocks.push_opening.Goals as goal

pub push_update-requires-clause-steps : goal.push_update-requires-clause-steps
push_update-requires-clause-steps g c κs within =
    let history = opened_run g.P.Program.acts g.P.Program.ending g.P.Program.looks _ c.args.live.now c.history-history.result.now c.live.view_is c.input-input.ensures.lawful c.history-history.ensures.law in
    let looks = g.P.Program.looks c.args.live.now.program in
    opening_steps looks c.history-history.result.now c.args.update.now (c.requires ∙ ap (λ (r : Run). update_of looks None r) (sym history))

pub returns : goal.returns
returns g c =
    let r = c.history-history.result.now in
    let u = c.args.update.now in
    let more = more_lines c.live.inside.detail (g.P.Program.looks c.live.inside.session.program) None r u in
    told c.push_update.result _ _ (λ pushed. opening_told g.P.Program.acts g.P.Program.ending g.P.Program.looks _ c.args.live.now r u c.args.text.now.items c.push_update.new.text.items
    c.live.view_is c.input-input.ensures.lawful c.history-history.ensures.law c.requires
    (three_parts c.args.text.now.items (line (codes "run") (0 ∷ [])) (result_lines (result_of r)) (update_lines c.live.inside.detail.places more (Some u)) c.push_line.new.text.items c.push_run.new.text.items c.push_update.new.text.items
    c.in_ok-push_line.ensures c.in_ok-push_run.ensures
    (pushed ∙ ap (λ (p : _). c.push_run.new.text.items ++ update_lines c.live.inside.detail.places (more_lines c.live.inside.detail (g.P.Program.looks p) None r u) (Some u)) c.program.ensures))) c.push_update.ensures
