use Rattle.std.proofs.Common.{◌∙◌, sym}
use Rattle.bsp_engine.proofs.Made.{refused_text}
use Rattle.bsp_engine.proofs.live_blocks.make_undo.Goals as goal

pub returns-in-Some-clause-text : goal.returns-in-Some-clause-text
returns-in-Some-clause-text g c =
    refused_text g.P.Program.acts g.P.Program.ending g.P.Program.looks _ c.args.live.now c.args.undo.now c.in-Some.refusal c.push_refusal.result _ _
    c.live.view_is (sym c.refusal.ensures ∙ c.in-Some.is) c.push_refusal.ensures
