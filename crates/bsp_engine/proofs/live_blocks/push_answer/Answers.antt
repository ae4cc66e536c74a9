use Rattle.bsp_engine.proofs.Made.{undone_text}
use Rattle.bsp_engine.proofs.live_blocks.push_answer.Goals as goal

pub returns-in-Some-clause-text : goal.returns-in-Some-clause-text
returns-in-Some-clause-text g c =
    rw c.in-Undo.is (undone_text g.P.Program.acts g.P.Program.ending g.P.Program.looks _ c.args.live.now c.in-Some.undo c.as_slice-in-Some.result.now c.pop_front.new.self.items c.make_undo.result c.args.text.now.items c.make_undo.new.text.items
    c.live.view_is c.in-Some.ensures.items c.as_slice-in-Some.ensures c.make_undo.ensures.text)
