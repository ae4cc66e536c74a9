use Rattle.std.proofs.Common.{◌≡◌, ◌∙◌, OnOk, ap, subst}
use Rattle.bsp_incr.specs.Replies.{refusal_in}
use Rattle.bsp_engine.specs.Inside.LiveReplies.{advanced}
use Rattle.bsp_engine.specs.Live.{LiveParts}
use Rattle.bsp_engine.proofs.Made.{kept_undo, made_text, refused_text}
use Rattle.bsp_engine.proofs.live_blocks.make_batch.Goals as goal

pub returns-in_ok-push_front-in-Ok-clause-after : goal.returns-in_ok-push_front-in-Ok-clause-after
returns-in_ok-push_front-in-Ok-clause-after g c =
    subst (λ (live : LiveParts _). OnOk c.apply_and_tell.result (c.apply_and_tell.new.live ≡ advanced live c.args.batch.now))
    (kept_undo _ c.args.live.now c.args.batch.now c.in-Ok.undo c.push_front.new.self.items c.live.view_is c.in-Ok.ensures.accepted c.in-Ok.ensures.batch c.in_ok-push_front-in-Ok.ensures.items) c.apply_and_tell.ensures.after

pub returns-in_ok-push_front-in-Ok-clause-text : goal.returns-in_ok-push_front-in-Ok-clause-text
returns-in_ok-push_front-in-Ok-clause-text g c =
    made_text g.P.Program.acts g.P.Program.ending g.P.Program.looks c.args.live.now _ _ c.args.batch.now c.apply_and_tell.result c.args.text.now.items c.apply_and_tell.new.text.items
    (kept_undo _ c.args.live.now c.args.batch.now c.in-Ok.undo c.push_front.new.self.items c.live.view_is c.in-Ok.ensures.accepted c.in-Ok.ensures.batch c.in_ok-push_front-in-Ok.ensures.items) c.apply_and_tell.ensures.text

pub returns-in-Err-Refused-clause-text : goal.returns-in-Err-Refused-clause-text
returns-in-Err-Refused-clause-text g c =
    refused_text g.P.Program.acts g.P.Program.ending g.P.Program.looks _ c.args.live.now c.args.batch.now c.in-Err-Refused.refusal c.push_refusal.result _ _
    c.live.view_is (c.in-Err-Refused.ensures.refused ∙ ap refusal_in c.in-Err-Refused.field-0-is) c.push_refusal.ensures
