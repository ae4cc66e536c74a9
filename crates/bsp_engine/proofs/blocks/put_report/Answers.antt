use Rattle.std.proofs.Common.{◌≡◌, ◌++◌, ◌∙◌, [], Bool, List, ap, map, sym}
use Rattle.bsp_incr.specs.declared.reply.Reply.{Reply}
use Rattle.bsp_engine.specs.Blocks.{text_of}
use Rattle.bsp_engine.specs.Inside.Replies.{job_told}
use Rattle.bsp_engine.specs.Told.{ToldReply, alone}
use Rattle.bsp_engine.proofs.Alone.{scratch_told}
use Rattle.bsp_engine.proofs.Handing.{told}
use Rattle.bsp_engine.proofs.blocks.put_report.Goals as goal

pub returns-then-scratch : goal.returns-then-scratch
returns-then-scratch g c =
    let detail = c.args.detail in
    let acts = g.P.Program.acts in
    let ending = g.P.Program.ending in
    let looks = g.P.Program.looks in
    let none : c.clear.new.self.items ≡ [] = c.clear.ensures.items in
    told c.push_report.result _ _
    (λ text. text ∙ ap (λ t. t ++ text_of detail (map alone c.as_slice.result.now)) none
    ∙ ap (λ (rs : List Reply). text_of detail (map alone rs)) (c.as_slice.ensures.value ∙ c.in_ok-replies.ensures)
    ∙ sym (ap (λ (ts : List ToldReply). text_of detail ts) (scratch_told acts ending looks detail c.args.job))
    ∙ sym (ap (λ (b : Bool). text_of detail (job_told acts ending looks b detail c.args.job)) c.if-scratch.true))
    c.push_report.ensures
