use Rattle.std.proofs.Common.{◌≡◌, ◌∙◌, List, ℕ, ap, replicate, subst, take}
use Rattle.std.proofs.lemmas.List.{take-replicate}
use Rattle.bsp_model.specs.Limits.{most_tag_words}
use Rattle.bsp_step.specs.Act as act
use Rattle.bsp_step.specs.Calls.{Performs}
use Rattle.bsp_collectives.specs.Messages.{blank_tag}
use Rattle.bsp_collectives.proofs.sending.send.Goals as goal

pub returns : goal.returns
returns c =
    let size = c.tag_size.ensures in
    let tag : take c.tag_size.result (replicate most_tag_words 0) ≡ blank_tag c.args.ctx.now.view =
    take-replicate c.tag_size.result most_tag_words 0 size.small ∙ ap (λ (n : ℕ). replicate n 0) size.size in
    subst (λ (t : List ℕ). Performs c.args.ctx.now (act.send c.args.pid t c.args.words.now) c.send.new.self c.send.result) tag c.send.ensures
