use Rattle.std.proofs.Common.{ap, sym, drop, ◌∙◌}
use Rattle.bsp_step.proofs.MessagesLeft.{first_left}
use Rattle.bsp_step.specs.ViewParts.{ViewParts}
use Rattle.bsp_kernels.specs.Machine.{first_tag}
use Rattle.bsp_kernels.proofs.looking.sources.first_tag.Goals as goal

pub returns : goal.returns
returns c =
    ap first_tag (sym (first_left c.view.inside.queue c.args.taken _ c.at.ensures))
    ∙ ap (λ (v : ViewParts). first_tag (drop c.args.taken v.queue)) c.view.view_is
