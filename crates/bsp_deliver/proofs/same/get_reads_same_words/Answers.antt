use Rattle.std.proofs.Common.{ap, sym, ◌∙◌}
use Rattle.bsp_step.specs.OutcomeParts.{OutcomeParts}
use Rattle.bsp_deliver.proofs.ReadWords.{read_together}
use Rattle.bsp_deliver.proofs.same.get_reads_same_words.Goals as goal

pub returns : goal.returns
returns c =
    let g = c.args.get.now in
    let old = read_together c.args.old.now g c.earlier.inside.memory c.requires.old (ap (λ (o : OutcomeParts). o.memory) (c.earlier.view_is ∙ c.get-earlier.ensures)) in
    let new = read_together c.args.new.now g c.later.inside.memory c.requires.new (ap (λ (o : OutcomeParts). o.memory) (c.later.view_is ∙ c.get-later.ensures)) in
    (λ t. sym old ∙ c.has_same_words.ensures.0 t ∙ new, λ e. c.has_same_words.ensures.1 (old ∙ e ∙ sym new))
