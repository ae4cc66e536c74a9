use Rattle.std.proofs.Common.{◌≡◌, [], ◌∙◌, ap, subst}
use Rattle.bsp_step.specs.ViewParts.{ViewParts}
use Rattle.bsp_step.specs.Context.{Context}
use Rattle.bsp_step.specs.OutcomeParts.{IsOutcomeOf}
use Rattle.bsp_step.proofs.Behind.{begins-fresh}
use Rattle.bsp_step.proofs.Performing.{Follows-view}
use Rattle.bsp_step.proofs.program.turn.Goals as goal

pub returns-clause-issued : goal.returns-clause-issued
returns-clause-issued g c =
    let view_is : c.in_ok-ctx.ctx.view ≡ c.args.view.now = ap (λ (d : Context). d.view) c.in_ok-ctx.ensures in
    let follows = c.in_ok-how.ensures (begins-fresh [] c.args.view.now c.in_ok-ctx.ctx c.in_ok-ctx.ensures) in
    let kept : c.step.new.ctx.view ≡ c.args.view.now = Follows-view follows ∙ view_is in
    subst (λ (v : ViewParts). IsOutcomeOf v c.close.result) kept c.close.ensures.issued
