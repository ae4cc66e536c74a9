use Rattle.std.proofs.Common.{◌≡◌, ◌∷◌, ◌++◌, [], ◌∙◌, subst}
use Rattle.std.specs.Prelude.{IfOk}
use Rattle.bsp_step.proofs.Behind.{begins-fresh, turn-behind}
use Rattle.bsp_step.proofs.program.add_turn.Goals as goal

pub returns : goal.returns
returns g c =
    let p = c.args.program.now in
    let ctx = c.in_ok-ctx.ctx in
    let follows = c.in_ok-how.ensures (begins-fresh c.args.gathering c.args.view.now ctx c.in_ok-ctx.ensures) in
    let turn = turn-behind (g.P.Program.acts p) (g.P.Program.ending p) c.args.gathering c.args.view.now ctx c.step.new.ctx c.in_ok-how.how c.in_ok-ctx.ensures follows in
    let outcome = c.turned.ensures.closed ∙ turn.0 in
    let earlier = c.turned.ensures.earlier ∙ turn.1 in
    subst (λ all. IfOk c.with_turn.result (λ g'. g' ≡ all)) (λ i. earlier i ++ outcome i ∷ []) c.with_turn.ensures
