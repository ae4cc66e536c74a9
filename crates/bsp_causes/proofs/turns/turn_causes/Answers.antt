use Rattle.std.proofs.Common.{◌≡◌, ℕ, Bool, true, false, List, IfOk, Bor, length, get_or, arith, sym, ap, ◌∙◌, subst}
use Rattle.std.specs.Prelude.{option_map}
use Rattle.bsp_step.specs.ViewParts.{ViewParts}
use Rattle.bsp_run.specs.Run.{Run}
use Rattle.bsp_run.specs.Supersteps.{supersteps_of, superstep_at}
use Rattle.bsp_run.specs.Condition.{no_view}
use Rattle.bsp_incr.specs.Exact.{supersteps_before, view_there}
use Rattle.bsp_causes.specs.declared.turns.TurnCauses.{TurnCauses}
use Rattle.bsp_causes.specs.TurnCauses.{view_causes, turn_causes}
use Rattle.bsp_causes.proofs.Cases.{turn_there, turn_not_there}
use Rattle.bsp_causes.proofs.turns.turn_causes.Goals as goal

pub returns-then-pid-len : goal.returns-then-pid-len
returns-then-pid-len g c =
    let olds = supersteps_before (option_map (λ (h : Bor Run). h.now) c.args.before) in
    let place = c.args.place in
    let many : c.len.result ≡ length (superstep_at olds place.step).views = c.len.ensures ∙ ap (λ (vs : List ViewParts). length vs) c.views_in-old.ensures in
    (λ i. record { is_new = true; args = false; queue = false; table = false; tag_size = false; words = c.new.ensures i }) ∙ sym (turn_not_there (g.P.Program.looks c.args.program.now) olds (supersteps_of c.args.after.now) place (omega (arith, many, c.if-pid-len.true)))

pub returns : goal.returns
returns g c =
    let looks : ViewParts → ℕ → Bool = g.P.Program.looks c.args.program.now in
    let olds = supersteps_before (option_map (λ (h : Bor Run). h.now) c.args.before) in
    let news = supersteps_of c.args.after.now in
    let place = c.args.place in
    let many : c.len.result ≡ length (superstep_at olds place.step).views = c.len.ensures ∙ ap (λ (vs : List ViewParts). length vs) c.views_in-old.ensures in
    let old : c.get.result ≡ view_there olds place = c.get.ensures ∙ ap (λ (vs : List ViewParts). get_or vs place.pid no_view) c.views_in-old.ensures in
    let new : c.get-2.result ≡ view_there news place = c.get-2.ensures ∙ ap (λ (vs : List ViewParts). get_or vs place.pid no_view) c.views_in-new.ensures in
    let same : view_causes looks c.get.result c.get-2.result ≡ turn_causes looks olds news place =
    (λ i. view_causes looks (old i) (new i)) ∙ sym (turn_there looks olds news place (omega (arith, many, c.if-pid-len.false))) in
    subst (λ (x : TurnCauses). IfOk c.view_causes.result (λ y. y ≡ x)) same c.view_causes.ensures
