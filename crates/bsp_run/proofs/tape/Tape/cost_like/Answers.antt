use Rattle.std.proofs.Common.{◌≡◌, ◌<◌, ◌∙◌, List, ap, sym, subst, length, arith}
use Rattle.bsp_run.specs.declared.superstep.Superstep.{Superstep}
use Rattle.bsp_run.specs.Run.{Run}
use Rattle.bsp_run.specs.Result.{cost_of_delivery}
use Rattle.bsp_run.specs.Supersteps.{superstep_at}
use Rattle.bsp_run.specs.TakingOver.{outcomes_there}
use Rattle.bsp_run.specs.Inside.Tape.{run_of}
use Rattle.bsp_run.proofs.TakingOver.{row_is, same_cost}
use Rattle.bsp_run.proofs.tape.Tape.cost_like.Goals as goal

pub returns-clause-value : goal.returns-clause-value
returns-clause-value c =
    let r : Run = run_of c.self.inside in
    let other = c.args.other.now in
    let steps : c.len.result ≡ length r.past = omega (arith, c.len.ensures, c.self.inside.past.ok.0) in
    let past : length r.past < length other.past = subst (λ (x : Run). length x.past < length other.past) (sym c.self.view_is) c.requires.past in
    let same : c.run.inside.past.items ≡ other.past = ap (λ (x : Run). x.past) (c.run.view_is ∙ c.other.view_is) in
    c.cost_at.ensures.value
    ∙ row_is c.run.inside.past.items c.run.inside.costs.items r.g r.l c.run.inside.g c.run.inside.l c.len.result c.index.result.now c.run.invariant.costs (omega (arith, steps, past, ap (λ (xs : List Superstep). length xs) same)) c.index.ensures
    ∙ ap (λ (xs : List Superstep). cost_of_delivery r.g r.l (superstep_at xs c.len.result).outcomes) same
    ∙ ap (λ n. cost_of_delivery r.g r.l (superstep_at other.past n).outcomes) steps
    ∙ ap (λ (x : Run). cost_of_delivery x.g x.l (outcomes_there other x)) c.self.view_is
    ∙ same_cost c.args.self.now.g c.args.self.now.l (outcomes_there other c.args.self.now) c.args.self.now.outcomes c.requires.work c.requires.moved
