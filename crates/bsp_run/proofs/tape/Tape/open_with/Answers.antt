use Rattle.std.proofs.Common.{◌∙◌, List, All, ap, sym, subst, map}
use Rattle.std.proofs.lemmas.List.Elements.{All-nil}
use Rattle.bsp_model.proofs.Inputs.{lawful_input}
use Rattle.bsp_run.specs.declared.superstep.Superstep.{Superstep}
use Rattle.bsp_run.specs.Result.{cost_of_delivery, IsSmall}
use Rattle.bsp_run.specs.Run.{open_views}
use Rattle.bsp_run.specs.Condition.{IsRun}
use Rattle.bsp_run.proofs.Opens.{start_is_run}
use Rattle.bsp_run.proofs.SeenRuns.{opened_as}
use Rattle.bsp_run.proofs.tape.Tape.open_with.Goals as goal

pub invariant_of-result : goal.invariant_of-result
invariant_of-result c =
    let input = c.args.input.now in
    let h = lawful_input input c.requires.lawful in
    let views = c.in_ok-views.ensures ∙ c.requires.views in
    let is = opened_as input c.new-2.result.items c.new-4.result c.in_ok-views.views h c.new-2.ensures.items c.new-4.ensures views in
    record {
      views = views ∙ ap open_views (sym is);
      run = subst IsRun (sym is) (start_is_run input h);
      costs = c.new-3.ensures.items ∙ sym (ap (λ (past : List Superstep). map (cost_of_delivery input.g input.l) (map (λ (s : Superstep). s.outcomes) past)) c.new-2.ensures.items);
      small = subst (All IsSmall) (sym c.new-3.ensures.items) (All-nil IsSmall);
    }

pub returns : goal.returns
returns c =
    let input = c.args.input.now in
    opened_as input c.new-2.result.items c.new-4.result c.in_ok-views.views (lawful_input input c.requires.lawful) c.new-2.ensures.items c.new-4.ensures (c.in_ok-views.ensures ∙ c.requires.views)
