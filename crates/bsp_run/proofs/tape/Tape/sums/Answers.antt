use Rattle.std.proofs.Common.{◌≡◌, ◌∙◌, ap, sym, length, map, subst, List, ◌++◌, cond, Option, None, Some, true}
use Rattle.std.specs.Prelude.{option_map, option_to_list}
use Rattle.std.proofs.lemmas.List.{length-map}
use Rattle.bsp_model.specs.declared.cost.CostRow.{CostRow}
use Rattle.bsp_step.specs.ViewParts.{ViewParts}
use Rattle.bsp_step.specs.OutcomeParts.{OutcomeParts}
use Rattle.bsp_deliver.specs.Requests.{each_below}
use Rattle.bsp_run.specs.declared.superstep.Superstep.{Superstep}
use Rattle.bsp_run.specs.Run.{Run, is_limit}
use Rattle.bsp_run.specs.Supersteps.{outcomes_of, supersteps_of}
use Rattle.bsp_run.specs.Inside.Tape.{run_of}
use Rattle.bsp_run.specs.Condition.{is_ended}
use Rattle.bsp_run.specs.Result.{lines_of, lines_of_process, costs_of, cost_of_delivery, cost_of_end, total_of}
use Rattle.bsp_run.specs.Inside.Lines.{AreLinesUnlessMarked}
use Rattle.bsp_run.proofs.Laws.{outcomes-last, outcomes-ended}
use Rattle.bsp_run.proofs.tape.Tape.sums.Goals as goal

last_is : (c : goal.After-total_of-total) → option_map (λ o. o.now) c.last_turn-last.result ≡ cond (is_limit c.self.inside.phase) None (Some (run_of c.self.inside).outcomes)
last_is c = c.last_turn-last.ensures

has_ended : (c : goal.After-total_of-total) → is_ended c.self.inside.phase ≡ true
has_ended c = ap (λ (x : Run). is_ended x.phase) c.self.view_is ∙ c.requires.ended

lines_are : (c : goal.After-total_of-total) → c.in_ok-lines.lines ≡ lines_of (run_of c.self.inside)
unfolding lines_of
lines_are c =
    let r : Run = run_of c.self.inside in
    let turns : List Superstep → Option (List OutcomeParts) → List (List OutcomeParts) = λ past last. outcomes_of past ++ option_to_list last in
    c.in_ok-lines.ensures
    ∙ ap (λ n. each_below n (lines_of_process (turns c.as_slice-past.result.now (option_map (λ o. o.now) c.last_turn-last.result)))) (c.len.ensures ∙ ap (λ (vs : List ViewParts). length vs) c.deref.ensures ∙ sym (length-map c.self.inside.views (λ (v : ViewParts). v.memory)))
    ∙ ap (λ (past : List Superstep). each_below (length r.state.memories) (lines_of_process (turns past (option_map (λ o. o.now) c.last_turn-last.result)))) c.as_slice-past.ensures.value
    ∙ ap (λ (last : Option (List OutcomeParts)). each_below (length r.state.memories) (lines_of_process (turns r.past last))) (last_is c)
    ∙ ap (λ (os : List (List OutcomeParts)). each_below (length r.state.memories) (lines_of_process os)) (sym (outcomes-ended r (has_ended c)))

costs_are : (c : goal.After-total_of-total) → c.in_ok-costs.costs ≡ costs_of (run_of c.self.inside)
unfolding costs_of
costs_are c =
    let r : Run = run_of c.self.inside in
    let ends : List (List OutcomeParts) → List CostRow = λ last. map cost_of_end last in
    c.in_ok-costs.ensures.rows
    ∙ ap (λ (rows : List CostRow). rows ++ ends (option_to_list (option_map (λ o. o.now) c.last_turn-last.result))) (c.as_slice.ensures.value ∙ c.self.invariant.costs)
    ∙ ap (λ (last : List (List OutcomeParts)). map (cost_of_delivery r.g r.l) (outcomes_of r.past) ++ ends last) (ap option_to_list (last_is c) ∙ sym (outcomes-last r (has_ended c)))

pub returns : goal.returns
returns c = record {
  lines = lines_are c ∙ ap lines_of c.self.view_is;
  costs = costs_are c ∙ ap costs_of c.self.view_is;
  total = c.total_of-total.ensures ∙ ap total_of c.as_slice-2.ensures ∙ ap total_of (costs_are c ∙ ap costs_of c.self.view_is);
}

pub all_lines-requires : goal.all_lines-requires
all_lines-requires c =
    let r : Run = run_of c.self.inside in
    let turns : List Superstep → Option (List OutcomeParts) → List (List OutcomeParts) = λ past last. outcomes_of past ++ option_to_list last in
    let last : option_map (λ o. o.now) c.last_turn-last.result ≡ cond (is_limit c.self.inside.phase) None (Some r.outcomes) =
    c.last_turn-last.ensures in
    let ended : is_ended r.phase ≡ true = ap (λ (x : Run). is_ended x.phase) c.self.view_is ∙ c.requires.ended in
    subst (AreLinesUnlessMarked c.args.lines.now c.args.marks.now)
    (sym
    (ap (λ (past : List Superstep). turns past (option_map (λ o. o.now) c.last_turn-last.result)) c.as_slice-past.ensures.value
    ∙ ap (turns r.past) last ∙ sym (outcomes-ended r ended) ∙ ap (λ (x : Run). outcomes_of (supersteps_of x)) c.self.view_is))
    c.requires.marks
