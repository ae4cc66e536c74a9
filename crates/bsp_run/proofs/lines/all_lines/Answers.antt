use Rattle.std.proofs.Common.{◌≡◌, ◌∙◌, ◌++◌, ℕ, List, Bor, length, map, ap, sym}
use Rattle.std.specs.Prelude.{option_map, option_to_list}
use Rattle.std.proofs.lemmas.Result.{IfOk-weaker}
use Rattle.bsp_step.specs.OutcomeParts.{OutcomeParts}
use Rattle.bsp_deliver.specs.Requests.{each_below}
use Rattle.bsp_run.proofs.Lists.{each_below-agree}
use Rattle.bsp_run.specs.Supersteps.{outcomes_of}
use Rattle.bsp_run.specs.Result.{lines_of_process}
use Rattle.bsp_run.proofs.Gathered.{all_taken}
use Rattle.bsp_run.proofs.lines.all_lines.Goals as goal

pub returns-then-are_all_taken : goal.returns-then-are_all_taken
returns-then-are_all_taken c =
    let before : List (List (List ℕ)) = c.args.before.now in
    let turns : List (List OutcomeParts) = outcomes_of c.args.past.now ++ option_to_list (option_map (λ o. o.now) c.args.last) in
    let count = ap (λ (ls : List (List (List ℕ))). length ls) (sym c.as_slice.ensures) ∙ c.are_all_taken.ensures.count c.if-are_all_taken.true in
    let all = all_taken before c.args.marks.now turns c.args.nprocs c.requires count (c.are_all_taken.ensures.unmarked c.if-are_all_taken.true) in
    IfOk-weaker c.copy.result (λ each. each ≡ before) (λ each. each ≡ each_below c.args.nprocs (lines_of_process turns)) (λ each e. e ∙ all) c.copy.ensures

pub returns : goal.returns
returns c =
    let n = c.args.nprocs in
    let all : List (List OutcomeParts) = outcomes_of c.args.past.now ++ option_to_list (option_map (λ o. o.now) c.args.last) in
    let printed : List (List OutcomeParts) = map (λ o. o.now) c.as_slice-3.result.now in
    let same = each_below-agree n (lines_of_process printed) (lines_of_process all) (λ p l. ap (λ (turns : List (Bor (List OutcomeParts))). lines_of_process (map (λ o. o.now) turns) p) c.as_slice-3.ensures.value ∙ c.in_ok-turns.ensures p) in
    IfOk-weaker c.lines_taken.result (λ each. each ≡ each_below n (lines_of_process printed)) (λ each. each ≡ each_below n (lines_of_process all)) (λ each e. e ∙ same) c.lines_taken.ensures
