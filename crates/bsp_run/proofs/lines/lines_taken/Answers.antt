use Rattle.std.proofs.Common.{◌≡◌, ◌∙◌, ℕ, List, IfOk, map, ap, subst}
use Rattle.bsp_step.specs.OutcomeParts.{OutcomeParts}
use Rattle.bsp_deliver.specs.Requests.{each_below}
use Rattle.bsp_run.specs.Inside.Lines.{lines_from}
use Rattle.bsp_run.proofs.Gathered.{lines_from_all}
use Rattle.bsp_run.proofs.lines.lines_taken.Goals as goal

pub returns : goal.returns
returns c =
    let n = c.args.nprocs in
    let before : List (List (List ℕ)) = c.args.before.now in
    let marks = c.args.marks.now in
    let turns : List (List OutcomeParts) = map (λ o. o.now) c.args.turns.now in
    let all : List (List (List ℕ)) = c.gather.new.all in
    subst (λ (each : List (List (List ℕ))). IfOk c.each_lines.result (λ lines. lines ≡ each))
    (ap (λ (column : List (List (List ℕ))). each_below n (lines_from before marks column)) c.in_ok-all.ensures
    ∙ lines_from_all before marks turns n all c.requires c.in_ok-gather.ensures)
    c.each_lines.ensures
