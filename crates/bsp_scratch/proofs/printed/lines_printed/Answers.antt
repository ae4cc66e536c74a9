use Rattle.std.proofs.Common.{◌≡◌, ◌∙◌, ℕ, Bool, List, [], IfOk, ap, subst}
use Rattle.bsp_model.specs.Columns.{row_at}
use Rattle.bsp_deliver.specs.Requests.{each_below}
use Rattle.bsp_run.specs.Inside.Lines.{lines_from}
use Rattle.bsp_scratch.specs.Inside.Printed.{lines_in}
use Rattle.bsp_run.proofs.Lists.{each_below-agree}
use Rattle.bsp_run.proofs.Gathered.{lines_from_none}
use Rattle.bsp_scratch.proofs.printed.lines_printed.Goals as goal

pub returns : goal.returns
returns c =
    let n = c.args.nprocs in
    let all : List (List (List ℕ)) = c.in_ok-all.all in
    subst (λ (each : List (List (List ℕ))). IfOk c.each_lines.result (λ lines. lines ≡ each)) (ap (λ (marks : List Bool). each_below n (lines_from [] marks c.in_ok-all-2.all)) c.none-none.ensures ∙ ap (λ (column : List (List (List ℕ))). each_below n (lines_from [] [] column)) c.in_ok-all-2.ensures
    ∙ lines_from_none all n ∙ each_below-agree n (row_at all) (lines_in c.args.printed.now.items) c.in_ok-all.ensures)
    c.each_lines.ensures
