use Rattle.std.proofs.Common.{◌≡◌, ◌∙◌, ◌<◌, ℕ, List, [], All, IfOk, ap, length, sym, subst, arith}
use Rattle.std.specs.List.{range_with_len}
use Rattle.bsp_step.specs.ViewParts.{ViewParts}
use Rattle.bsp_model.proofs.Inputs.{lawful_input}
use Rattle.bsp_run.proofs.Lists.{range_below}
use Rattle.bsp_run.proofs.Opens.{first_cells, opens_first, views_first}
use Rattle.bsp_run.proofs.views.Views.first.Goals as goal

pub numbers-processes-requires : goal.numbers-processes-requires
numbers-processes-requires c =
    let few = (lawful_input c.args.input.now c.requires).few_processes in
    omega (arith, few, c.len.ensures, ap length c.as_slice-mems.ensures)

pub add_first_cells-requires-clause-known : goal.add_first_cells-requires-clause-known
add_first_cells-requires-clause-known c =
    let n = length c.as_slice-mems.result.now in
    subst (All (λ p. p < n)) (sym c.numbers-processes.ensures) (range_below n)

pub open-requires : goal.open-requires
open-requires c =
    let input = c.args.input.now in
    let cells = first_cells c.as_slice-mems.result.now input.mems c.numbers-processes.result.now c.add_first_cells.new.cells c.as_slice-mems.ensures (c.numbers-processes.ensures ∙ ap (λ (ms : List (List ℕ)). range_with_len 0 (length ms)) c.as_slice-mems.ensures) c.in_ok-add_first_cells.ensures in
    let setting = c.in_ok-setting.ensures ∙ (λ i. record { step = 0; args = c.in_ok-args.ensures i; table = []; tag_size = 0 }) in
    opens_first input c.in_ok-setting.setting c.add_first_cells.new.cells (lawful_input input c.requires) setting cells

pub returns : goal.returns
returns c =
    let input = c.args.input.now in
    let cells = first_cells c.as_slice-mems.result.now input.mems c.numbers-processes.result.now c.add_first_cells.new.cells c.as_slice-mems.ensures (c.numbers-processes.ensures ∙ ap (λ (ms : List (List ℕ)). range_with_len 0 (length ms)) c.as_slice-mems.ensures) c.in_ok-add_first_cells.ensures in
    let setting = c.in_ok-setting.ensures ∙ (λ i. record { step = 0; args = c.in_ok-args.ensures i; table = []; tag_size = 0 }) in
    subst (λ (vs : List ViewParts). IfOk c.open.result (λ v. v ≡ vs)) (views_first input c.in_ok-setting.setting c.add_first_cells.new.cells setting cells) c.open.ensures
