use Rattle.std.proofs.Common.{◌≡◌, ◌∷◌, [], ◌+◌, ◌-◌, false, length, get_or, refl, sym, ap, ◌∙◌, arith, ◌==◌}
use Rattle.std.proofs.lemmas.Bool.Decides.{nat_tests}
use Rattle.std.proofs.lemmas.Grind.{common_steps}
use Rattle.bsp_step.specs.Context.{Context}
use Rattle.bsp_step.specs.Act.{put}
use Rattle.heat.specs.Heat.{own_cells, put_above, puts_to_neighbours}
use Rattle.heat.specs.Cells.{own_cell, length_of_own_cells}
use Rattle.heat.proofs.Continuing.{Runs-behind_act}
use Rattle.heat.proofs.kernel.put_to_neighbours.Goals as goal

pub returns : goal.returns
returns c =
    let now = c.args.ctx.now in
    let new = c.put.new.self in
    let done = c.in_ok-put.ensures.2 in
    let view : new.view ≡ now.view = ap (λ (d : Context). d.view) done in
    let memory : new.memory ≡ now.memory = ap (λ (d : Context). d.memory) done in
    let cells = own_cells now.memory in
    let first : get_or cells 0 0 ≡ c.unwrap-first.result = grind (arith, common_steps, own_cell now.memory 0 (omega arith)) in
    let area : length cells + 1 ≡ c.memory_len.result - 1 = omega (arith, length_of_own_cells now.memory) in
    let below : c.pid-pid.result ≡ now.view.pid = cc in
    let some : now.view.pid == 0 ≡ false = grind (arith, nat_tests) in
    let rest : put_above now.view cells ≡ put_above new.view (own_cells new.memory) = ap (λ v. put_above v cells) (sym view) ∙ ap (λ m. put_above new.view (own_cells m)) (sym memory) in
    let acts : puts_to_neighbours now.view cells ≡ put (c.pid-pid.result - 1) (c.unwrap-first.result ∷ []) (c.memory_len.result - 1) 0 ∷ put_above new.view (own_cells new.memory) =
    rw (some, first, area, rest, ← below) refl in
    Runs-behind_act now new c.put_above-2.new.ctx _ _ _ _ c.put_above-2.result c.in_ok-put.ensures.0 acts c.put_above-2.ensures
