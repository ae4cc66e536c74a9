use Rattle.std.proofs.Common.{◌<◌, ℕ, length, ap, subst, ◌∙◌, arith}
use Rattle.bsp_step.specs.declared.lists.Lists.{Lists}
use Rattle.bsp_step.specs.Inside.Outcomes.{outcomes_of, AreSameLists}
use Rattle.bsp_step.specs.Inside.Gathered.{begun, rows_in}
use Rattle.bsp_step.proofs.Gathered.{begun_behind}
use Rattle.bsp_step.proofs.outcome_rows.open_rows.OpenRows.swap.Goals as goal

pub returns-clause-begun : goal.returns-clause-begun
returns-clause-begun c =
    let ends = c.swap.new.x.items in
    let lists = c.rows.inside.lists.value in
    let new = c.swap-3.new.self in
    let same : (k : ℕ) → k < length ends → AreSameLists lists k (rows_in new) k =
    λ k below. subst (λ (m : Lists). AreSameLists m k (rows_in new) k) c.deref_mut.ensures.value (c.swap-3.ensures.taken k (omega (arith, below, c.len.ensures, c.swap.new.x.ok))) in
    begun_behind ends c.swap-2.new.x lists new same c.swap-3.ensures.nothing
    ∙ (λ i. begun (outcomes_of (c.swap.ensures.x_after i).items (c.swap-2.ensures.x_after i) lists))
    ∙ ap begun c.rows.view_is
