use Rattle.std.proofs.Common.{length, ap, arith}
use Rattle.bsp_step.proofs.OutcomeColumns.{length-outcomes_of}
use Rattle.bsp_step.proofs.outcome_rows.OutcomeRows.len.Goals as goal

pub returns : goal.returns
returns c =
    let rows = c.self.inside in
    omega (arith, c.len.ensures, rows.ends.ok, length-outcomes_of rows.ends.items rows.memories rows.lists.value, ap length c.self.view_is)
