use Rattle.std.proofs.Common.{length, ap, arith}
use Rattle.std.proofs.lemmas.List.FromFn.{length-map-range_with_len}
use Rattle.bsp_model.specs.Columns.{row_at}
use Rattle.bsp_step.proofs.outcome_rows.put_rows.PutRows.count.Goals as goal

pub returns : goal.returns
returns c =
    let r = c.self.inside in
    omega (arith, c.len.ensures, r.ends.ok, ap length c.self.view_is, length-map-range_with_len (row_at r.lists.value.puts) 0 (length r.ends.items))
