use Rattle.std.proofs.Common.{length, ap, arith}
use Rattle.bsp_model.proofs.RowsOf.{length-rows_of}
use Rattle.bsp_model.proofs.rows.Rows.len.Goals as goal

pub returns-clause-len : goal.returns-clause-len
returns-clause-len g c = omega (arith, length-rows_of 0 c.self.inside.items.items c.self.inside.ends.items, ap length c.self.view_is, c.self.inside.ends.ok)
