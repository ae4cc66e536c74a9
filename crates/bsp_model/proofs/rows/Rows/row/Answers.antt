use Rattle.std.proofs.Common.{[], length, sym, ap, arith}
use Rattle.std.proofs.lemmas.List.{get_or_past}
use Rattle.bsp_model.proofs.RowsOf.{length-rows_of}
use Rattle.bsp_model.proofs.rows.Rows.row.Goals as goal

pub known_row-requires : goal.known_row-requires
known_row-requires g c = omega (arith, length-rows_of 0 c.self.inside.items.items c.self.inside.ends.items, ap length c.self.view_is)

pub returns-else-place-len : goal.returns-else-place-len
returns-else-place-len g c =
    sym (get_or_past c.args.self.now c.args.place [] (omega (arith, length-rows_of 0 c.self.inside.items.items c.self.inside.ends.items, ap length c.self.view_is)))
