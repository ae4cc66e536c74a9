use Rattle.std.proofs.Common.{◌<◌, length, sym, ap, arith, add-one}
use Rattle.bsp_model.proofs.RowsOf.{length-rows_of, get_or-rows_of}
use Rattle.bsp_model.proofs.rows.Rows.known_row.Goals as goal

pub bounds_of-start-requires-clause-rows : goal.bounds_of-start-requires-clause-rows
bounds_of-start-requires-clause-rows g c =
    omega (arith, c.requires, length-rows_of 0 c.self.inside.items.items c.self.inside.ends.items, ap length c.self.view_is)

pub returns : goal.returns
returns g c =
    let ends = c.self.inside.ends.items in
    let within : c.args.place < length ends = omega (arith, c.requires, length-rows_of 0 c.self.inside.items.items ends, ap length c.self.view_is) in
    rw (c.bounds_of-start.ensures.start, c.bounds_of-start.ensures.end, add-one, c.as_slice-ends.ensures.value, c.deref.ensures.value, ← c.self.view_is) (sym (get_or-rows_of 0 c.self.inside.items.items ends c.args.place within))

pub overflow_add-place : goal.overflow_add-place
overflow_add-place g c =
    omega (arith, c.requires, c.self.inside.ends.small, c.self.inside.ends.ok, length-rows_of 0 c.self.inside.items.items c.self.inside.ends.items, ap length c.self.view_is)
