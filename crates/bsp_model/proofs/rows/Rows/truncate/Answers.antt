use Rattle.std.proofs.Common.{◌≤◌, length, sym, ap, arith}
use Rattle.std.proofs.lemmas.List.{take_all}
use Rattle.bsp_model.proofs.RowsOf.{length-rows_of}
use Rattle.bsp_model.proofs.RowsCut.{rows_of-first, AreEnds-first}
use Rattle.bsp_model.proofs.rows.Rows.truncate.Goals as goal

pub invariant_of-self : goal.invariant_of-self
invariant_of-self g c =
    let within : c.args.count ≤ length c.self.inside.ends.items = omega (arith, c.self.inside.ends.ok) in
    rw (c.truncate-then-count-len.ensures.items, c.truncate.ensures.items, c.start_of.ensures, c.as_slice.ensures.value)
    (AreEnds-first c.self.inside.items.items c.self.inside.ends.items c.args.count c.self.invariant within)

pub returns-then-count-len : goal.returns-then-count-len
returns-then-count-len g c =
    let within : c.args.count ≤ length c.self.inside.ends.items = omega (arith, c.self.inside.ends.ok) in
    rw (c.truncate-then-count-len.ensures.items, c.truncate.ensures.items, c.start_of.ensures, c.as_slice.ensures.value, ← c.self.view_is)
    (rows_of-first c.self.inside.items.items c.self.inside.ends.items c.args.count c.self.invariant within)

pub returns-else-count-len : goal.returns-else-count-len
returns-else-count-len g c =
    sym (take_all c.args.count c.args.self.now (omega (arith, c.self.inside.ends.ok, length-rows_of 0 c.self.inside.items.items c.self.inside.ends.items, ap length c.self.view_is)))
