use Rattle.std.proofs.Common.{length, [], true, false, arith, get_or, sym, ◌∙◌, ap}
use Rattle.std.proofs.lemmas.Bool.{lt-ltb, le-ltb}
use Rattle.bsp_table.proofs.NextTables.{length-kept_slots, pop_mismatch, push_mismatch, by_size}
use Rattle.bsp_table.proofs.table.Table.fault.Goals as goal

pub returns-then-not-is_same_pops : goal.returns-then-not-is_same_pops
returns-then-not-is_same_pops g c =
    pop_mismatch c.args.self.now (g.R.Registers.pops c.args.all.now) (g.R.Registers.pushes c.args.all.now) (sym c.is_same_pops.ensures ∙ c.if-not-is_same_pops.true)

pub returns-then-not-is_same_count : goal.returns-then-not-is_same_count
returns-then-not-is_same_count g c =
    push_mismatch c.args.self.now (g.R.Registers.pops c.args.all.now) (g.R.Registers.pushes c.args.all.now)
    (sym c.is_same_pops.ensures ∙ c.if-not-is_same_pops.false) (sym c.is_same_count.ensures ∙ c.if-not-is_same_count.true)

pub overflow_sub-kept : goal.overflow_sub-kept
overflow_sub-kept g c =
    let pops = g.R.Registers.pops c.args.all.now in
    omega (arith, length-kept_slots c.args.self.now (get_or pops 0 []) (c.requires.slots 0 [] c.requires.some), ap length c.pops.ensures, c.len.ensures)

pub returns-then-saturating_add-gt-MOST_SLOTS : goal.returns-then-saturating_add-gt-MOST_SLOTS
returns-then-saturating_add-gt-MOST_SLOTS g c =
    by_size c.args.self.now (g.R.Registers.pops c.args.all.now) (g.R.Registers.pushes c.args.all.now) true c.requires.some (c.requires.slots 0 [] c.requires.some)
    (sym c.is_same_pops.ensures ∙ c.if-not-is_same_pops.false) (sym c.is_same_count.ensures ∙ c.if-not-is_same_count.false)
    (lt-ltb _ _ (omega (arith, ap length c.pops.ensures, ap length c.pushes.ensures)))

pub returns : goal.returns
returns g c =
    by_size c.args.self.now (g.R.Registers.pops c.args.all.now) (g.R.Registers.pushes c.args.all.now) false c.requires.some (c.requires.slots 0 [] c.requires.some)
    (sym c.is_same_pops.ensures ∙ c.if-not-is_same_pops.false) (sym c.is_same_count.ensures ∙ c.if-not-is_same_count.false)
    (le-ltb _ _ (omega (arith, ap length c.pops.ensures, ap length c.pushes.ensures)))
