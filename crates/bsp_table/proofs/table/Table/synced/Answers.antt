use Rattle.std.proofs.Common.{◌≡◌, ◌≤◌, List, length, None, sym, subst, arith, rules}
use Rattle.bsp_model.specs.Limits.{most_slots}
use Rattle.bsp_table.specs.declared.area.Area.{Area}
use Rattle.bsp_table.specs.NextTable.{table_fault, AreFull, AreSlotsInside, AreSlotsWithin}
use Rattle.bsp_table.proofs.NextTables.{full_after, few_after, inside_after, within_after}
use Rattle.bsp_table.proofs.table.Table.synced.Goals as goal

pub returns-clause-full_after : goal.returns-clause-full_after
returns-clause-full_after g c =
    let pops = g.R.Registers.pops c.args.all.now in
    let pushes = g.R.Registers.pushes c.args.all.now in
    subst (AreFull (length pops)) (sym c.in_ok-next.ensures)
    (full_after (length pops) c.args.self.now pops pushes c.requires.full (omega (arith, c.count-nprocs.ensures.pops, c.count-nprocs.ensures.pushes)))

pub returns-clause-few_after : goal.returns-clause-few_after
returns-clause-few_after g c =
    let none : table_fault c.args.self.now (g.R.Registers.pops c.args.all.now) (g.R.Registers.pushes c.args.all.now) ≡ None = search rules in
    subst (λ (slots : List (List Area)). length slots ≤ most_slots) (sym c.in_ok-next.ensures)
    (few_after c.args.self.now (g.R.Registers.pops c.args.all.now) (g.R.Registers.pushes c.args.all.now) none)

pub returns-clause-inside : goal.returns-clause-inside
returns-clause-inside g c =
    let none : table_fault c.args.self.now (g.R.Registers.pops c.args.all.now) (g.R.Registers.pushes c.args.all.now) ≡ None = search rules in
    λ sizes old pushes. subst (AreSlotsInside sizes) (sym c.in_ok-next.ensures)
    (inside_after sizes c.args.self.now (g.R.Registers.pops c.args.all.now) (g.R.Registers.pushes c.args.all.now) none old pushes)

pub returns-clause-within : goal.returns-clause-within
returns-clause-within g c =
    let none : table_fault c.args.self.now (g.R.Registers.pops c.args.all.now) (g.R.Registers.pushes c.args.all.now) ≡ None = search rules in
    λ bound old pushes. subst (AreSlotsWithin bound) (sym c.in_ok-next.ensures)
    (within_after bound c.args.self.now (g.R.Registers.pops c.args.all.now) (g.R.Registers.pushes c.args.all.now) none old pushes)
