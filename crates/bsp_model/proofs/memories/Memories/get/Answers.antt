use Rattle.std.proofs.Common.{length, ap, arith}
use Rattle.bsp_model.proofs.PagedMemories.{memory_of_process}
use Rattle.bsp_model.proofs.memories.Memories.get.Goals as goal

pub row-last-requires : goal.row-last-requires
row-last-requires c = (memory_of_process c.self.inside.pages c.self.inside.lasts c.args.self.now c.args.pid c.self.invariant c.self.view_is c.requires).within

pub overflow_mul-result : goal.overflow_mul-result
overflow_mul-result c =
    let m = memory_of_process c.self.inside.pages c.self.inside.lasts c.args.self.now c.args.pid c.self.invariant c.self.view_is c.requires in
    let small = m.has.fits in
    omega (arith, small, ap length c.row-pages.ensures)

pub overflow_add-result : goal.overflow_add-result
overflow_add-result c =
    let m = memory_of_process c.self.inside.pages c.self.inside.lasts c.args.self.now c.args.pid c.self.invariant c.self.view_is c.requires in
    let small = m.has.fits in
    omega (arith, small, ap length c.row-pages.ensures, ap length c.row-last.ensures)

pub invariant_of-result : goal.invariant_of-result
invariant_of-result c =
    let m = memory_of_process c.self.inside.pages c.self.inside.lasts c.args.self.now c.args.pid c.self.invariant c.self.view_is c.requires in
    rw (c.row-pages.ensures, c.row-last.ensures) m.has

pub returns : goal.returns
returns c =
    let m = memory_of_process c.self.inside.pages c.self.inside.lasts c.args.self.now c.args.pid c.self.invariant c.self.view_is c.requires in
    rw (c.row-pages.ensures, c.row-last.ensures) m.is
