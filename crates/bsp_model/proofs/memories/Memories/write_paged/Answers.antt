use Rattle.std.proofs.Common.{◌≡◌, ◌<◌, ◌≤◌, ◌+◌, ◌*◌, [], ℕ, length, get_or, set, refl, ◌∙◌, ap, sym, arith}
use Rattle.std.proofs.lemmas.List.{set-get_or}
use Rattle.std.proofs.lemmas.Bool.Decides.{nat_tests}
use Rattle.bsp_model.specs.Columns.{row_at}
use Rattle.bsp_model.specs.Memory.{memory_written}
use Rattle.bsp_model.specs.Inside.Memories.{count_of, memories_of, ArePaged}
use Rattle.bsp_model.proofs.RowReplaced.{with_part}
use Rattle.bsp_model.proofs.PagedMemories.{memory_of_process}
use Rattle.bsp_model.proofs.Writes.{not_written}
use Rattle.bsp_model.proofs.WrittenMemories.{cut_fits, memory_replaced}
use Rattle.bsp_model.proofs.memories.Memories.write_paged.Goals as goal

pub row-requires-2 : goal.row-requires-2
row-requires-2 c = (memory_of_process c.self.inside.pages c.self.inside.lasts c.args.self.now c.args.pid c.self.invariant c.self.view_is c.requires).within

pub replace-requires-clause-known : goal.replace-requires-clause-known
replace-requires-clause-known c = (memory_of_process c.self.inside.pages c.self.inside.lasts c.args.self.now c.args.pid c.self.invariant c.self.view_is c.requires).within

pub overflow_mul-full : goal.overflow_mul-full
overflow_mul-full c =
    let m = memory_of_process c.self.inside.pages c.self.inside.lasts c.args.self.now c.args.pid c.self.invariant c.self.view_is c.requires in
    let small = m.has.fits in
    omega (arith, small, ap length c.row.ensures)

pub overflow_add-len : goal.overflow_add-len
overflow_add-len c =
    let m = memory_of_process c.self.inside.pages c.self.inside.lasts c.args.self.now c.args.pid c.self.invariant c.self.view_is c.requires in
    let small = m.has.fits in
    omega (arith, small, ap length c.row.ensures, ap length c.row-2.ensures)

pub returns-in_default-clause-within : goal.returns-in_default-clause-within
returns-in_default-clause-within c =
    let m = memory_of_process c.self.inside.pages c.self.inside.lasts c.args.self.now c.args.pid c.self.invariant c.self.view_is c.requires in
    let past : length (get_or c.args.self.now c.args.pid []) < c.args.start + length c.args.words.now =
    omega (arith, m.long, c.in_default.ensures, ap length c.row.ensures, ap length c.row-2.ensures) in
    grind (arith, nat_tests, past)

pub returns-in_default-clause-written : goal.returns-in_default-clause-written
returns-in_default-clause-written c =
    let m = memory_of_process c.self.inside.pages c.self.inside.lasts c.args.self.now c.args.pid c.self.invariant c.self.view_is c.requires in
    let past : count_of (row_at c.self.inside.pages c.args.pid) (row_at c.self.inside.lasts c.args.pid) < c.args.start + length c.args.words.now =
    omega (arith, c.in_default.ensures, ap length c.row.ensures, ap length c.row-2.ensures) in
    sym (set-get_or c.args.self.now c.args.pid []) ∙ ap (set c.args.self.now c.args.pid) (not_written _ _ _ _ _ _ m.is past)

pub write_row-requires : goal.write_row-requires
write_row-requires c =
    let fits = cut_fits _ (length c.row-2.result.now) _ c.args.start c.args.words.now c.in-Some.cut c.in-Some.ensures refl in
    omega (arith, fits.0, ap length c.row.ensures)

-- the memories once the words are written
written_now : (c : goal.After-replace)
    → ArePaged c.write_row.new.column (set c.self.inside.lasts c.args.pid (with_part (row_at c.self.inside.lasts c.args.pid) c.in-Some.cut.place c.in-Some.cut.behind.now))
    × (memories_of c.write_row.new.column (set c.self.inside.lasts c.args.pid (with_part (row_at c.self.inside.lasts c.args.pid) c.in-Some.cut.place c.in-Some.cut.behind.now))
    ≡ set c.args.self.now c.args.pid (memory_written (get_or c.args.self.now c.args.pid []) c.args.start c.args.words.now))
written_now c =
    let full : length c.row.result.now ≡ length (row_at c.self.inside.pages c.args.pid) = ap length c.row.ensures in
    let len : 64 * length c.row.result.now + length c.row-2.result.now ≡ count_of (row_at c.self.inside.pages c.args.pid) (row_at c.self.inside.lasts c.args.pid) = omega (arith, full, ap length c.row-2.ensures) in
    memory_replaced c.self.inside.pages c.write_row.new.column c.self.inside.lasts c.args.self.now c.args.pid c.args.words.now (64 * length c.row.result.now) _ c.args.start c.in-Some.cut c.self.invariant c.self.view_is c.requires
    (ap (λ (n : ℕ). 64 * n) full) len c.in-Some.ensures c.in_ok-write_row.ensures.others c.in_ok-write_row.ensures.count c.in_ok-write_row.ensures.ok

pub invariant_of-self-2 : goal.invariant_of-self-2
invariant_of-self-2 c = rw c.replace.ensures (written_now c).0

pub returns-clause-within : goal.returns-clause-within
returns-clause-within c =
    let m = memory_of_process c.self.inside.pages c.self.inside.lasts c.args.self.now c.args.pid c.self.invariant c.self.view_is c.requires in
    let inside : c.args.start + length c.args.words.now ≤ length (get_or c.args.self.now c.args.pid []) =
    omega (arith, m.long, c.in-Some.ensures.inside, ap length c.row.ensures, ap length c.row-2.ensures) in
    grind (arith, nat_tests, inside)

pub returns-clause-written : goal.returns-clause-written
returns-clause-written c = rw c.replace.ensures (written_now c).1
