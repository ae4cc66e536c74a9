use Rattle.std.proofs.Common.{◌≡◌, ◌<◌, ◌≤◌, ◌+◌, [], length, get_or, set, nat_le, ap, sym, ◌∙◌, arith}
use Rattle.std.proofs.lemmas.List.{set-get_or}
use Rattle.std.proofs.lemmas.Bool.Decides.{nat_tests}
use Rattle.bsp_model.specs.Columns.{row_at}
use Rattle.bsp_model.specs.Memory.{memory_written}
use Rattle.bsp_model.specs.Inside.Memories.{memories_of, ArePaged}
use Rattle.bsp_model.proofs.RowReplaced.{with_part}
use Rattle.bsp_model.proofs.PagedMemories.{memory_of_process}
use Rattle.bsp_model.proofs.Writes.{not_written}
use Rattle.bsp_model.proofs.WrittenMemories.{last_replaced}
use Rattle.bsp_model.proofs.memories.Memories.write.Goals as goal

pub row-requires-2 : goal.row-requires-2
row-requires-2 c = (memory_of_process c.self.inside.pages c.self.inside.lasts c.args.self.now c.args.pid c.self.invariant c.self.view_is c.requires).within

pub replace-requires-clause-known : goal.replace-requires-clause-known
replace-requires-clause-known c = (memory_of_process c.self.inside.pages c.self.inside.lasts c.args.self.now c.args.pid c.self.invariant c.self.view_is c.requires).within

-- where a process has no full page, its last words are its memory

none_full : (c : goal.Then-not-is_within) → length (row_at c.self.inside.pages c.args.pid) ≡ 0
none_full c = let same = ap length c.row.ensures in grind (arith, nat_tests, same, c.is_empty.ensures, c.if-not-is_empty.false)

as_long : (c : goal.Then-not-is_within) → length c.row-2.result.now ≡ length (get_or c.args.self.now c.args.pid [])
as_long c =
    let m = memory_of_process c.self.inside.pages c.self.inside.lasts c.args.self.now c.args.pid c.self.invariant c.self.view_is c.requires in
    omega (arith, m.long, none_full c, ap length c.row-2.ensures)

pub returns-then-not-is_within-clause-within : goal.returns-then-not-is_within-clause-within
returns-then-not-is_within-clause-within c = sym c.if-not-is_within.true ∙ c.is_within.ensures ∙ ap (nat_le (c.args.start + length c.args.words.now)) (as_long c)

pub returns-then-not-is_within-clause-written : goal.returns-then-not-is_within-clause-written
returns-then-not-is_within-clause-written c =
    let m = memory_of_process c.self.inside.pages c.self.inside.lasts c.args.self.now c.args.pid c.self.invariant c.self.view_is c.requires in
    let over : length c.row-2.result.now < c.args.start + length c.args.words.now = grind (arith, nat_tests, c.is_within.ensures, c.if-not-is_within.true) in
    sym (set-get_or c.args.self.now c.args.pid []) ∙ ap (set c.args.self.now c.args.pid) (not_written _ _ _ _ _ _ m.is (omega (arith, over, as_long c, m.long)))

-- no page is full, and the words are within the last words
fits : (c : goal.After-replace) → (length (row_at c.self.inside.pages c.args.pid) ≡ 0) × (c.args.start + length c.args.words.now ≤ length (row_at c.self.inside.lasts c.args.pid))
fits c =
    let same = ap length c.row.ensures in
    let last = ap length c.row-2.ensures in (
      grind (arith, nat_tests, same, c.is_empty.ensures, c.if-not-is_empty.false),
      grind (arith, nat_tests, last, c.is_within.ensures, c.if-not-is_within.false),
    )

-- the memories once the words are written
written_now : (c : goal.After-replace)
    → ArePaged c.self.inside.pages (set c.self.inside.lasts c.args.pid (with_part (row_at c.self.inside.lasts c.args.pid) c.args.start c.args.words.now))
    × (memories_of c.self.inside.pages (set c.self.inside.lasts c.args.pid (with_part (row_at c.self.inside.lasts c.args.pid) c.args.start c.args.words.now))
    ≡ set c.args.self.now c.args.pid (memory_written (get_or c.args.self.now c.args.pid []) c.args.start c.args.words.now))
written_now c =
    last_replaced c.self.inside.pages c.self.inside.lasts c.args.self.now c.args.pid c.args.words.now c.args.start c.self.invariant c.self.view_is c.requires (fits c).0 (fits c).1

pub invariant_of-self : goal.invariant_of-self
invariant_of-self c = rw c.replace.ensures (written_now c).0

pub returns-clause-within : goal.returns-clause-within
returns-clause-within c =
    let m = memory_of_process c.self.inside.pages c.self.inside.lasts c.args.self.now c.args.pid c.self.invariant c.self.view_is c.requires in
    let inside : c.args.start + length c.args.words.now ≤ length (get_or c.args.self.now c.args.pid []) = omega (arith, m.long, fits c) in
    grind (arith, nat_tests, inside)

pub returns-clause-written : goal.returns-clause-written
returns-clause-written c = rw c.replace.ensures (written_now c).1
