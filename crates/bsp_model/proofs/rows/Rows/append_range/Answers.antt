use Rattle.std.proofs.Common.{◌≡◌, ◌≤◌, ◌+◌, ◌-◌, ◌++◌, List, length, ap, ◌∙◌, arith}
use Rattle.std.specs.Prelude.{slice_range}
use Rattle.std.proofs.lemmas.List.{length-append}
use Rattle.std.proofs.lemmas.List.Edits.{length-between}
use Rattle.bsp_model.proofs.RowsOf.{length-rows_of, end-within}
use Rattle.bsp_model.proofs.RowsBetween.{start_at, start_at-within, start-under, AreEnds-between, AreEnds-more, rows_of-more}
use Rattle.bsp_model.proofs.rows.Rows.append_range.Goals as goal

pub bounds_of-start-requires-clause-rows : goal.bounds_of-start-requires-clause-rows
bounds_of-start-requires-clause-rows g c =
    omega (arith, c.requires.inside, length-rows_of 0 c.more.inside.items.items c.more.inside.ends.items, ap length c.more.view_is)

pub slice_bounds-add_ends-end : goal.slice_bounds-add_ends-end
slice_bounds-add_ends-end g c =
    omega (arith, c.requires.inside, length-rows_of 0 c.more.inside.items.items c.more.inside.ends.items, ap length c.more.view_is)

pub add_ends-requires-clause-behind : goal.add_ends-requires-clause-behind
add_ends-requires-clause-behind g c =
    let ends = c.more.inside.ends.items in
    let within : c.args.to ≤ length ends = omega (arith, c.requires.inside, length-rows_of 0 c.more.inside.items.items ends, ap length c.more.view_is) in
    let between = AreEnds-between ends (length c.more.inside.items.items) c.args.from c.args.to c.more.invariant c.requires.order within in
    rw (c.bounds_of-start.ensures.start, c.as_slice-ends.ensures.value)
    (λ k inside. start-under (start_at 0 ends c.args.from) (slice_range ends c.args.from c.args.to) (start_at 0 ends c.args.to) k between inside)

pub add_ends-requires-clause-fits : goal.add_ends-requires-clause-fits
add_ends-requires-clause-fits g c =
    let before = c.self.inside.items in
    let ends = c.more.inside.ends.items in
    let all = c.extend_from_slice.new.self in
    let within : c.args.to ≤ length ends = omega (arith, c.requires.inside, length-rows_of 0 c.more.inside.items.items ends, ap length c.more.view_is) in
    let between = AreEnds-between ends (length c.more.inside.items.items) c.args.from c.args.to c.more.invariant c.requires.order within in
    let s = c.bounds_of-start.result.0 in
    let e = c.bounds_of-start.result.1 in
    let long : length all.items ≡ length before.items + length (slice_range c.more.inside.items.items s e) =
    ap length {y = before.items ++ slice_range c.more.inside.items.items s e} (c.in_ok-extend_from_slice.ensures.items ∙ ap (λ (xs : List g.row.T.Denot). before.items ++ slice_range xs s e) c.deref.ensures.value) ∙ length-append before.items (slice_range c.more.inside.items.items s e) in
    let part : length (slice_range c.more.inside.items.items s e) ≡ e - s = length-between c.more.inside.items.items s e (omega (arith, c.bounds_of-start.ensures.inside)) in
    rw c.as_slice-ends.ensures.value
    (λ k inside.
    let start : s ≡ start_at 0 ends c.args.from = rw c.as_slice-ends.ensures.value at c.bounds_of-start.ensures.start in
    let end : e ≡ start_at 0 ends c.args.to = rw c.as_slice-ends.ensures.value at c.bounds_of-start.ensures.end in
    let under = end-within (start_at 0 ends c.args.from) (slice_range ends c.args.from c.args.to) (start_at 0 ends c.args.to) k between inside in
    let above = start-under (start_at 0 ends c.args.from) (slice_range ends c.args.from c.args.to) (start_at 0 ends c.args.to) k between inside in
    omega (arith, long, part, start, end, all.ok, all.small, before.ok, c.len-before.ensures, under, above))

pub invariant_of-self-2 : goal.invariant_of-self-2
invariant_of-self-2 g c =
    let items = c.self.inside.items.items in
    let more = c.more.inside.items.items in
    let ends = c.more.inside.ends.items in
    let within : c.args.to ≤ length ends = omega (arith, c.requires.inside, length-rows_of 0 more ends, ap length c.more.view_is) in
    let before : c.len-before.result ≡ length items = c.len-before.ensures ∙ c.self.inside.items.ok.0 in
    let part = slice_range more (start_at 0 ends c.args.from) (start_at 0 ends c.args.to) in
    let long : length part ≡ start_at 0 ends c.args.to - start_at 0 ends c.args.from =
    length-between more (start_at 0 ends c.args.from) (start_at 0 ends c.args.to) (start_at-within ends (length more) c.args.to c.more.invariant within) in
    rw (c.add_ends.ensures, c.in_ok-reserve.ensures.items, before, c.in_ok-extend_from_slice.ensures.items, c.bounds_of-start.ensures.start, c.bounds_of-start.ensures.end, c.as_slice-ends.ensures.value, c.deref.ensures.value, length-append items part, long)
    (AreEnds-more c.self.inside.ends.items ends (length items) (length more) c.args.from c.args.to c.self.invariant c.more.invariant c.requires.order within)

pub returns-clause-ok : goal.returns-clause-ok
returns-clause-ok g c =
    let items = c.self.inside.items.items in
    let more = c.more.inside.items.items in
    let ends = c.more.inside.ends.items in
    let within : c.args.to ≤ length ends = omega (arith, c.requires.inside, length-rows_of 0 more ends, ap length c.more.view_is) in
    let before : c.len-before.result ≡ length items = c.len-before.ensures ∙ c.self.inside.items.ok.0 in
    rw (c.add_ends.ensures, c.in_ok-reserve.ensures.items, before, c.in_ok-extend_from_slice.ensures.items, c.bounds_of-start.ensures.start, c.bounds_of-start.ensures.end, c.as_slice-ends.ensures.value, c.deref.ensures.value, ← c.self.view_is, ← c.more.view_is)
    (rows_of-more items more c.self.inside.ends.items ends c.args.from c.args.to c.self.invariant c.more.invariant c.requires.order within)

pub offset_bounds-ends-from : goal.offset_bounds-ends-from
offset_bounds-ends-from g c =
    omega (arith, c.requires, c.more.inside.ends.small, c.more.inside.ends.ok, length-rows_of 0 c.more.inside.items.items c.more.inside.ends.items, ap length c.more.view_is)
