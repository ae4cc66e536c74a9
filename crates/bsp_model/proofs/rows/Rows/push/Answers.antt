use Rattle.std.proofs.Common.{◌≡◌, ◌+◌, length, ap, ◌∙◌}
use Rattle.std.proofs.lemmas.List.{length-append}
use Rattle.bsp_model.proofs.RowsOf.{AreEnds-push, rows_of-push}
use Rattle.bsp_model.proofs.rows.Rows.push.Goals as goal

pub invariant_of-self-2 : goal.invariant_of-self-2
invariant_of-self-2 g c =
    let items = c.self.inside.items.items in
    let row = c.args.row.now in
    let count : c.len.result ≡ length items + length row = c.len.ensures ∙ c.append_items.new.items.ok.0 ∙ ap length c.in_ok-append_items.ensures.ok ∙ length-append items row in
    rw (c.push_reserved.ensures.items, c.in_ok-reserve.ensures.items, count, c.in_ok-append_items.ensures.ok, length-append items row)
    (AreEnds-push c.self.inside.ends.items (length items) (length row) c.self.invariant)

pub returns-clause-ok : goal.returns-clause-ok
returns-clause-ok g c =
    let items = c.self.inside.items.items in
    let row = c.args.row.now in
    let count : c.len.result ≡ length items + length row = c.len.ensures ∙ c.append_items.new.items.ok.0 ∙ ap length c.in_ok-append_items.ensures.ok ∙ length-append items row in
    rw (c.push_reserved.ensures.items, c.in_ok-reserve.ensures.items, count, c.in_ok-append_items.ensures.ok, ← c.self.view_is)
    (rows_of-push items row c.self.inside.ends.items c.self.invariant)
