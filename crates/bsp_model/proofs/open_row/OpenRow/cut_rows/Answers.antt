use Rattle.std.proofs.Common.{◌≡◌, ℕ, [], List, take, min, ap, ◌∙◌}
use Rattle.bsp_model.specs.Opened.{Opened}
use Rattle.bsp_model.proofs.RowsBetween.{start_at}
use Rattle.bsp_model.proofs.OpenRows.{cut_open}
use Rattle.bsp_model.proofs.open_row.OpenRow.cut_rows.Goals as goal

pub invariant_of-self : goal.invariant_of-self
invariant_of-self g c =
    let r = c.self.inside in
    let n = c.min-place.result in
    let start : c.start_of-start.result ≡ start_at 0 r.ends.items n = c.start_of-start.ensures ∙ ap (λ (es : List ℕ). start_at 0 es n) c.as_slice.ensures.value in
    rw (c.truncate.ensures.items, c.truncate-2.ensures.items, start)
    (cut_open r.items.items r.ends.items r.start c.args.place n c.self.invariant (c.min-place.ensures ∙ ap (min c.args.place) (c.len.ensures ∙ r.ends.ok.0))).0

pub returns : goal.returns
returns g c =
    let r = c.self.inside in
    let n = c.min-place.result in
    let start : c.start_of-start.result ≡ start_at 0 r.ends.items n = c.start_of-start.ensures ∙ ap (λ (es : List ℕ). start_at 0 es n) c.as_slice.ensures.value in
    let cut = cut_open r.items.items r.ends.items r.start c.args.place n c.self.invariant (c.min-place.ensures ∙ ap (min c.args.place) (c.len.ensures ∙ r.ends.ok.0)) in
    rw (c.truncate.ensures.items, c.truncate-2.ensures.items, start)
    (cut.1 ∙ ap (λ (o : Opened _). record { rows = take c.args.place o.rows; last = [] }) c.self.view_is)
