use Rattle.std.proofs.Common.{◌≡◌, ◌++◌, length, take, drop, sym, ap, ◌∙◌, arith}
use Rattle.std.proofs.lemmas.List.{length-take-le, take_at}
use Rattle.std.proofs.Math.Seq.{drop-append_seam}
use Rattle.bsp_model.specs.Opened.{Opened}
use Rattle.bsp_model.specs.Inside.OpenRow.{opened_in}
use Rattle.bsp_model.specs.Inside.Rows.{rows_of}
use Rattle.bsp_model.proofs.Cut.{take_last}
use Rattle.bsp_model.proofs.open_row.OpenRow.cut.Goals as goal

pub returns : goal.returns
returns g c =
    let r = c.self.inside in
    let items = r.items in
    let start = r.start in
    let front = take start items.items in
    let rest = take c.args.count (drop start items.items) in
    let long : length front ≡ start = length-take-le start items.items c.self.invariant.inside in
    let cut : c.truncate.new.self.items ≡ front ++ rest =
    c.truncate.ensures.items ∙ take_last items.items start c.args.count c.saturating_add.result 18446744073709551615 c.self.invariant.inside c.saturating_add.ensures (omega (arith, items.ok, items.small)) in
    let before : take start (front ++ rest) ≡ front = take_at front rest start long in
    let behind : drop start (front ++ rest) ≡ rest = ap (λ n. drop n (front ++ rest)) (sym long) ∙ drop-append_seam front rest in
    ap (λ xs. opened_in xs r.ends.items start) cut
    ∙ (λ i. record { rows = rows_of 0 (before i) r.ends.items; last = behind i })
    ∙ ap (λ (o : Opened _). record { rows = o.rows; last = take c.args.count o.last }) c.self.view_is
