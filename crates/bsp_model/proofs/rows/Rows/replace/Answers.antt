use Rattle.std.proofs.Common.{◌∷◌, List, ℕ, length, ap, ◌∙◌, arith, get_or}
use Rattle.std.proofs.lemmas.List.{with_items_is}
use Rattle.bsp_model.proofs.RowReplaced.{row_fits, row_replaced}
use Rattle.bsp_model.proofs.rows.Rows.replace.Goals as goal

pub start_of-requires : goal.start_of-requires
start_of-requires g c =
    let fits = row_fits c.self.inside.items.items c.args.self.now c.self.inside.ends.items c.args.number c.args.place _ c.self.invariant c.self.view_is c.requires.known c.requires.inside in
    omega (arith, fits.0)

pub overflow_add-start : goal.overflow_add-start
overflow_add-start g c =
    let fits = row_fits c.self.inside.items.items c.args.self.now c.self.inside.ends.items c.args.number c.args.place _ c.self.invariant c.self.view_is c.requires.known c.requires.inside in
    let start = ap (λ (ends : List ℕ). get_or (0 ∷ ends) c.args.number 0) c.as_slice.ensures.value in
    omega (arith, fits.1, fits.2, c.self.inside.items.ok, start)

pub replace_items-requires : goal.replace_items-requires
replace_items-requires g c =
    let fits = row_fits c.self.inside.items.items c.args.self.now c.self.inside.ends.items c.args.number c.args.place _ c.self.invariant c.self.view_is c.requires.known c.requires.inside in
    let start = ap (λ (ends : List ℕ). get_or (0 ∷ ends) c.args.number 0) c.as_slice.ensures.value in
    omega (arith, fits.1, fits.2, start, ap length c.as_mut_slice.ensures.value)

pub returns : goal.returns
returns g c =
    let items = c.self.inside.items in
    let ends = c.self.inside.ends.items in
    let all = with_items_is items c.replace_items.new.items (c.replace_items.auto.items ∙ c.as_mut_slice.ensures.len) in
    let start = ap (λ (es : List ℕ). get_or (0 ∷ es) c.args.number 0) c.as_slice.ensures.value in
    rw all
    (row_replaced items.items c.replace_items.new.items c.args.items.now c.args.self.now ends c.args.number c.start_of.result c.args.place c.self.invariant c.self.view_is c.requires.known c.requires.inside
    (c.start_of.ensures ∙ start) (rw c.as_mut_slice.ensures.value at c.replace_items.ensures))
