use Rattle.std.proofs.Common.{◌≡◌, ℕ, length, sym, ap, ◌∙◌}
use Rattle.std.specs.Prelude.{nat_eq}
use Rattle.bsp_model.proofs.RowsOf.{length-rows_of}
use Rattle.bsp_model.proofs.rows.Rows.is_empty.Goals as goal

pub returns : goal.returns
returns g c =
    let ends = c.self.inside.ends in
    let count : length ends.items ≡ length c.args.self.now = sym (length-rows_of 0 c.self.inside.items.items ends.items) ∙ ap length c.self.view_is in
    c.is_empty.ensures ∙ ap (λ (n : ℕ). nat_eq n 0) (ends.ok.0 ∙ count)
