use Rattle.std.proofs.Common.{◌≡◌, ◌==◌, ◌||◌, ◌∙◌, length, not, sym}
use Rattle.std.proofs.lemmas.Bool.{eq-eqb, false≢true}
use Rattle.bsp_table.specs.Same.{same_table}
use Rattle.bsp_causes.proofs.Synchronised.{first_views, no_views_before, no_views_after}
use Rattle.bsp_causes.proofs.costs.have_other_tables.Goals as goal

pub returns : goal.returns
returns c =
    let olds = c.args.olds.now in
    let news = c.args.news.now in
    let some : length olds ≡ 0 → ⊥ = λ e. false≢true (sym c.if-is_empty.false ∙ c.is_empty.ensures ∙ eq-eqb (length olds) 0 e) in
    let other : length news ≡ 0 → ⊥ = λ e. false≢true (sym c.if-is_empty-2.false ∙ c.is_empty-2.ensures ∙ eq-eqb (length news) 0 e) in
    c.sees_other_table.ensures
    ∙ (λ i. not ((c.get-old.ensures i).tag_size == (c.get-new.ensures i).tag_size) || not (same_table (c.get-old.ensures i).table (c.get-new.ensures i).table))
    ∙ first_views olds news some other
