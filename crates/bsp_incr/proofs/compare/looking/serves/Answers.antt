use Rattle.std.proofs.Common.{◌≡◌, ◌∙◌, ◌&&◌, Bool, true, false, ap, get_or, length, refl, subst, sym}
use Rattle.std.proofs.lemmas.Bool.{and_right}
use Rattle.std.specs.Bool.{Decides}
use Rattle.std.proofs.lemmas.Bool.Decides.{same_from_decides}
use Rattle.bsp_step.specs.ViewParts.{ViewParts}
use Rattle.bsp_run.specs.Condition.{no_view}
use Rattle.bsp_step.specs.Footprint.{AreAlikeButForWords, same_where_looked_at}
use Rattle.bsp_incr.specs.Inside.Reuse.{same_but_for_words}
use Rattle.bsp_incr.proofs.Serving.{Decides-but_for_words}
use Rattle.bsp_incr.proofs.compare.looking.serves.Goals as goal

and_true : (a b : Bool) → b ≡ true → (a && b) ≡ a
and_true true b e = e
and_true false b e = refl

false_if : {P : Type 0} → (b : Bool) → Decides b P → (P → ⊥) → b ≡ false
false_if true decides none = absurd (none (decides.0 refl))
false_if false decides none = refl

pub returns-then-len : goal.returns-then-len
returns-then-len g c =
    let v = c.args.old.now in
    let w = get_or c.args.views.now c.args.p no_view in
    let old = c.len.ensures ∙ ap (λ (x : ViewParts). length x.memory) c.old.view_is in
    let new = c.len-2.ensures ∙ ap length c.memory-memory.ensures in
    ap (λ b. b && same_where_looked_at (g.P.Program.looks c.args.program.now v) v.memory w.memory)
    (sym (false_if (same_but_for_words v w) (Decides-but_for_words v w) (λ (alike : AreAlikeButForWords v w). c.if-len.true (old ∙ alike.same_length ∙ sym new))))

pub returns-then-not-sees_same : goal.returns-then-not-sees_same
returns-then-not-sees_same g c =
    let v = c.args.old.now in
    let w = get_or c.args.views.now c.args.p no_view in
    let looks = g.P.Program.looks c.args.program.now v in
    let differs = sym (c.sees_same.ensures ∙ ap (same_where_looked_at looks v.memory) c.memory-memory.ensures) ∙ c.if-not-sees_same.true in
    sym (and_right (same_but_for_words v w) (same_where_looked_at looks v.memory w.memory) differs)

pub returns : goal.returns
returns g c =
    let v = c.args.old.now in
    let w = get_or c.args.views.now c.args.p no_view in
    let looks = g.P.Program.looks c.args.program.now v in
    let alike = sym (c.sees_same.ensures ∙ ap (same_where_looked_at looks v.memory) c.memory-memory.ensures) ∙ c.if-not-sees_same.false in
    subst (λ (x : ViewParts). Decides c.is_alike_but_for_words.result (AreAlikeButForWords v x) → c.is_alike_but_for_words.result ≡ (same_but_for_words v w && same_where_looked_at looks v.memory w.memory)) (sym c.get.ensures)
    (λ decides. same_from_decides c.is_alike_but_for_words.result (same_but_for_words v w) decides (Decides-but_for_words v w) ∙ sym (and_true (same_but_for_words v w) (same_where_looked_at looks v.memory w.memory) alike))
    c.is_alike_but_for_words.ensures
