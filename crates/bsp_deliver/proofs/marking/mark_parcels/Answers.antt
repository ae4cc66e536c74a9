use Rattle.std.proofs.Common.{◌≡◌, ◌==◌, ◌∙◌, ℕ, Bool, List, ap, filter, subst, sym}
use Rattle.bsp_model.specs.declared.request.Put.{Put}
use Rattle.bsp_model.specs.declared.request.Send.{Send}
use Rattle.bsp_step.specs.OutcomeParts.{OutcomeParts}
use Rattle.bsp_deliver.specs.Inside.Comparison.{HasSameParcel}
use Rattle.bsp_deliver.specs.Inside.Marks.{AreMarkedUnless}
use Rattle.bsp_deliver.proofs.Unmarked.{marked_as, marked_twice}
use Rattle.bsp_deliver.proofs.marking.mark_parcels.Goals as goal

-- what is known of equal lists
differ_alike : {R : Type 0} (to : R → ℕ) (before after : List Bool) (old new old' new' : List R) → old ≡ old' → new ≡ new' → AreMarkedUnless (λ d. filter (λ r. to r == d) old ≡ filter (λ r. to r == d) new) before after
    → AreMarkedUnless (λ d. filter (λ r. to r == d) old' ≡ filter (λ r. to r == d) new') before after
differ_alike to before after old new old' new' is_old is_new marked =
    subst (λ xs. AreMarkedUnless (λ d. filter (λ r. to r == d) xs ≡ filter (λ r. to r == d) new') before after) is_old
    (subst (λ ys. AreMarkedUnless (λ d. filter (λ r. to r == d) old ≡ filter (λ r. to r == d) ys) before after) is_new marked)

pub returns : goal.returns
returns c =
    let o : OutcomeParts = c.args.old.now in
    let u : OutcomeParts = c.args.new.now in
    marked_twice (λ d. filter (λ (p : Put). p.target == d) o.puts ≡ filter (λ (p : Put). p.target == d) u.puts)
    (λ d. filter (λ (m : Send). m.target == d) o.sends ≡ filter (λ (m : Send). m.target == d) u.sends)
    (λ d. HasSameParcel d o u) c.args.marks.now c.mark_changes.new.marks c.mark_changes-2.new.marks
    (differ_alike (λ (p : Put). p.target) c.args.marks.now c.mark_changes.new.marks c.old.inside.puts c.new.inside.puts o.puts u.puts
    (ap (λ (o : OutcomeParts). o.puts) c.old.view_is) (ap (λ (o : OutcomeParts). o.puts) c.new.view_is) c.mark_changes.ensures)
    (differ_alike (λ (m : Send). m.target) c.mark_changes.new.marks c.mark_changes-2.new.marks c.old.inside.sends c.new.inside.sends o.sends u.sends
    (ap (λ (o : OutcomeParts). o.sends) c.old.view_is) (ap (λ (o : OutcomeParts). o.sends) c.new.view_is) c.mark_changes-2.ensures)
    (λ d f. (λ same. (same.puts, same.sends), λ same. record { puts = same.0; sends = same.1 }))

pub returns-then-sends_none : goal.returns-then-sends_none
returns-then-sends_none c =
    let o : OutcomeParts = c.args.old.now in
    let u : OutcomeParts = c.args.new.now in
    let none = c.requires.none c.if-sends_none.true in
    let sends : o.sends ≡ u.sends = none.0 ∙ sym none.1 in
    marked_as (λ d. filter (λ (p : Put). p.target == d) o.puts ≡ filter (λ (p : Put). p.target == d) u.puts)
    (λ d. HasSameParcel d o u) c.args.marks.now c.mark_changes.new.marks
    (differ_alike (λ (p : Put). p.target) c.args.marks.now c.mark_changes.new.marks c.old.inside.puts c.new.inside.puts o.puts u.puts
    (ap (λ (o : OutcomeParts). o.puts) c.old.view_is) (ap (λ (o : OutcomeParts). o.puts) c.new.view_is) c.mark_changes.ensures)
    (λ d f. (λ same. same.puts, λ puts. record { puts = puts; sends = ap (λ (ms : List Send). filter (λ (m : Send). m.target == d) ms) sends }))
