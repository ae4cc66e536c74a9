use Rattle.std.proofs.Common.{◌≡◌, ℕ, ◌<◌, Bool, true, List, set, length, sym, ◌∙◌, arith, subst}
use Rattle.std.proofs.lemmas.Bool.{false≢true}
use Rattle.bsp_step.specs.OutcomeParts.{OutcomeParts, outcome_of}
use Rattle.bsp_deliver.specs.Inside.Comparison.{BringsSame, HasSameParcel, KeepsOwn}
use Rattle.bsp_deliver.specs.Inside.Marks.{AreMarkedUnless, AreToKnown}
use Rattle.bsp_deliver.proofs.Unmarked.{one_marked, mark_stays}
use Rattle.bsp_deliver.proofs.SameParts.{parcel_and_own, to_known}
use Rattle.bsp_deliver.proofs.touched.mark_changes_of.Goals as goal

-- what is known of equal outcomes
of_equal : (X : OutcomeParts → OutcomeParts → Type 0) (o o' u u' : OutcomeParts) → o ≡ o' → u ≡ u' → X o u → X o' u'
of_equal X o o' u u' is_o is_u x = subst (λ o. X o u') is_o (subst (λ u. X o u) is_u x)

pub mark_parcels-requires-clause-known : goal.mark_parcels-requires-clause-known
mark_parcels-requires-clause-known c =
    subst (λ o. AreToKnown (length c.args.marks.now) o) (sym c.get.ensures)
    (to_known c.args.old.now c.args.p (length c.args.marks.now) c.requires.before (omega (arith, c.requires.known, c.requires.count)) (omega (arith, c.requires.as_many, c.requires.count)))

pub returns-then-not-have_same_memory_and_gets : goal.returns-then-not-have_same_memory_and_gets
returns-then-not-have_same_memory_and_gets c =
    let os = c.args.old.now in
    let us = c.args.new.now in
    let p : ℕ = c.args.p in
    let before : List Bool = c.args.marks.now in
    let marks : List Bool = c.mark_parcels.new.marks in
    let within : p < length marks = omega (arith, c.requires.known, c.requires.as_many, c.mark_parcels.ensures.count) in
    let parcel = of_equal (λ o u. AreMarkedUnless (λ d. HasSameParcel d o u) before marks) c.get.result (outcome_of os p) c.get-2.result (outcome_of us p) c.get.ensures c.get-2.ensures c.mark_parcels.ensures in
    let other = one_marked (KeepsOwn os us) marks p within (λ s. false≢true (sym c.if-not-have_same_memory_and_gets.true ∙ c.have_same_memory_and_gets.ensures.1 s)) in
    subst (λ (ms : List Bool). AreMarkedUnless (BringsSame os us p) before ms) (sym c.insert.ensures)
    (parcel_and_own os us p before marks (set marks p true) parcel other)

pub returns-else-not-have_same_memory_and_gets : goal.returns-else-not-have_same_memory_and_gets
returns-else-not-have_same_memory_and_gets c =
    let os = c.args.old.now in
    let us = c.args.new.now in
    let p : ℕ = c.args.p in
    let before : List Bool = c.args.marks.now in
    let marks : List Bool = c.mark_parcels.new.marks in
    let parcel = of_equal (λ o u. AreMarkedUnless (λ d. HasSameParcel d o u) before marks) c.get.result (outcome_of os p) c.get-2.result (outcome_of us p) c.get.ensures c.get-2.ensures c.mark_parcels.ensures in
    let kept = mark_stays (KeepsOwn os us) marks p (λ f. c.have_same_memory_and_gets.ensures.0 c.if-not-have_same_memory_and_gets.false) in
    parcel_and_own os us p before marks marks parcel kept
