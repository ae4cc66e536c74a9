use Rattle.std.proofs.Common.{◌≡◌, ◌≤◌, ◌<◌, ◌-◌, ◌∙◌, ℕ, List, ap, get_or, inl, inr, arith, length}
use Rattle.std.specs.Prelude.{All}
use Rattle.std.proofs.lemmas.Bool.{cases_lt}
use Rattle.std.proofs.lemmas.Grind.{get_or_default_zero}
use Rattle.bsp_model.specs.Replaced.{IsAscending}
use Rattle.bsp_model.proofs.Replaced.{above_first}
use Rattle.bsp_step.proofs.outcomes.putting.first_from.Goals as goal
use Rattle.bsp_step.proofs.outcomes.putting.first_from.Goals.{then-loop-place-test+else-processes-place, else-loop-place-test}

lowest : (ps : List ℕ) (from i first : ℕ) → IsAscending ps → ((k : ℕ) → k < i → get_or ps k 0 < from) → first ≤ get_or ps i 0 → All (λ p. from ≤ p → first ≤ p) ps
lowest ps from i first ascending lower low k d within behind =
    let at = get_or_default_zero ps k d within in
    elim (cases_lt k i) [
      | inl before ↦ absurd (omega (arith, lower k before, at, behind))
      | inr above ↦ elim (cases_lt i k) [
        | inl later ↦ omega (arith, ascending i k later within, low, at)
        | inr here ↦ let same : k ≡ i = omega (arith, above, here) in omega (arith, low, at, ap (λ (n : ℕ). get_or ps n 0) same)
      ]
    ]

below : (ps : List ℕ) (from place k : ℕ) → IsAscending ps → place ≤ length ps → 0 < place → get_or ps (place - 1) 0 < from → k < place → get_or ps k 0 < from
below ps from place k ascending within some last l = elim (cases_lt k (place - 1)) [
  | inl earlier ↦ omega (arith, ascending k (place - 1) earlier (omega (arith, within, some)), last)
  | inr here ↦ let same : k ≡ place - 1 = omega (arith, here, l) in omega (arith, last, ap (λ (n : ℕ). get_or ps n 0) same)
]

pub loop-place-init : goal.loop-place-init
loop-place-init c =
    let ps = c.args.processes.now in
    record {
      within = omega (arith, c.min-place.ensures);
      behind = λ k above l.
          let first : c.in-Some.first.now ≡ get_or ps 0 0 = c.in-Some.ensures.item.3.1 0 in
          omega (arith, above, l, first, above_first ps k c.requires l, c.min-place.ensures, c.saturating_sub.ensures);
    }

pub returns-in-Some-get-clause-first : goal.returns-in-Some-get-clause-first
returns-in-Some-get-clause-first c =
    let ps = c.args.processes.now in
    let place = c.loop-place.place in
    let is : c.in-Some-get.process.now ≡ get_or ps place 0 = c.in-Some-get.ensures.lookup.1 ∙ get_or_default_zero ps place _ (omega (arith, c.in-Some-get.ensures.lookup)) in
    lowest ps c.args.from place c.in-Some-get.process.now c.requires
    (λ k l. elim c.loop-place-test.branch [
      | then-loop-place-test+else-processes-place w ↦ below ps c.args.from place k c.requires c.loop-place.invariant.within (omega (arith, w.loop-place-test.true)) (omega (arith, w.if-processes-place.false)) l
      | else-loop-place-test w ↦ absurd (omega (arith, w.loop-place-test.false, l))
    ]) (omega (arith, is))

pub returns-in-None-clause-first : goal.returns-in-None-clause-first
returns-in-None-clause-first c = λ k d l behind.
    let ps = c.args.processes.now in
    let place = c.loop-place.place in
    let before : k < place = omega (arith, l, c.in-None.ensures.lookup) in
    let lower : get_or ps k 0 < c.args.from = elim c.loop-place-test.branch [
      | then-loop-place-test+else-processes-place w ↦ below ps c.args.from place k c.requires c.loop-place.invariant.within (omega (arith, w.loop-place-test.true)) (omega (arith, w.if-processes-place.false)) before
      | else-loop-place-test w ↦ absurd (omega (arith, w.loop-place-test.false, before))
    ] in
    absurd (omega (arith, lower, get_or_default_zero ps k d l, behind))
