-- An update, place by place.
use Rattle.std.proofs.Common.{◌≡◌, ◌<◌, ◌≤◌, ◌↔◌, ◌+◌, ℕ, Bool, true, false, List, [], ◌∷◌, Option, length, get_or, not, slice_get, arith, refl, sym, ap, ◌∙◌, subst, inl, inr}
use Rattle.std.specs.Prelude.{Contains}
use Rattle.std.specs.Bool.{Decides}
use Rattle.std.proofs.lemmas.Bool.{cases_lt, false≢true}
use Rattle.std.proofs.lemmas.Option.{slice_get-get_or, slice_get_past}
use Rattle.bsp_step.specs.ViewParts.{ViewParts}
use Rattle.bsp_step.specs.OutcomeParts.{OutcomeParts}
use Rattle.bsp_step.specs.Footprint.{AreAlike}
use Rattle.bsp_deliver.specs.Delivery.{delivery_parts}
use Rattle.bsp_run.specs.declared.superstep.Superstep.{Superstep}
use Rattle.bsp_run.specs.Run.{Run}
use Rattle.bsp_run.specs.Supersteps.{supersteps_of, superstep_at}
use Rattle.bsp_run.specs.Condition.{no_view}
use Rattle.bsp_run.proofs.Laws.{superstep_at-past_end}
use Rattle.bsp_incr.specs.declared.reply.Place.{Place}
use Rattle.bsp_incr.specs.declared.reply.Update.{Update}
use Rattle.bsp_incr.specs.Inside.Reuse.{serves, needs_turn}
use Rattle.bsp_incr.specs.Inside.Changes.{gathered, turns_in, turn_test, differ, deliveries_in, delivery_test, is_touched, touched, update_of}
use Rattle.bsp_incr.proofs.Propagation.{Decides-untouched}
use Rattle.bsp_incr.proofs.Serving.{Decides-serves}
use Rattle.bsp_incr.specs.Exact.{supersteps_before, delivered_before, view_there, HasTurn, IsServed, IsKept, comes_before, AreInOrder, IsExact}
use Rattle.bsp_incr.proofs.Updating.{same_update}
use Rattle.bsp_incr.proofs.PlacesGathered.{none_in_nil, in_cons, cons_here, cons_later, in_gathered, of_gathered, gathered_in_order}

-- what the definitions of the update's lists gather

differ_is : (looks : ViewParts → ℕ → Bool) (olds news : List Superstep) → differ looks olds news ≡ gathered turns_in (turn_test looks olds) 0 news
unfolding differ
differ_is looks olds news = refl

touched_is : (olds news : List Superstep) → touched olds news ≡ gathered deliveries_in (delivery_test olds) 0 news
unfolding touched
touched_is olds news = refl

-- a superstep with something in it is there
inside : (count : Superstep → ℕ) (ss : List Superstep) (k p : ℕ) → ((s : ℕ) → length ss ≤ s → count (superstep_at ss s) ≡ 0) → p < count (superstep_at ss k) → k < length ss
inside count ss k p none l =
    elim (cases_lt k (length ss)) [ inl w ↦ w | inr w ↦ absurd (omega (arith, l, none k w)) ]

-- the places of a list that gathers are those that pass
abbrev Gathers : (Superstep → ℕ) → (ℕ → Superstep → ℕ → Bool) → List Superstep → List Place → Type 0
Gathers count test ss places =
    (q : Place) → Contains places q ↔ ((q.pid < count (superstep_at ss q.step)) × (test q.step (superstep_at ss q.step) q.pid ≡ true))

gathers : (count : Superstep → ℕ) (test : ℕ → Superstep → ℕ → Bool) (ss : List Superstep) → ((s : ℕ) → length ss ≤ s → count (superstep_at ss s) ≡ 0) → Gathers count test ss (gathered count test 0 ss)
gathers count test ss none = λ q. (
  λ h.
      let g = in_gathered count test 0 ss q h in
      let at : g.k ≡ q.step = omega (arith, g.at) in
      (subst (λ k. q.pid < count (superstep_at ss k)) at g.below, ap (λ k. test q.step (superstep_at ss k) q.pid) (sym at) ∙ g.passes),
  λ h.
      let at : 0 + q.step ≡ q.step = omega arith in
      subst (λ k. Contains (gathered count test 0 ss) (record { step = k; pid = q.pid })) at
      (of_gathered count test 0 q.step ss q.pid (inside count ss q.step q.pid none h.0) h.0 (ap (λ k. test k (superstep_at ss q.step) q.pid) at ∙ h.1)),
)

no_views : (ss : List Superstep) (s : ℕ) → length ss ≤ s → turns_in (superstep_at ss s) ≡ 0
no_views ss s l = ap turns_in (superstep_at-past_end ss s l)

no_outcomes : (ss : List Superstep) (s : ℕ) → length ss ≤ s → deliveries_in (superstep_at ss s) ≡ 0
no_outcomes ss s l = ap deliveries_in (superstep_at-past_end ss s l)

-- the tests

twice : (b : Bool) → not (not b) ≡ true → b ≡ true
twice true h = refl
twice false h = h

again : (b : Bool) → b ≡ true → not (not b) ≡ true
again true h = refl
again false h = h

yes_or_no : (b : Bool) → (b ≡ true → ⊥) → not b ≡ true
yes_or_no true h = absurd (h refl)
yes_or_no false h = refl

served_or_not : (looks : ViewParts → ℕ → Bool) (vs : List ViewParts) (p : ℕ) (w : ViewParts) → Decides (not (needs_turn looks (slice_get vs p) w)) ((p < length vs) × AreAlike (looks (get_or vs p no_view)) (get_or vs p no_view) w)
served_or_not looks vs p w =
    elim (cases_lt p (length vs)) [
      | inl l ↦
          let v = get_or vs p no_view in
          let is : needs_turn looks (slice_get vs p) w ≡ not (serves looks v w) = ap (λ o. needs_turn looks o w) (slice_get-get_or vs p no_view l) in (
            λ t. (l, (Decides-serves looks v w).0 (twice (serves looks v w) (ap not (sym is) ∙ t))),
            λ h. ap not is ∙ again (serves looks v w) ((Decides-serves looks v w).1 h.1),
          )
      | inr m ↦
          let is : needs_turn looks (slice_get vs p) w ≡ true = ap (λ o. needs_turn looks o w) (slice_get_past vs p m) in
          (λ t. absurd (false≢true (sym (ap not is) ∙ t)), λ h. absurd (omega (arith, h.0, m)))
    ]

turn_passes : (looks : ViewParts → ℕ → Bool) (olds news : List Superstep) (q : Place) → Decides (not (turn_test looks olds q.step (superstep_at news q.step) q.pid)) (IsServed looks olds news q)
turn_passes looks olds news q =
    let d = served_or_not looks (superstep_at olds q.step).views q.pid (view_there news q) in
    (λ t. let h = d.0 t in record { there = h.0; alike = h.1 }, λ h. d.1 (h.there, h.alike))

kept_or_not : (os us : List OutcomeParts) (p : ℕ) → Decides (not (is_touched os us p)) ((p < length os) × (delivery_parts os p ≡ delivery_parts us p))
kept_or_not os us p = let d = Decides-untouched os us p in (λ t. d.0 (twice _ t), λ h. again _ (d.1 h))

delivery_passes : (olds news : List Superstep) (q : Place) → Decides (not (delivery_test olds q.step (superstep_at news q.step) q.pid)) (IsKept olds news q)
delivery_passes olds news q =
    let d = kept_or_not (superstep_at olds q.step).outcomes (superstep_at news q.step).outcomes q.pid in
    (λ t. let h = d.0 t in record { there = h.0; same = h.1 }, λ h. d.1 (h.there, h.same))

-- a test that holds exactly where something does not
opposite : (b : Bool) (P : Type 0) → Decides (not b) P → (b ≡ true) ↔ (P → ⊥)
opposite true P d = (λ _ h. false≢true (d.1 h), λ _. refl)
opposite false P d = (λ t h. false≢true t, λ no. absurd (no (d.0 refl)))

exactly : (count : Superstep → ℕ) (test : ℕ → Superstep → ℕ → Bool) (ss : List Superstep) (places : List Place) (P : Place → Type 0) → Gathers count test ss places → ((q : Place) → Decides (not (test q.step (superstep_at ss q.step) q.pid)) (P q))
    → (q : Place) → Contains places q ↔ ((q.pid < count (superstep_at ss q.step)) × (P q → ⊥))
exactly count test ss places P g d q =
    let t = test q.step (superstep_at ss q.step) q.pid in
    let both = opposite t (P q) (d q) in
    (λ h. let x = (g q).0 h in (x.0, both.0 x.1), λ h. (g q).1 (h.0, both.1 h.1))

pub update_is_exact : (looks : ViewParts → ℕ → Bool) (old : Option Run) (new : Run) (update : Update) → update ≡ update_of looks old new → IsExact looks old new update
update_is_exact looks old new update h =
    let executed_is : update.executed ≡ differ looks (supersteps_before old) (supersteps_of new) = ap (λ (u : Update). u.executed) h in
    let redelivered_is : update.redelivered ≡ touched (delivered_before old) new.past = ap (λ (u : Update). u.redelivered) h in
    let olds = supersteps_before old in
    let news = supersteps_of new in
    let turns : Gathers turns_in (turn_test looks olds) news update.executed =
    subst (Gathers turns_in (turn_test looks olds) news) (sym (executed_is ∙ differ_is looks olds news)) (gathers turns_in (turn_test looks olds) news (no_views news)) in
    let deliveries : Gathers deliveries_in (delivery_test (delivered_before old)) new.past update.redelivered =
    subst (Gathers deliveries_in (delivery_test (delivered_before old)) new.past) (sym (redelivered_is ∙ touched_is (delivered_before old) new.past))
    (gathers deliveries_in (delivery_test (delivered_before old)) new.past (no_outcomes new.past)) in
    let executed = exactly turns_in (turn_test looks olds) news update.executed (IsServed looks olds news) turns (turn_passes looks olds news) in
    let redelivered = exactly deliveries_in (delivery_test (delivered_before old)) new.past update.redelivered (IsKept (delivered_before old) new.past) deliveries (delivery_passes (delivered_before old) new.past) in
    record {
      executed = executed;
      redelivered = redelivered;
      executed_in_order = subst AreInOrder (sym (executed_is ∙ differ_is looks olds news)) (gathered_in_order turns_in (turn_test looks olds) 0 news);
      redelivered_in_order = subst AreInOrder (sym (redelivered_is ∙ touched_is (delivered_before old) new.past)) (gathered_in_order deliveries_in (delivery_test (delivered_before old)) 0 new.past);
    }

-- where no turn was taken again, the old one serves
pub served_at : (looks : ViewParts → ℕ → Bool) (old : Option Run) (new : Run) (update : Update) (q : Place) → update ≡ update_of looks old new → HasTurn (supersteps_of new) q → (Contains update.executed q → ⊥) → IsServed looks (supersteps_before old) (supersteps_of new) q
served_at looks old new update q is there free =
    let olds = supersteps_before old in
    let news = supersteps_of new in
    let test = turn_test looks olds q.step (superstep_at news q.step) q.pid in
    let exact = update_is_exact looks old new update is in
    (turn_passes looks olds news q).0 (yes_or_no test (λ t. free ((exact.executed q).1 (there, (opposite test (IsServed looks olds news q) (turn_passes looks olds news q)).0 t))))

-- the same, of whatever update that is
pub exact_of : {looks : ViewParts → ℕ → Bool} {old : Option Run} {new : Run} {update : Update} → update ≡ update_of looks old new → IsExact looks old new update
exact_of {looks} {old} {new} {update} h = update_is_exact looks old new update h

-- Two lists in order with the same places are equal.

never_both : (p q : Place) → comes_before p q → comes_before q p → ⊥
never_both p q h k =
    elim h [
      | inl a ↦ elim k [ inl b ↦ absurd (omega (arith, a, b)) | inr b ↦ absurd (omega (arith, a, b.0)) ]
      | inr a ↦ elim k [ inl b ↦ absurd (omega (arith, a.0, b)) | inr b ↦ absurd (omega (arith, a.1, b.1)) ]
    ]

abbrev HaveSamePlaces : List Place → List Place → Type 0
HaveSamePlaces xs ys = (q : Place) → Contains xs q ↔ Contains ys q

first_is : (x : Place) (xs : List Place) (y : Place) (ys : List Place) → AreInOrder (x ∷ xs) → AreInOrder (y ∷ ys) → HaveSamePlaces (x ∷ xs) (y ∷ ys) → x ≡ y
first_is x xs y ys h k same =
    elim (in_cons y ys x ((same x).0 (cons_here x xs))) [
      | inl e ↦ sym e
      | inr there ↦ elim (in_cons x xs y ((same y).1 (cons_here y ys))) [ inl e ↦ e | inr here ↦ absurd (never_both y x (k.0 x there) (h.0 y here)) ]
    ]

rest_has : (x : Place) (xs : List Place) (y : Place) (ys : List Place) (q : Place) → AreInOrder (x ∷ xs) → x ≡ y → HaveSamePlaces (x ∷ xs) (y ∷ ys) → Contains xs q → Contains ys q
rest_has x xs y ys q h e same here =
    elim (in_cons y ys q ((same q).0 (cons_later x xs q here))) [
      | inl f ↦ let before : comes_before x q = h.0 q here in absurd (never_both q q (subst (λ p. comes_before p q) (e ∙ f) before) (subst (λ p. comes_before p q) (e ∙ f) before))
      | inr there ↦ there
    ]

other_way : (xs ys : List Place) → HaveSamePlaces xs ys → HaveSamePlaces ys xs
other_way xs ys same = λ q. ((same q).1, (same q).0)

pub same_places : (xs ys : List Place) → AreInOrder xs → AreInOrder ys → HaveSamePlaces xs ys → xs ≡ ys
same_places [] [] h k same = refl
same_places [] (y ∷ ys) h k same = absurd (none_in_nil y ((same y).1 (cons_here y ys)))
same_places (x ∷ xs) [] h k same = absurd (none_in_nil x ((same x).0 (cons_here x xs)))
same_places (x ∷ xs) (y ∷ ys) h k same =
    let first : x ≡ y = first_is x xs y ys h k same in
    let rest : xs ≡ ys =
    same_places xs ys h.1 k.1 (λ q. (rest_has x xs y ys q h first same, rest_has y ys x xs q k (sym first) (other_way (x ∷ xs) (y ∷ ys) same))) in
    λ i. first i ∷ rest i

-- An exact update is the one that is computed.
pub update_of_exact : (looks : ViewParts → ℕ → Bool) (old : Option Run) (new : Run) (update : Update) → IsExact looks old new update → update ≡ update_of looks old new
update_of_exact looks old new update h =
    let computed = update_is_exact looks old new (update_of looks old new) refl in
    same_update update (update_of looks old new)
    (same_places update.executed (update_of looks old new).executed h.executed_in_order computed.executed_in_order
    (λ q. (λ c. (computed.executed q).1 ((h.executed q).0 c), λ c. (h.executed q).1 ((computed.executed q).0 c))))
    (same_places update.redelivered (update_of looks old new).redelivered h.redelivered_in_order computed.redelivered_in_order
    (λ q. (λ c. (computed.redelivered q).1 ((h.redelivered q).0 c), λ c. (h.redelivered q).1 ((computed.redelivered q).0 c))))
