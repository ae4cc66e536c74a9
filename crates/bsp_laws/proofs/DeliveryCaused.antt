-- A delivery has no cause exactly where a delivery of the previous run depends on the same.
use Rattle.std.proofs.Common.{◌≡◌, ◌<◌, ◌==◌, ◌&&◌, ◌↔◌, ℕ, Bool, true, false, cond, List, [], None, filter, length, get_or, not, arith, refl, sym, ap, ◌∙◌, subst, inl, inr}
use Rattle.std.specs.Cmp.Lexicographic.{pointwise}
use Rattle.std.specs.List.{list_any}
use Rattle.std.proofs.lemmas.Bool.{cases_lt, cases_Bool, false≢true, eq-eqb}
use Rattle.std.proofs.lemmas.List.{get_or-map}
use Rattle.std.proofs.lemmas.List.Folds.{list_any_at, list_any_none}
use Rattle.bsp_model.specs.declared.input.Input.{Input}
use Rattle.bsp_model.specs.Input.{input_fault}
use Rattle.bsp_model.specs.declared.fault.End.{End}
use Rattle.bsp_model.specs.declared.request.Get.{Get}
use Rattle.bsp_step.specs.Act.{Act}
use Rattle.bsp_step.specs.Turn.{turn_of}
use Rattle.bsp_step.specs.ViewParts.{ViewParts}
use Rattle.bsp_step.specs.OutcomeParts.{OutcomeParts, outcome_of}
use Rattle.bsp_deliver.specs.Requests.{words_read}
use Rattle.bsp_deliver.specs.Condition.{AreDeliverable}
use Rattle.bsp_deliver.specs.Inside.Comparison.{KeepsOwn, ReadsSame}
use Rattle.bsp_model.specs.Same.{same_words}
use Rattle.bsp_deliver.proofs.SameDelivery.{Decides-pointwise, Decides-words}
use Rattle.bsp_deliver.proofs.SameParts.{IsSame, same_parts, readable_of}
use Rattle.bsp_run.specs.declared.superstep.Superstep.{Superstep}
use Rattle.bsp_run.specs.Run.{Run}
use Rattle.bsp_run.specs.Law.{IsBspRun}
use Rattle.bsp_run.specs.Supersteps.{superstep_at}
use Rattle.bsp_run.proofs.OneRun.{front}
use Rattle.bsp_run.proofs.ViewsWithin.{deliverable_in_run}
use Rattle.bsp_incr.specs.declared.reply.Place.{Place}
use Rattle.bsp_incr.specs.Exact.{HasDelivery, IsKept}
use Rattle.bsp_model.specs.ProcessSet.{processes_where}
use Rattle.bsp_causes.specs.declared.deliveries.DeliveryCauses.{DeliveryCauses}
use Rattle.bsp_causes.specs.Same.{same_put, same_send}
use Rattle.bsp_causes.specs.DeliveryCauses.{reads_others, owners_read, puts_others, sends_others, has_same_gets, parcel_causes, delivery_causes}
use Rattle.bsp_causes.proofs.Cases.{delivery_there, delivery_not_there}
use Rattle.bsp_causes.proofs.Filtered.{none_passes, fail_where_none}
use Rattle.bsp_causes.proofs.Sameness.{Decides-get, Decides-put, Decides-send}
use Rattle.bsp_causes.proofs.Shapes.{step_there}
use Rattle.bsp_laws.specs.Causes.{no_delivery_causes}
use Rattle.bsp_laws.proofs.Reaching.{map_all}
use Rattle.bsp_laws.proofs.TurnCaused.{yes_is_no}
use Rattle.bsp_model.proofs.Inputs.{not_false}

-- two supersteps that ended by delivery, of as many processes
pub record AreDelivered (os us : List OutcomeParts) : Type 0 where
  pub count : length os ≡ length us
  pub before : AreDeliverable os
  pub after : AreDeliverable us

-- the processes that a list without members leaves out
none_there : (n : ℕ) (test : ℕ → Bool) → processes_where n test ≡ [] → (q : ℕ) → q < n → test q ≡ false
none_there n test h q l = fail_where_none test 0 n h q (omega arith) (omega arith)

all_left_out : (n : ℕ) (test : ℕ → Bool) → ((q : ℕ) → q < n → test q ≡ false) → processes_where n test ≡ []
all_left_out n test h = none_passes test 0 n (λ q low high. h q (omega arith))

-- a get of an owner is no other exactly where it reads the same

reads_same : (os us : List OutcomeParts) (g : Get) → reads_others os us g.owner g ≡ false → words_read os g ≡ words_read us g
reads_same os us g h =
    let here : (g.owner == g.owner) ≡ true = eq-eqb g.owner g.owner refl in
    (Decides-words (words_read os g) (words_read us g)).0 (not_false _ (ap (λ b. b && not (same_words (words_read os g) (words_read us g))) (sym here) ∙ h))

never : (b : Bool) → (b && false) ≡ false
never true = refl
never false = refl

reads_no_others : (os us : List OutcomeParts) (owner : ℕ) (g : Get) → words_read os g ≡ words_read us g → reads_others os us owner g ≡ false
reads_no_others os us owner g e =
    ap (λ b. (g.owner == owner) && not b) ((Decides-words (words_read os g) (words_read us g)).1 e) ∙ never (g.owner == owner)

not_any : {X : Type 0} (test : X → Bool) (xs : List X) (k : ℕ) (x : X) → list_any test xs ≡ false → k < length xs → test (get_or xs k x) ≡ false
not_any test xs k x h l =
    elim (cases_Bool (test (get_or xs k x))) [ inl t ↦ absurd (false≢true (sym h ∙ list_any_at test xs k x l t)) | inr f ↦ f ]

none_read : (os us : List OutcomeParts) (d : ℕ) → AreDeliverable us → d < length us → owners_read os us (outcome_of us d).gets ≡ [] → ReadsSame os us d
none_read os us d after l h =
    let gets = (outcome_of us d).gets in
    map_all (words_read os) (words_read us) gets
    (λ k g m.
    let x = get_or gets k g in
    let known : x.owner < length us = (readable_of us d after l k g m).known in
    reads_same os us x (not_any (reads_others os us x.owner) gets k g (none_there (length us) (λ q. list_any (reads_others os us q) gets) h x.owner known) m))

read_none : (os us : List OutcomeParts) (d : ℕ) → ReadsSame os us d → owners_read os us (outcome_of us d).gets ≡ []
read_none os us d h =
    let gets = (outcome_of us d).gets in
    all_left_out (length us) (λ q. list_any (reads_others os us q) gets)
    (λ q l.
    list_any_none (reads_others os us q) gets
    (λ k g m.
    let x = get_or gets k g in
    let same : words_read os x ≡ words_read us x = sym (get_or-map (words_read os) gets k g [] m) ∙ ap (λ (ws : List (List ℕ)). get_or ws k []) h ∙ get_or-map (words_read us) gets k g [] m in
    reads_no_others os us q x same))

-- nothing else is put or sent

same_puts : (os us : List OutcomeParts) (d q : ℕ) → puts_others os us d q ≡ false → filter (λ p. p.target == d) (outcome_of os q).puts ≡ filter (λ p. p.target == d) (outcome_of us q).puts
same_puts os us d q h =
    let xs = filter (λ p. p.target == d) (outcome_of os q).puts in
    let ys = filter (λ p. p.target == d) (outcome_of us q).puts in
    (Decides-pointwise Decides-put xs ys).0 (not_false (pointwise same_put xs ys) h)

puts_same : (os us : List OutcomeParts) (d q : ℕ) → filter (λ p. p.target == d) (outcome_of os q).puts ≡ filter (λ p. p.target == d) (outcome_of us q).puts → puts_others os us d q ≡ false
puts_same os us d q e =
    let xs = filter (λ p. p.target == d) (outcome_of os q).puts in
    let ys = filter (λ p. p.target == d) (outcome_of us q).puts in
    yes_is_no (pointwise same_put xs ys) ((Decides-pointwise Decides-put xs ys).1 e)

same_sends : (os us : List OutcomeParts) (d q : ℕ) → sends_others os us d q ≡ false → filter (λ m. m.target == d) (outcome_of os q).sends ≡ filter (λ m. m.target == d) (outcome_of us q).sends
same_sends os us d q h =
    let xs = filter (λ m. m.target == d) (outcome_of os q).sends in
    let ys = filter (λ m. m.target == d) (outcome_of us q).sends in
    (Decides-pointwise Decides-send xs ys).0 (not_false (pointwise same_send xs ys) h)

sends_same : (os us : List OutcomeParts) (d q : ℕ) → filter (λ m. m.target == d) (outcome_of os q).sends ≡ filter (λ m. m.target == d) (outcome_of us q).sends → sends_others os us d q ≡ false
sends_same os us d q e =
    let xs = filter (λ m. m.target == d) (outcome_of os q).sends in
    let ys = filter (λ m. m.target == d) (outcome_of us q).sends in
    yes_is_no (pointwise same_send xs ys) ((Decides-pointwise Decides-send xs ys).1 e)

same_without : (os us : List OutcomeParts) (d : ℕ) → AreDelivered os us → d < length us → parcel_causes os us d ≡ no_delivery_causes → IsSame os us d
same_without os us d h l e =
    let n = length us in
    let gets : has_same_gets os us d ≡ true = not_false (has_same_gets os us d) (ap (λ (c : DeliveryCauses). c.gets) e) in
    let own : KeepsOwn os us d = (
      (Decides-words (outcome_of os d).memory (outcome_of us d).memory).0 (not_false _ (ap (λ (c : DeliveryCauses). c.memory) e)),
      (Decides-pointwise Decides-get (outcome_of os d).gets (outcome_of us d).gets).0 gets,
    ) in
    let read : owners_read os us (outcome_of us d).gets ≡ [] = ap (λ b. cond b (owners_read os us (outcome_of us d).gets) []) (sym gets) ∙ ap (λ (c : DeliveryCauses). c.read) e in
    let puts = none_there n (puts_others os us d) (ap (λ (c : DeliveryCauses). c.puts) e) in
    let sends = none_there n (sends_others os us d) (ap (λ (c : DeliveryCauses). c.sends) e) in
    record {
      brought = λ q m. record {
        parcel = record { puts = same_puts os us d q (puts q m); sends = same_sends os us d q (sends q m) };
        own = λ here. subst (KeepsOwn os us) here own;
      };
      read = none_read os us d h.after l read;
    }

without_same : (os us : List OutcomeParts) (d : ℕ) → d < length us → IsSame os us d → parcel_causes os us d ≡ no_delivery_causes
without_same os us d l h =
    let n = length us in
    let own = (h.brought d l).own refl in
    let memory = yes_is_no (same_words (outcome_of os d).memory (outcome_of us d).memory) ((Decides-words (outcome_of os d).memory (outcome_of us d).memory).1 own.0) in
    let has : has_same_gets os us d ≡ true = (Decides-pointwise Decides-get (outcome_of os d).gets (outcome_of us d).gets).1 own.1 in
    let gets = yes_is_no (has_same_gets os us d) has in
    let read : cond (has_same_gets os us d) (owners_read os us (outcome_of us d).gets) [] ≡ [] = ap (λ b. cond b (owners_read os us (outcome_of us d).gets) []) has ∙ read_none os us d h.read in
    let puts = all_left_out n (puts_others os us d) (λ q m. puts_same os us d q (h.brought q m).parcel.puts) in
    let sends = all_left_out n (sends_others os us d) (λ q m. sends_same os us d q (h.brought q m).parcel.sends) in
    λ i. record { is_new = false; memory = memory i; gets = gets i; read = read i; puts = puts i; sends = sends i }

-- a delivery of both runs, and a delivery of the new run alone
pub uncaused_delivery : (olds news : List Superstep) (q : Place) → HasDelivery news q → (HasDelivery olds q → AreDelivered (superstep_at olds q.step).outcomes (superstep_at news q.step).outcomes)
    → (delivery_causes olds news q ≡ no_delivery_causes) ↔ IsKept olds news q
uncaused_delivery olds news q here delivered =
    let os = (superstep_at olds q.step).outcomes in
    let us = (superstep_at news q.step).outcomes in
    let d = q.pid in (
      λ e.
          elim (cases_lt d (length os)) [
            | inl l ↦
                let h = delivered l in
                record { there = l; same = (same_parts os us d h.count here).1 (same_without os us d h here (sym (delivery_there olds news q l) ∙ e)) }
            | inr m ↦ absurd (false≢true (sym (ap (λ (c : DeliveryCauses). c.is_new) (sym (delivery_not_there olds news q m) ∙ e))))
          ],
      λ s. delivery_there olds news q s.there ∙ without_same os us d here ((same_parts os us d (delivered s.there).count here).0 s.same),
    )

-- what a run delivers can be delivered
pub deliverable_there : (acts : ViewParts → List Act) (ending : ViewParts → End) (input : Input) (r : Run) (q : Place) → input_fault input ≡ None → IsBspRun (turn_of acts ending) input r → HasDelivery r.past q → AreDeliverable (superstep_at r.past q.step).outcomes
deliverable_there acts ending input r q lawful law h =
    let at = front r q.step (step_there r.past q h) in
    subst (λ (x : Superstep). AreDeliverable x.outcomes) at.1 (deliverable_in_run acts ending input r q.step lawful law at.0)
