-- Deliveries that depend on the same in two lists of outcomes.
use Rattle.std.proofs.Common.{◌≡◌, ℕ, ◌+◌, ◌<◌, ◌==◌, Bool, true, false, List, [], ◌∷◌, ◌++◌, filter, map, length, get_or, All, refl, sym, ◌∙◌, ap, subst, arith, inl, inr}
use Rattle.std.specs.Prelude.{◌↔◌}
use Rattle.std.specs.List.{Contains}
use Rattle.std.proofs.lemmas.List.{get_or_default}
use Rattle.std.proofs.lemmas.List.Elements.{Contains-append_left, Contains-push, Contains-push_cases}
use Rattle.std.proofs.lemmas.Bool.{cases_Bool}
use Rattle.bsp_model.specs.declared.request.Put.{Put}
use Rattle.bsp_model.specs.declared.request.Get.{Get}
use Rattle.bsp_model.specs.declared.request.Send.{Send}
use Rattle.bsp_model.specs.ProcessSet.{processes_in}
use Rattle.bsp_model.proofs.ProcessSets.{member_within, processes_are}
use Rattle.bsp_step.specs.OutcomeParts.{OutcomeParts, no_outcome, outcome_of}
use Rattle.bsp_deliver.specs.Requests.{each_below, all_puts, all_sends, words_read}
use Rattle.bsp_deliver.specs.Delivery.{DeliveryParts, delivery_parts}
use Rattle.bsp_deliver.specs.Inside.Comparison.{HasSameParcel, KeepsOwn, BringsSame, AllBringSame, ReadsSame}
use Rattle.bsp_deliver.specs.Condition.{AreDeliverable}
use Rattle.bsp_deliver.specs.Readable.{IsReadable}
use Rattle.bsp_deliver.specs.Touched.{AreSameUnlessMarked}
use Rattle.bsp_deliver.specs.Inside.Marks.{AreMarkedUnless, AreToKnown}
use Rattle.bsp_deliver.proofs.Senders.{length-sizes_of, readable_gets}
use Rattle.bsp_deliver.proofs.Comparing.{same_from_senders, senders_from_same, pairs_from, pairs_apart}
use Rattle.bsp_deliver.proofs.Unmarked.{none_marked, marked_as, marked_twice, unmarked_within}

-- What a process keeps and reads itself is the same, and what each other brings to it.
pub record IsSame (os us : List OutcomeParts) (d : ℕ) : Type 0 where
  pub brought : AllBringSame os us d
  pub read : ReadsSame os us d

same_to_parts : (os us : List OutcomeParts) (d : ℕ) → length os ≡ length us → d < length us → IsSame os us d → delivery_parts os d ≡ delivery_parts us d
unfolding delivery_parts all_puts all_sends
same_to_parts os us d long l h =
    let own = (h.brought d l).own refl in
    let gets = pairs_from (words_read os) (words_read us) (outcome_of os d).gets (outcome_of us d).gets own.1 (ap (map (words_read os)) own.1 ∙ h.read ∙ ap (map (words_read us)) (sym own.1)) in
    let puts = same_from_senders (λ (o : OutcomeParts). o.puts) (λ (p : Put). p.target == d) os us long (λ k m. (h.brought k (omega (arith, m, long))).parcel.puts) in
    let sends = same_from_senders (λ (o : OutcomeParts). o.sends) (λ (p : Send). p.target == d) os us long (λ k m. (h.brought k (omega (arith, m, long))).parcel.sends) in
    λ i. record { memory = own.0 i; gets = gets i; puts = puts i; sends = sends i }

parts_to_same : (os us : List OutcomeParts) (d : ℕ) → length os ≡ length us → d < length us → delivery_parts os d ≡ delivery_parts us d → IsSame os us d
unfolding delivery_parts all_puts all_sends
parts_to_same os us d long l e =
    let G = (outcome_of os d).gets in
    let H = (outcome_of us d).gets in
    let parts = pairs_apart (words_read os) (words_read us) G H (ap (λ (x : DeliveryParts). x.gets) e) in
    let memory = ap (λ (x : DeliveryParts). x.memory) e in
    record {
      brought = λ k m. record {
        parcel = record {
          puts = senders_from_same (λ (o : OutcomeParts). o.puts) (λ (p : Put). p.target == d) os us k (omega (arith, m, long)) m (ap (λ (x : DeliveryParts). x.puts) e);
          sends = senders_from_same (λ (o : OutcomeParts). o.sends) (λ (p : Send). p.target == d) os us k (omega (arith, m, long)) m (ap (λ (x : DeliveryParts). x.sends) e);
        };
        own = λ here. subst (KeepsOwn os us) here (memory, parts.0);
      };
      read = ap (map (words_read os)) (sym parts.0) ∙ parts.1;
    }

-- A delivery depends on nothing else.
pub same_parts : (os us : List OutcomeParts) (d : ℕ) → length os ≡ length us → d < length us → (delivery_parts os d ≡ delivery_parts us d) ↔ IsSame os us d
same_parts os us d long l = (parts_to_same os us d long l, same_to_parts os us d long l)

-- the processes of a list bring the same to d
abbrev pub BringSame : List OutcomeParts → List OutcomeParts → List ℕ → ℕ → Type 0
BringSame os us ps d = (p : ℕ) → Contains ps p → BringsSame os us p d

pub none_brings : (os us : List OutcomeParts) (marks : List Bool) → AreMarkedUnless (BringSame os us []) marks marks
none_brings os us marks = none_marked (BringSame os us []) marks (λ d f p there. absurd (omega (arith, there.1)))

-- one process more
pub brought_more : (os us : List OutcomeParts) (ps : List ℕ) (p : ℕ) (xs ys zs : List Bool) → AreMarkedUnless (BringSame os us ps) xs ys → AreMarkedUnless (BringsSame os us p) ys zs → AreMarkedUnless (BringSame os us (ps ++ p ∷ [])) xs zs
brought_more os us ps p xs ys zs h k =
    marked_twice (BringSame os us ps) (BringsSame os us p) (BringSame os us (ps ++ p ∷ [])) xs ys zs h k
    (λ d f. (
      λ all. (λ q there. all q (Contains-append_left ps (p ∷ []) q there), all p (Contains-push ps p)),
      λ both q there. elim (Contains-push_cases ps p q there) [ inl earlier ↦ both.0 q earlier | inr e ↦ subst (λ k. BringsSame os us k d) e both.1 ],
    ))

-- what a process without a mark keeps
pub unmarked_same : (os us : List OutcomeParts) (marks : List Bool) (p : ℕ) → AreSameUnlessMarked os us marks → length marks ≡ length us → p < length us → get_or marks p false ≡ false → outcome_of os p ≡ outcome_of us p
unmarked_same os us marks p same long known unmarked = same p known (get_or_default marks p true false (omega (arith, known, long)) ∙ unmarked)

-- Those that are not marked bring the same.
pub unmarked_brings : (os us : List OutcomeParts) (marks : List Bool) (p d : ℕ) → AreSameUnlessMarked os us marks → length marks ≡ length us → p < length us → get_or marks p false ≡ false → BringsSame os us p d
unmarked_brings os us marks p d same long known unmarked =
    let e = unmarked_same os us marks p same long known unmarked in
    record {
      parcel = record { puts = ap (λ (o : OutcomeParts). filter (λ (r : Put). r.target == d) o.puts) e; sends = ap (λ (o : OutcomeParts). filter (λ (r : Send). r.target == d) o.sends) e };
      own = λ _. (ap (λ (o : OutcomeParts). o.memory) e, ap (λ (o : OutcomeParts). o.gets) e);
    }

-- all processes
pub all_brought : (os us : List OutcomeParts) (changed : List Bool) (xs ys : List Bool) → AreSameUnlessMarked os us changed → length changed ≡ length us → AreMarkedUnless (BringSame os us (processes_in changed)) xs ys → AreMarkedUnless (AllBringSame os us) xs ys
all_brought os us changed xs ys same long h =
    marked_as (BringSame os us (processes_in changed)) (AllBringSame os us) xs ys h
    (λ d f. (
      λ all p there. all p (let w = member_within changed p ((processes_are changed p).0 there) in omega (arith, w, long)),
      λ some p known. elim (cases_Bool (get_or changed p false)) [
        | inl t ↦ some p ((processes_are changed p).1 t)
        | inr t ↦ unmarked_brings os us changed p d same long known t
      ],
    ))

-- and what gets of its words read
pub unmarked_words : (os us : List OutcomeParts) (marks : List Bool) (g : Get) → AreSameUnlessMarked os us marks → length marks ≡ length us → g.owner < length us → get_or marks g.owner false ≡ false → words_read os g ≡ words_read us g
unmarked_words os us marks g same long known unmarked =
    ap (λ (o : OutcomeParts). each_below g.len (λ i. get_or o.memory (g.start + i) 0)) (unmarked_same os us marks g.owner same long known unmarked)

-- the requests of a deliverable outcome are to processes that there are
pub to_known : (os : List OutcomeParts) (k n : ℕ) → AreDeliverable os → k < length os → n ≡ length os → AreToKnown n (outcome_of os k)
to_known os k n h l e =
    let inside = h.inside k no_outcome l in
    record {
      puts = λ i p j. omega (arith, (inside.puts i p j).known, length-sizes_of os, e);
      sends = λ i s j. omega (arith, inside.sends i s j, length-sizes_of os, e);
    }

-- the words that the gets of a process read are there
pub readable_of : (os : List OutcomeParts) (p : ℕ) → AreDeliverable os → p < length os → All (IsReadable os) (outcome_of os p).gets
readable_of os p h l = readable_gets os p (outcome_of os p) h l (get_or_default os p no_outcome (outcome_of os p) l)

-- what is brought, and then what is read
pub brought_and_read : (os us : List OutcomeParts) (xs ys zs : List Bool) → length os ≡ length us → length xs ≡ length us → AreMarkedUnless (AllBringSame os us) xs ys → AreMarkedUnless (ReadsSame os us) ys zs
    → AreMarkedUnless (λ d. delivery_parts os d ≡ delivery_parts us d) xs zs
brought_and_read os us xs ys zs count long h k =
    marked_twice (AllBringSame os us) (ReadsSame os us) (λ d. delivery_parts os d ≡ delivery_parts us d) xs ys zs h k
    (λ d f.
    let l : d < length us = omega (arith, unmarked_within xs d f, long) in
    let parts = same_parts os us d count l in
    (λ e. let same = parts.0 e in (same.brought, same.read), λ both. parts.1 (record { brought = both.0; read = both.1 })))

-- where all read the same
pub brought_alone : (os us : List OutcomeParts) (xs ys : List Bool) → length os ≡ length us → length xs ≡ length us → AreMarkedUnless (AllBringSame os us) xs ys → ((d : ℕ) → d < length us → ReadsSame os us d)
    → AreMarkedUnless (λ d. delivery_parts os d ≡ delivery_parts us d) xs ys
brought_alone os us xs ys count long h read =
    marked_as (AllBringSame os us) (λ d. delivery_parts os d ≡ delivery_parts us d) xs ys h
    (λ d f.
    let l : d < length us = omega (arith, unmarked_within xs d f, long) in
    let parts = same_parts os us d count l in
    (λ e. (parts.0 e).brought, λ all. parts.1 (record { brought = all; read = read d l })))

-- what p brings, and then its own
pub parcel_and_own : (os us : List OutcomeParts) (p : ℕ) (xs ys zs : List Bool) → AreMarkedUnless (λ d. HasSameParcel d (outcome_of os p) (outcome_of us p)) xs ys → AreMarkedUnless (λ d. d ≡ p → KeepsOwn os us d) ys zs
    → AreMarkedUnless (BringsSame os us p) xs zs
parcel_and_own os us p xs ys zs h k =
    marked_twice (λ d. HasSameParcel d (outcome_of os p) (outcome_of us p)) (λ d. d ≡ p → KeepsOwn os us d) (BringsSame os us p) xs ys zs h k
    (λ d f. (
      λ same. (same.parcel, λ e. subst (KeepsOwn os us) (sym e) (same.own e)),
      λ both. record { parcel = both.0; own = λ e. subst (KeepsOwn os us) e (both.1 e) },
    ))
