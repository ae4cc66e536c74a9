-- One pass over all requests leaves at each place what the requests to it alone would.
use Rattle.std.proofs.Common.{◌≡◌, ℕ, zero, suc, ◌+◌, ◌<◌, ◌≤◌, ◌==◌, Bool, cond, List, [], ◌∷◌, ◌++◌, map, filter, fold, take, length, set, All, refl, sym, ◌∙◌, ap, arith, get_or, subst, inl, inr, ◌⊎◌}
use Rattle.std.specs.Prelude.{◌↔◌}
use Rattle.std.proofs.lemmas.Bool.{eq-eqb, ne_eqb, cases_eq}
use Rattle.std.proofs.lemmas.List.{length-set, length-map, length-take-le, get_or-take, take_more, map-append, get_or-map, get_or-set_same, get_or-set_other, ext_get_or}
use Rattle.std.proofs.lemmas.List.Elements.{All-head, All-tail}
use Rattle.std.proofs.lemmas.Grind.{fold-append}
use Rattle.std.proofs.lemmas.List.Folds.{fold-map}
use Rattle.bsp_model.specs.declared.request.Put.{Put}
use Rattle.bsp_model.specs.declared.request.Send.{Send}
use Rattle.bsp_model.specs.declared.request.Message.{Message}
use Rattle.bsp_model.specs.Columns.{row_at, IsPut}
use Rattle.bsp_model.specs.declared.request.Get.{Get}
use Rattle.bsp_step.specs.OutcomeParts.{OutcomeParts, outcome_of, no_outcome}
use Rattle.bsp_deliver.specs.Requests.{requests_from, all_puts, all_sends, words_read}
use Rattle.bsp_deliver.specs.Delivery.{get_write, put_write, message_of, delivery_parts, next_memory, next_queue}
use Rattle.bsp_deliver.specs.Inside.Gathering.{overlay, changed_at, put_into, put_at, ArePlaces}
use Rattle.bsp_deliver.specs.Condition.{sizes_of, IsPutInside, AreDeliverable}
use Rattle.bsp_model.specs.Replaced.{IsAscending}
use Rattle.bsp_deliver.proofs.CellsOf.{row_at-push}
use Rattle.bsp_deliver.proofs.Writes.{overlay-none, overlay-overlay, length-overlay, memory_written-overlay, overlay-next_memory}
use Rattle.bsp_deliver.proofs.Senders.{requests_of-more, all_requests, puts_inside, sizes-outcome_of, length-sizes_of}

-- one request more, at one place
changed_one : {S R : Type 0} (step : S → R → S) (none : S) (place : R → ℕ) (items : List S) (r : R) (rs : List R) (k : ℕ) → k < length items
    → fold step (get_or (changed_at step none place items r) k none) rs ≡ fold step (get_or items k none) (cond (place r == k) (r ∷ rs) rs)
changed_one step none place items r rs k l =
    elim (cases_eq (place r) k) [
      | inl e ↦
          ap (λ s. fold step s rs) (ap (λ j. get_or (set items j (step (get_or items j none) r)) k none) e ∙ get_or-set_same items k (step (get_or items k none) r) none l)
          ∙ ap (λ b. fold step (get_or items k none) (cond b (r ∷ rs) rs)) (sym (eq-eqb (place r) k e))
      | inr ne ↦
          ap (λ s. fold step s rs) (get_or-set_other items (place r) k (step (get_or items (place r) none) r) none (λ e. ne (sym e)))
          ∙ ap (λ b. fold step (get_or items k none) (cond b (r ∷ rs) rs)) (sym (ne_eqb (place r) k ne))
    ]

-- The key: at each place, one pass over all is a pass over the requests to it.
pub gathered : {S R : Type 0} (step : S → R → S) (none : S) (place : R → ℕ) (items : List S) (rs : List R) (k : ℕ) → k < length items
    → get_or (fold (changed_at step none place) items rs) k none ≡ fold step (get_or items k none) (filter (λ r. place r == k) rs)
gathered step none place items [] k l = refl
gathered step none place items (r ∷ rs) k l =
    gathered step none place (changed_at step none place items r) rs k (omega (arith, length-set items (place r) (step (get_or items (place r) none) r)))
    ∙ changed_one step none place items r (filter (λ x. place x == k) rs) k l

pub length-gathered : {S R : Type 0} (step : S → R → S) (none : S) (place : R → ℕ) (items : List S) (rs : List R) → length (fold (changed_at step none place) items rs) ≡ length items
length-gathered step none place items [] = refl
length-gathered step none place items (r ∷ rs) =
    length-gathered step none place (changed_at step none place items r) rs ∙ length-set items (place r) (step (get_or items (place r) none) r)

-- one sender more of a pass
pub folded_more : {R S : Type 0} (of : OutcomeParts → List R) (step : S → R → S) (a : S) (os : List OutcomeParts) (i : ℕ) (o : OutcomeParts) → i < length os → o ≡ get_or os i o
    → fold (λ s (r : ℕ × R). step s r.1) a (requests_from of 0 (take (i + 1) os)) ≡ fold step (fold (λ s (r : ℕ × R). step s r.1) a (requests_from of 0 (take i os))) (of o)
folded_more {R = R} {S = S} of step a os i o l e =
    let F : S → ℕ × R → S = λ s r. step s r.1 in
    ap (fold F a) (requests_of-more of os i o l e)
    ∙ fold-append F a (requests_from of 0 (take i os)) (map (λ r. (i, r)) (of o))
    ∙ fold-map F (λ r. (i, r)) (fold F a (requests_from of 0 (take i os))) (of o)

-- tests that agree on the items pass the same
filter_agree : {R : Type 0} (p q : R → Bool) (xs : List R) → All (λ x. p x ≡ q x) xs → filter p xs ≡ filter q xs
filter_agree p q [] h = refl
filter_agree p q (x ∷ xs) h =
    ap (λ b. cond b (x ∷ filter p xs) (filter p xs)) (All-head (λ y. p y ≡ q y) x xs h)
    ∙ ap (λ ys. cond (q x) (x ∷ ys) ys) (filter_agree p q xs (All-tail (λ y. p y ≡ q y) x xs h))

-- to stand at place k is to be the process there
at_place : (n : ℕ) (ps places : List ℕ) (t k : ℕ) → ArePlaces n ps places → t < n → k < length ps → (get_or places t 0 == k) ≡ (t == get_or ps k 0)
at_place n ps places t k h lt lk =
    elim (cases_eq (get_or places t 0) k) [
      | inl e ↦ eq-eqb (get_or places t 0) k e ∙ sym (eq-eqb t (get_or ps k 0) (sym ((h.each t k lt lk).0 e)))
      | inr ne ↦ ne_eqb (get_or places t 0) k ne ∙ sym (ne_eqb t (get_or ps k 0) (λ e. ne ((h.each t k lt lk).1 (sym e))))
    ]

-- puts over a memory, one after another, are an overlay
puts_folded : (m : List ℕ) (ss : List (ℕ × Put)) → All (λ (s : ℕ × Put). s.1.start + length s.1.words ≤ length m) ss → fold (λ x (s : ℕ × Put). put_into x s.1) m ss ≡ overlay m (map put_write ss)
puts_folded m [] h = sym (overlay-none m)
puts_folded m (s ∷ ss) h =
    let Fits = λ (x : ℕ × Put). x.1.start + length x.1.words ≤ length m in
    let one : put_into m s.1 ≡ overlay m (put_write s ∷ []) = memory_written-overlay m s.1.words s.1.start (All-head Fits s ss h) in
    let long : length (put_into m s.1) ≡ length m = ap length one ∙ length-overlay m (put_write s ∷ []) in
    puts_folded (put_into m s.1) ss (subst (λ n. All (λ (x : ℕ × Put). x.1.start + length x.1.words ≤ n) ss) (sym long) (All-tail Fits s ss h))
    ∙ ap (λ x. overlay x (map put_write ss)) one
    ∙ overlay-overlay m (put_write s ∷ []) (map put_write ss)

-- all puts to the memories of these processes
pub memories_gathered : (os : List OutcomeParts) (ps places : List ℕ) (ms : List (List ℕ)) → AreDeliverable os → All (λ d. d < length os) ps → ArePlaces (length os) ps places
    → ms ≡ map (λ d. overlay (delivery_parts os d).memory (map get_write (delivery_parts os d).gets)) ps
    → fold (λ xs (s : ℕ × Put). put_at places xs s.1) ms (all_puts os) ≡ map (λ d. next_memory (delivery_parts os d)) ps
unfolding delivery_parts all_puts
memories_gathered os ps places ms h known at e =
    let G : ℕ → List ℕ = λ d. overlay (delivery_parts os d).memory (map get_write (delivery_parts os d).gets) in
    let N : ℕ → List ℕ = λ d. next_memory (delivery_parts os d) in
    let step : List ℕ → ℕ × Put → List ℕ = λ x s. put_into x s.1 in
    let place : ℕ × Put → ℕ = λ s. get_or places s.1.target 0 in
    let count : length ms ≡ length ps = ap length e ∙ length-map ps G in
    let all = all_requests (IsPutInside (sizes_of os)) (λ (o : OutcomeParts). o.puts) 0 os (λ k o l. (h.inside k o l).puts) in
    ext_get_or [] (fold (changed_at step [] place) ms (all_puts os)) (map N ps)
    (length-gathered step [] place ms (all_puts os) ∙ count ∙ sym (length-map ps N))
    (λ k l.
    let here : k < length ms = omega (arith, l, length-gathered step [] place ms (all_puts os)) in
    let lk : k < length ps = omega (arith, here, count) in
    let d = get_or ps k 0 in
    let parts = delivery_parts os d in
    let ld : d < length os = known k 0 lk in
    let long : length (G d) ≡ get_or (sizes_of os) d 0 = length-overlay parts.memory (map get_write parts.gets) ∙ sym (sizes-outcome_of os d ld) in
    gathered step [] place ms (all_puts os) k here
    ∙ ap (fold step (get_or ms k []))
    (filter_agree (λ s. place s == k) (λ s. s.1.target == d) (all_puts os) (λ j s lj. at_place (length os) ps places (get_or (all_puts os) j s).1.target k at (omega (arith, (all j s lj).known, length-sizes_of os)) lk))
    ∙ ap (λ m. fold step m parts.puts) (ap (λ (xs : List (List ℕ)). get_or xs k []) e ∙ get_or-map G ps k 0 [] lk)
    ∙ puts_folded (G d) parts.puts (subst (λ n. All (λ (s : ℕ × Put). s.1.start + length s.1.words ≤ n) parts.puts) (sym long) (puts_inside os d h))
    ∙ overlay-next_memory parts
    ∙ sym (get_or-map N ps k 0 [] lk))

-- where nobody sends, no queue has a message
pub none_queued : (os : List OutcomeParts) (ps : List ℕ) (k : ℕ) → all_sends os ≡ [] → row_at (map (λ d. next_queue (delivery_parts os d)) ps) k ≡ []
unfolding delivery_parts next_queue
none_queued os [] k none = refl
none_queued os (p ∷ ps) zero none = ap (λ (ss : List (ℕ × Send)). map (λ (m : ℕ × Send). message_of m.1) (filter (λ (m : ℕ × Send). m.1.target == p) ss)) none
none_queued os (p ∷ ps) (suc k) none = none_queued os ps k none

-- the queue of one process more
pub queued_more : (os : List OutcomeParts) (ps : List ℕ) (i p : ℕ) (old new : List (List Message)) (queue : List Message) → i < length ps → p ≡ get_or ps i p → ((k : ℕ) → row_at old k ≡ row_at (map (λ d. next_queue (delivery_parts os d)) (take i ps)) k)
    → queue ≡ next_queue (delivery_parts os p) → IsPut [] (row_at old) i queue (row_at new)
    → (k : ℕ) → row_at new k ≡ row_at (map (λ d. next_queue (delivery_parts os d)) (take (i + 1) ps)) k
queued_more os ps i p old new queue within read before is put k =
    let N : ℕ → List Message = λ d. next_queue (delivery_parts os d) in
    let count : i ≡ length (map N (take i ps)) = omega (arith, within, length-map (take i ps) N, length-take-le i ps (omega (arith, within))) in
    row_at-push old new (map N (take i ps)) i queue count before put k
    ∙ ap (λ (q : List Message). row_at (map N (take i ps) ++ q ∷ []) k) is
    ∙ ap (λ (qs : List (List Message)). row_at qs k) (sym (map-append N (take i ps) (p ∷ [])) ∙ ap (map N) (ap (λ (x : ℕ). take i ps ++ x ∷ []) read ∙ sym (take_more ps i p within)))

-- The first i processes have their places, and the others one past the end.
pub record ArePlacedTo (n i : ℕ) (ps places : List ℕ) : Type 0 where
  pub count : length places ≡ n
  pub here : (j : ℕ) → j < i → get_or places (get_or ps j 0) 0 ≡ j
  pub other : (d : ℕ) → d < n → (get_or places d 0 ≡ length ps) ⊎ (get_or ps (get_or places d 0) 0 ≡ d)

pub placed_more : (n i : ℕ) (ps places : List ℕ) → i < length ps → All (λ d. d < n) ps → IsAscending ps → ArePlacedTo n i ps places → ArePlacedTo n (i + 1) ps (set places (get_or ps i 0) i)
placed_more n i ps places l known up h =
    let p = get_or ps i 0 in
    let lp : p < length places = omega (arith, known i 0 l, h.count) in
    record {
      count = length-set places p i ∙ h.count;
      here = λ j lj.
          elim (cases_eq j i) [
            | inl e ↦ ap (λ k. get_or (set places p i) (get_or ps k 0) 0) e ∙ get_or-set_same places p i 0 lp ∙ sym e
            | inr ne ↦
                let before : j < i = omega (arith, lj, ne) in
                get_or-set_other places p (get_or ps j 0) i 0 (omega (arith, up j i before l)) ∙ h.here j before
          ];
      other = λ d ld.
          elim (cases_eq d p) [
            | inl e ↦ inr (ap (λ x. get_or ps (get_or (set places p i) x 0) 0) e ∙ ap (λ k. get_or ps k 0) (get_or-set_same places p i 0 lp) ∙ sym e)
            | inr ne ↦
                let same : get_or (set places p i) d 0 ≡ get_or places d 0 = get_or-set_other places p d i 0 ne in
                subst (λ k. (k ≡ length ps) ⊎ (get_or ps k 0 ≡ d)) (sym same) (h.other d ld)
          ];
    }

pub placed_all : (n i : ℕ) (ps places : List ℕ) → length ps ≤ i → ArePlacedTo n i ps places → ArePlaces n ps places
placed_all n i ps places l h = record {
  count = h.count;
  each = λ d k ld lk. (
    λ e.
        elim (h.other d ld) [
          | inl past ↦ omega (arith, lk, e, past)
          | inr is ↦ subst (λ x. get_or ps x 0 ≡ d) e is
        ],
    λ e. subst (λ x. get_or places x 0 ≡ k) e (h.here k (omega (arith, lk, l))),
  );
}

-- the places of fewer processes
pub fewer_places : (n most : ℕ) (ps places : List ℕ) → n ≤ most → ArePlaces most ps places → ArePlaces n ps (take n places)
fewer_places n most ps places few are = record {
  count = length-take-le n places (omega (arith, few, are.count));
  each = λ d k l inside. subst (λ x. (x ≡ k) ↔ (get_or ps k 0 ≡ d)) (sym (get_or-take n places d 0 l)) (are.each d k (omega (arith, l, few)) inside);
}

-- where nobody reads anything, the memories after computing stay as they are

one_unread : (os : List OutcomeParts) (d : ℕ) → (outcome_of os d).gets ≡ [] → (outcome_of os d).memory ≡ overlay (delivery_parts os d).memory (map get_write (delivery_parts os d).gets)
unfolding delivery_parts
one_unread os d none =
    let o = outcome_of os d in
    sym (overlay-none o.memory) ∙ ap (λ (gs : List Get). overlay o.memory (map get_write (map (λ (g : Get). (g, words_read os g)) gs))) (sym none)

pub all_unread : (os : List OutcomeParts) (ps : List ℕ) → All (λ (o : OutcomeParts). o.gets ≡ []) os → All (λ d. d < length os) ps
    → map (λ p. (outcome_of os p).memory) ps ≡ map (λ d. overlay (delivery_parts os d).memory (map get_write (delivery_parts os d).gets)) ps
all_unread os [] none known = refl
all_unread os (p ∷ ps) none known =
    ap (λ (m : List ℕ). m ∷ map (λ q. (outcome_of os q).memory) ps) (one_unread os p (none p no_outcome (All-head (λ d. d < length os) p ps known)))
    ∙ ap (λ (ms : List (List ℕ)). overlay (delivery_parts os p).memory (map get_write (delivery_parts os p).gets) ∷ ms) (all_unread os ps none (All-tail (λ d. d < length os) p ps known))
