-- Requests of several senders, and facts of the outcomes that are read one by one.
use Rattle.std.proofs.Common.{◌≡◌, ℕ, ◌+◌, ◌<◌, ◌≤◌, ◌==◌, Bool, true, false, cond, List, [], ◌∷◌, ◌++◌, map, filter, take, length, All, refl, sym, ◌∙◌, ap, arith, get_or, subst, append_assoc, append-nil, Some}
use Rattle.std.specs.Prelude.{slice_get}
use Rattle.std.specs.Bool.{OnTrue}
use Rattle.std.proofs.lemmas.Option.{get_or_from_slice_get}
use Rattle.std.proofs.lemmas.List.{take_more, get_or-map, get_or_default, length-map}
use Rattle.std.proofs.lemmas.List.Elements.{filter_more, filter_passes, All-nil, All-append, All-map, All-head, All-tail, All-filter}
use Rattle.std.proofs.lemmas.Bool.{eqb-true, OnTrue_at}
use Rattle.std.proofs.lemmas.Grind.{common_steps}
use Rattle.bsp_model.specs.declared.request.Put.{Put}
use Rattle.bsp_step.specs.OutcomeParts.{OutcomeParts, no_outcome, outcome_of}
use Rattle.bsp_deliver.specs.Requests.{requests_from, all_puts, all_sends}
use Rattle.bsp_deliver.specs.Delivery.{delivery_parts}
use Rattle.bsp_deliver.specs.Condition.{sizes_of, IsPutInside, AreRequestsInside, AreDeliverable}
use Rattle.bsp_deliver.specs.Readable.{IsReadable}

-- a fact of each element, at the one that was read
pub at_item : {X : Type 0} (P : X → Type 0) (xs : List X) (i : ℕ) (x : X) → All P xs → i < length xs → x ≡ get_or xs i x → P x
at_item P xs i x h l e = subst P (sym e) (h i x l)

-- where no sender has a request
no_requests : {R : Type 0} (of : OutcomeParts → List R) (n : ℕ) (os : List OutcomeParts) → All (λ o. of o ≡ []) os → requests_from of n os ≡ []
no_requests of n [] none = refl
no_requests of n (o ∷ os) none =
    ap (λ rs. map (λ r. (n, r)) rs ++ requests_from of (n + 1) os) (All-head (λ o. of o ≡ []) o os none)
    ∙ no_requests of (n + 1) os (All-tail (λ o. of o ≡ []) o os none)

pub none_sent : (os : List OutcomeParts) (nobody : Bool) → nobody ≡ true → OnTrue nobody (All (λ (o : OutcomeParts). o.sends ≡ []) os) → all_sends os ≡ []
unfolding all_sends
none_sent os nobody is none = no_requests (λ o. o.sends) 0 os (OnTrue_at is none)

-- what stands at a place, as it is read there
pub item_at : {X : Type 0} (xs : List X) (i : ℕ) (x : X) → slice_get xs i ≡ Some x → x ≡ get_or xs i x
item_at xs i x h = sym (get_or_from_slice_get xs i x x h)

pub filter_more_yes : {X : Type 0} (p : X → Bool) (xs : List X) (i : ℕ) (x : X) → i < length xs → x ≡ get_or xs i x → p x ≡ true → filter p (take (i + 1) xs) ≡ filter p (take i xs) ++ x ∷ []
filter_more_yes p xs i x l e t =
    filter_more p xs i x l ∙ ap (λ y. filter p (take i xs) ++ cond (p y) (y ∷ []) []) (sym e) ∙ ap (λ b. filter p (take i xs) ++ cond b (x ∷ []) []) t

pub filter_more_no : {X : Type 0} (p : X → Bool) (xs : List X) (i : ℕ) (x : X) → i < length xs → x ≡ get_or xs i x → p x ≡ false → filter p (take (i + 1) xs) ≡ filter p (take i xs)
filter_more_no p xs i x l e t =
    filter_more p xs i x l ∙ ap (λ y. filter p (take i xs) ++ cond (p y) (y ∷ []) []) (sym e) ∙ ap (λ b. filter p (take i xs) ++ cond b (x ∷ []) []) t
    ∙ append-nil (filter p (take i xs))

-- one sender more adds its requests
pub requests_from-more : {R : Type 0} (of : OutcomeParts → List R) (n m : ℕ) (os : List OutcomeParts) (o : OutcomeParts) → m ≡ n + length os
    → requests_from of n (os ++ o ∷ []) ≡ requests_from of n os ++ map (λ r. (m, r)) (of o)
requests_from-more of n m [] o e = let k : m ≡ n = omega arith in rw k (append-nil _)
requests_from-more of n m (x ∷ os) o e =
    ap (λ ys. map (λ r. (n, r)) (of x) ++ ys) (requests_from-more of (n + 1) m os o (omega arith))
    ∙ sym (append_assoc (map (λ r. (n, r)) (of x)) (requests_from of (n + 1) os) (map (λ r. (m, r)) (of o)))

pub map_twice : {X Y Z : Type 0} (f : Y → Z) (g : X → Y) (xs : List X) → map (λ x. f (g x)) xs ≡ map f (map g xs)
map_twice f g [] = refl
map_twice f g (x ∷ xs) = ap (λ ys. f (g x) ∷ ys) (map_twice f g xs)

-- a test of the request alone does not see the sender
pub passing_pairs : {R : Type 0} (n : ℕ) (p : R → Bool) (rs : List R) → filter (λ (s : ℕ × R). p s.1) (map (λ r. (n, r)) rs) ≡ map (λ r. (n, r)) (filter p rs)
passing_pairs n p [] = refl
passing_pairs {R = R} n p (r ∷ rs) =
    elim (p r) as (λ b. cond b ((n, r) ∷ filter (λ (s : ℕ × R). p s.1) (map (λ r. (n, r)) rs)) (filter (λ (s : ℕ × R). p s.1) (map (λ r. (n, r)) rs)) ≡ map (λ r. (n, r)) (cond b (r ∷ filter p rs) (filter p rs)))
    [ true ↦ ap (λ ys. (n, r) ∷ ys) (passing_pairs n p rs) | false ↦ passing_pairs n p rs ]

-- the requests of one sender more
pub requests_of-more : {R : Type 0} (of : OutcomeParts → List R) (os : List OutcomeParts) (i : ℕ) (o : OutcomeParts) → i < length os → o ≡ get_or os i o
    → requests_from of 0 (take (i + 1) os) ≡ requests_from of 0 (take i os) ++ map (λ r. (i, r)) (of o)
requests_of-more of os i o l e =
    let long : i ≡ 0 + length (take i os) = grind (arith, common_steps) in
    ap (requests_from of 0) (take_more os i o l ∙ ap (λ y. take i os ++ y ∷ []) (sym e)) ∙ requests_from-more of 0 i (take i os) o long

pub sizes-outcome_of : (os : List OutcomeParts) (d : ℕ) → d < length os → get_or (sizes_of os) d 0 ≡ length (outcome_of os d).memory
sizes-outcome_of os d l = get_or-map (λ (x : OutcomeParts). length x.memory) os d no_outcome 0 l

pub length-sizes_of : (os : List OutcomeParts) → length (sizes_of os) ≡ length os
length-sizes_of os = length-map os (λ (x : OutcomeParts). length x.memory)

-- an outcome, as what stands at its place
pub outcome_at : (os : List OutcomeParts) (d : ℕ) → d < length os → outcome_of os d ≡ get_or os d (outcome_of os d)
outcome_at os d l = get_or_default os d no_outcome (outcome_of os d) l

-- what holds of the outcome of each process holds of all
pub each_outcome : (P : OutcomeParts → Type 0) (os : List OutcomeParts) → ((k : ℕ) → k < length os → P (outcome_of os k)) → All P os
each_outcome P os h = λ k o l. subst P (get_or_default os k no_outcome o l) (h k l)

-- the words that the gets of a process read are there
pub readable_gets : (os : List OutcomeParts) (d : ℕ) (o : OutcomeParts) → AreDeliverable os → d < length os → o ≡ get_or os d o → All (IsReadable os) o.gets
readable_gets os d o h l e =
    let inside = at_item (AreRequestsInside (sizes_of os)) os d o h.inside l e in
    λ k g i. let w = inside.gets k g i in record { known = omega (arith, w.known, length-sizes_of os); inside = w.inside }

-- what holds of the requests of each process holds of all
pub all_requests : {R : Type 0} (P : R → Type 0) (of : OutcomeParts → List R) (n : ℕ) (os : List OutcomeParts) → All (λ o. All P (of o)) os → All (λ (s : ℕ × R). P s.1) (requests_from of n os)
all_requests {R = R} P of n [] h = All-nil (λ (s : ℕ × R). P s.1)
all_requests {R = R} P of n (o ∷ os) h =
    let Q : ℕ × R → Type 0 = λ s. P s.1 in
    All-append Q (map (λ r. (n, r)) (of o)) (requests_from of (n + 1) os)
    (All-map Q (λ r. (n, r)) (of o) (All-head (λ o. All P (of o)) o os h))
    (all_requests P of (n + 1) os (All-tail (λ o. All P (of o)) o os h))

-- the puts to a process fit into its memory
pub puts_inside : (os : List OutcomeParts) (d : ℕ) → AreDeliverable os → All (λ (s : ℕ × Put). s.1.start + length s.1.words ≤ get_or (sizes_of os) d 0) (delivery_parts os d).puts
unfolding delivery_parts all_puts
puts_inside os d h =
    let to : ℕ × Put → Bool = λ s. s.1.target == d in
    let all = all_requests (IsPutInside (sizes_of os)) (λ (o : OutcomeParts). o.puts) 0 os (λ k o l. (h.inside k o l).puts) in
    λ k s l.
    let p : Put = (get_or (filter to (all_puts os)) k s).1 in
    let here : p.target ≡ d = eqb-true p.target d (filter_passes to (all_puts os) k s l) in
    let fits : p.start + length p.words ≤ get_or (sizes_of os) p.target 0 = (All-filter to (λ (s : ℕ × Put). IsPutInside (sizes_of os) s.1) (all_puts os) all k s l).inside in
    subst (λ n. p.start + length p.words ≤ get_or (sizes_of os) n 0) here fits
