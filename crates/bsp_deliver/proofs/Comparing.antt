-- Lists of requests that are compared from place to place.
use Rattle.std.proofs.Common.{◌≡◌, ℕ, zero, suc, ◌+◌, ◌<◌, ◌≤◌, ◌==◌, Bool, true, cond, List, [], ◌∷◌, ◌++◌, map, append-nil, filter, drop, length, refl, sym, ◌∙◌, ap, arith, get_or, nat_eq, inl, inr}
use Rattle.std.proofs.lemmas.List.{drop_more, drop_all, map-append, map-id}
use Rattle.std.proofs.lemmas.List.Elements.{filter-append}
use Rattle.std.proofs.lemmas.Bool.{eq-eqb, eqb-true, ne_eqb}
use Rattle.std.proofs.lemmas.Option.{slice_get_cases}
use Rattle.bsp_step.specs.OutcomeParts.{OutcomeParts, outcome_of}
use Rattle.bsp_deliver.specs.Requests.{requests_from}
use Rattle.bsp_deliver.proofs.Senders.{map_twice, passing_pairs}

-- at a place that passes, the rest begins with what stands there
pub rest_from : {X : Type 0} (q : X → Bool) (xs : List X) (i : ℕ) (x : X) → i < length xs → x ≡ get_or xs i x → q x ≡ true → filter q (drop i xs) ≡ x ∷ filter q (drop (i + 1) xs)
rest_from q xs i x l e t =
    ap (filter q) (drop_more xs i x l ∙ ap (λ y. y ∷ drop (i + 1) xs) (sym e)) ∙ ap (λ b. cond b (x ∷ filter q (drop (i + 1) xs)) (filter q (drop (i + 1) xs))) t

pub rest_past : {X : Type 0} (q : X → Bool) (xs : List X) (i : ℕ) → length xs ≤ i → filter q (drop i xs) ≡ []
rest_past q xs i l = ap (filter q) (drop_all i xs l)

-- a rest that is empty has no place that passes
empty_rest : {X : Type 0} (q : X → Bool) (xs : List X) (i : ℕ) → i ≤ length xs → ((r : X) → i < length xs → q (get_or xs i r) ≡ true) → filter q (drop i xs) ≡ [] → i ≡ length xs
empty_rest q xs i l here h =
    elim (slice_get_cases xs i).1 [
      | inl w ↦ absurd (let e : w.0 ∷ filter q (drop (i + 1) xs) ≡ [] = sym (rest_from q xs i w.0 w.1 (sym w.3) (ap q (sym w.3) ∙ here w.0 w.1)) ∙ h in cc)
      | inr w ↦ omega (arith, w.0)
    ]

-- Where the first list has ended, E holds exactly where the second has: what is left of both is equal exactly where E holds.
pub ended_first : {X E : Type 0} (q : X → Bool) (xs ys : List X) (i j : ℕ) → length xs ≤ i → j ≤ length ys → ((r : X) → j < length ys → q (get_or ys j r) ≡ true)
    → (E → filter q (drop i xs) ≡ filter q (drop j ys)) → (filter q (drop i xs) ≡ filter q (drop j ys) → E)
    → (nat_eq j (length ys) ≡ true → E) × (E → nat_eq j (length ys) ≡ true)
ended_first q xs ys i j e l here forth back = (
  λ t. back (rest_past q xs i e ∙ sym (rest_past q ys j (let k : j ≡ length ys = eqb-true j (length ys) t in omega arith))),
  λ h. eq-eqb j (length ys) (empty_rest q ys j l here (sym (forth h) ∙ rest_past q xs i e)),
)

-- Where the second has ended and the first has not, E does not hold.
pub ended_second : {X E : Type 0} (q : X → Bool) (xs ys : List X) (i j : ℕ) → i < length xs → length ys ≤ j → ((r : X) → i < length xs → q (get_or xs i r) ≡ true)
    → (E → filter q (drop i xs) ≡ filter q (drop j ys))
    → (nat_eq i (length xs) ≡ true → E) × (E → nat_eq i (length xs) ≡ true)
ended_second q xs ys i j l e here forth = (
  λ t. absurd (let k : i ≡ length xs = eqb-true i (length xs) t in omega arith),
  λ h. eq-eqb i (length xs) (empty_rest q xs i (omega arith) here (forth h ∙ rest_past q ys j e)),
)

-- Where each sender's requests that pass are the same, all that pass are.
passing_first : {R : Type 0} (of : OutcomeParts → List R) (q : R → Bool) (n : ℕ) (o : OutcomeParts) (os : List OutcomeParts)
    → filter (λ (s : ℕ × R). q s.1) (requests_from of n (o ∷ os)) ≡ map (λ r. (n, r)) (filter q (of o)) ++ filter (λ (s : ℕ × R). q s.1) (requests_from of (n + 1) os)
passing_first {R = R} of q n o os =
    filter-append (λ (s : ℕ × R). q s.1) (map (λ r. (n, r)) (of o)) (requests_from of (n + 1) os)
    ∙ ap (λ ys. ys ++ filter (λ (s : ℕ × R). q s.1) (requests_from of (n + 1) os)) (passing_pairs n q (of o))

same_from : {R : Type 0} (of : OutcomeParts → List R) (q : R → Bool) (n : ℕ) (os us : List OutcomeParts) → length os ≡ length us
    → ((k : ℕ) → k < length os → filter q (of (outcome_of os k)) ≡ filter q (of (outcome_of us k))) → filter (λ (s : ℕ × R). q s.1) (requests_from of n os) ≡ filter (λ (s : ℕ × R). q s.1) (requests_from of n us)
same_from of q n [] [] e h = refl
same_from of q n [] (u ∷ us) e h = absurd (let k : 0 ≡ suc (length us) = e in omega arith)
same_from of q n (o ∷ os) [] e h = absurd (let k : suc (length os) ≡ 0 = e in omega arith)
same_from {R = R} of q n (o ∷ os) (u ∷ us) e h =
    let long : length os ≡ length us = (let k : suc (length os) ≡ suc (length us) = e in omega arith) in
    passing_first of q n o os
    ∙ (λ i. map (λ r. (n, r)) (h 0 (omega arith) i) ++ same_from of q (n + 1) os us long (λ k l. h (suc k) (omega arith)) i)
    ∙ sym (passing_first of q n u us)

pub same_from_senders : {R : Type 0} (of : OutcomeParts → List R) (q : R → Bool) (os us : List OutcomeParts) → length os ≡ length us
    → ((k : ℕ) → k < length os → filter q (of (outcome_of os k)) ≡ filter q (of (outcome_of us k))) → filter (λ (s : ℕ × R). q s.1) (requests_from of 0 os) ≡ filter (λ (s : ℕ × R). q s.1) (requests_from of 0 us)
same_from_senders of q os us e h = same_from of q 0 os us e h

-- And conversely, since the senders are kept: the requests of sender k are those that bear its number.
abbrev of_sender : {R : Type 0} → ℕ → List (ℕ × R) → List R
of_sender {R} k xs = map (λ (s : ℕ × R). s.1) (filter (λ (s : ℕ × R). s.0 == k) xs)

of_sender-append : {R : Type 0} (k : ℕ) (xs ys : List (ℕ × R)) → of_sender k (xs ++ ys) ≡ of_sender k xs ++ of_sender k ys
of_sender-append {R = R} k xs ys =
    ap (map (λ (s : ℕ × R). s.1)) (filter-append (λ (s : ℕ × R). s.0 == k) xs ys) ∙ map-append (λ (s : ℕ × R). s.1) (filter (λ (s : ℕ × R). s.0 == k) xs) (filter (λ (s : ℕ × R). s.0 == k) ys)

of_sender_own : {R : Type 0} (k : ℕ) (rs : List R) → of_sender k (map (λ r. (k, r)) rs) ≡ rs
of_sender_own k [] = refl
of_sender_own {R = R} k (r ∷ rs) =
    ap (λ b. map (λ (s : ℕ × R). s.1) (cond b ((k, r) ∷ filter (λ (s : ℕ × R). s.0 == k) (map (λ r. (k, r)) rs)) (filter (λ (s : ℕ × R). s.0 == k) (map (λ r. (k, r)) rs)))) (eq-eqb k k refl)
    ∙ ap (λ ys. r ∷ ys) (of_sender_own k rs)

of_sender_other : {R : Type 0} (k n : ℕ) (rs : List R) → (n ≡ k → ⊥) → of_sender k (map (λ r. (n, r)) rs) ≡ []
of_sender_other k n [] ne = refl
of_sender_other {R = R} k n (r ∷ rs) ne =
    ap (λ b. map (λ (s : ℕ × R). s.1) (cond b ((n, r) ∷ filter (λ (s : ℕ × R). s.0 == k) (map (λ r. (n, r)) rs)) (filter (λ (s : ℕ × R). s.0 == k) (map (λ r. (n, r)) rs)))) (ne_eqb n k ne)
    ∙ of_sender_other k n rs ne

of_sender_before : {R : Type 0} (of : OutcomeParts → List R) (q : R → Bool) (k n : ℕ) (os : List OutcomeParts) → k < n → of_sender k (filter (λ (s : ℕ × R). q s.1) (requests_from of n os)) ≡ []
of_sender_before of q k n [] l = refl
of_sender_before {R = R} of q k n (o ∷ os) l =
    ap (of_sender k) (passing_first of q n o os)
    ∙ of_sender-append k (map (λ r. (n, r)) (filter q (of o))) (filter (λ (s : ℕ × R). q s.1) (requests_from of (n + 1) os))
    ∙ (λ i. of_sender_other k n (filter q (of o)) (λ e. omega arith) i ++ of_sender_before of q k (n + 1) os (omega arith) i)

of_sender_at : {R : Type 0} (of : OutcomeParts → List R) (q : R → Bool) (n k : ℕ) (os : List OutcomeParts) → k < length os
    → of_sender (n + k) (filter (λ (s : ℕ × R). q s.1) (requests_from of n os)) ≡ filter q (of (outcome_of os k))
of_sender_at of q n k [] l = absurd (omega arith)
of_sender_at {R = R} of q n zero (o ∷ os) l =
    ap (λ m. of_sender m (filter (λ (s : ℕ × R). q s.1) (requests_from of n (o ∷ os)))) (let e : n + 0 ≡ n = omega arith in e)
    ∙ ap (of_sender n) (passing_first of q n o os)
    ∙ of_sender-append n (map (λ r. (n, r)) (filter q (of o))) (filter (λ (s : ℕ × R). q s.1) (requests_from of (n + 1) os))
    ∙ (λ i. of_sender_own n (filter q (of o)) i ++ of_sender_before of q n (n + 1) os (omega arith) i)
    ∙ append-nil (filter q (of o))
of_sender_at {R = R} of q n (suc k) (o ∷ os) l =
    ap (of_sender (n + suc k)) (passing_first of q n o os)
    ∙ of_sender-append (n + suc k) (map (λ r. (n, r)) (filter q (of o))) (filter (λ (s : ℕ × R). q s.1) (requests_from of (n + 1) os))
    ∙ ap (λ ys. ys ++ of_sender (n + suc k) (filter (λ (s : ℕ × R). q s.1) (requests_from of (n + 1) os))) (of_sender_other (n + suc k) n (filter q (of o)) (λ e. omega arith))
    ∙ ap (λ m. of_sender m (filter (λ (s : ℕ × R). q s.1) (requests_from of (n + 1) os))) (let e : n + suc k ≡ n + 1 + k = omega arith in e)
    ∙ of_sender_at of q (n + 1) k os (omega arith)

pub senders_from_same : {R : Type 0} (of : OutcomeParts → List R) (q : R → Bool) (os us : List OutcomeParts) (k : ℕ) → k < length os → k < length us
    → filter (λ (s : ℕ × R). q s.1) (requests_from of 0 os) ≡ filter (λ (s : ℕ × R). q s.1) (requests_from of 0 us) → filter q (of (outcome_of os k)) ≡ filter q (of (outcome_of us k))
senders_from_same of q os us k l m h = sym (of_sender_at of q 0 k os l) ∙ ap (of_sender (0 + k)) h ∙ of_sender_at of q 0 k us m

-- gets paired with the words that they read
same_pairs : {X Y : Type 0} (f h : X → Y) (zs : List X) → map f zs ≡ map h zs → map {B = X × Y} (λ (x : X). (x, f x)) zs ≡ map {B = X × Y} (λ (x : X). (x, h x)) zs
same_pairs f h [] k = refl
same_pairs {X = X} {Y = Y} f h (z ∷ zs) k =
    let head : f z ≡ h z = cc in
    let tail : map f zs ≡ map h zs = cc in
    λ i. (z, head i) ∷ same_pairs f h zs tail i

pub pairs_from : {X Y : Type 0} (f h : X → Y) (xs ys : List X) → xs ≡ ys → map f xs ≡ map h xs → map {B = X × Y} (λ (x : X). (x, f x)) xs ≡ map {B = X × Y} (λ (x : X). (x, h x)) ys
pairs_from {X = X} {Y = Y} f h xs ys e k = same_pairs f h xs k ∙ ap (map {B = X × Y} (λ (x : X). (x, h x))) e

pub pairs_apart : {X Y : Type 0} (f h : X → Y) (xs ys : List X) → map {B = X × Y} (λ (x : X). (x, f x)) xs ≡ map {B = X × Y} (λ (x : X). (x, h x)) ys → (xs ≡ ys) × (map f xs ≡ map h ys)
pairs_apart {X = X} {Y = Y} f h xs ys e =
    let F : X → X × Y = λ x. (x, f x) in
    let H : X → X × Y = λ x. (x, h x) in
    let first : X × Y → X = λ p. p.0 in
    let second : X × Y → Y = λ p. p.1 in (
      sym (map-id xs) ∙ map_twice first F xs ∙ ap (map first) e ∙ sym (map_twice first H ys) ∙ map-id ys,
      map_twice second F xs ∙ ap (map second) e ∙ sym (map_twice second H ys),
    )
