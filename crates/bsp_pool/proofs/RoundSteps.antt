-- Each event keeps what holds of a round machine.
use Rattle.std.proofs.Common.{◌≡◌, ◌≢◌, ℕ, zero, suc, ◌+◌, ◌<◌, ◌≤◌, List, [], ◌∷◌, ◌++◌, length, map, take, replicate, refl, sym, ap, ◌∙◌, subst, arith, ⊎_elim, inl, inr, length-append}
use Rattle.std.specs.Prelude.{◌⊎◌, Result, Ok, Err, Option, Some, None, slice_get, slice_set, slice_index_or, option_map, nat_lt, if◌then◌else◌}
use Rattle.std.proofs.lemmas.Option.{slice_get_within, slice_get-map, slice_get-get_or}
use Rattle.std.proofs.lemmas.Bool.{cases_lt, lt-ltb, le-ltb}
use Rattle.std.proofs.lemmas.List.{length-set, length-replicate, map_more}
use Rattle.bsp_pool.specs.declared.round.Worker.{Worker}
use Rattle.bsp_pool.specs.declared.round.Worker.TheVariants.{Ready, Holding, PastEnd, Gone}
use Rattle.bsp_pool.specs.declared.machine.CoreRefusal.{CoreRefusal}
use Rattle.bsp_pool.specs.declared.machine.CoreRefusal.TheVariants.{NotNow, OutOfMemory}
use Rattle.bsp_pool.specs.Rounds.{RoundParts, opened, Applies, after_draw, after_run, after_leave, finished, IsRoundSound}
use Rattle.bsp_pool.specs.Inside.Holding.{number_of}
use Rattle.bsp_pool.specs.Machine.{Machine, starting, with_round, inputs_of, turned, IsSound}

pub some-inj : {X : Type 0} {x y : X} → Some x ≡ Some y → x ≡ y
some-inj e = cc

get-set_other : {X : Type 0} (xs : List X) (n k : ℕ) (y : X) → k ≢ n → slice_get (slice_set xs n y) k ≡ slice_get xs k
get-set_other [] n k y ne = refl
get-set_other (x ∷ xs) zero zero y ne = absurd (ne refl)
get-set_other (x ∷ xs) zero (suc k) y ne = refl
get-set_other (x ∷ xs) (suc n) zero y ne = refl
get-set_other (x ∷ xs) (suc n) (suc k) y ne = get-set_other xs n k y (λ e. ne (ap suc e))

get-push_front : {X : Type 0} (xs : List X) (y x : X) (k : ℕ) → slice_get xs k ≡ Some x → slice_get (xs ++ y ∷ []) k ≡ Some x
get-push_front [] y x k e = absurd (cc)
get-push_front (z ∷ xs) y x zero e = e
get-push_front (z ∷ xs) y x (suc k) e = get-push_front xs y x k e

get-push_last : {X : Type 0} (xs : List X) (y : X) → slice_get (xs ++ y ∷ []) (length xs) ≡ Some y
get-push_last [] y = refl
get-push_last (x ∷ xs) y = get-push_last xs y

-- what stands at k after a write at n: the new element, or what stood there
pub get-set_cases : {X : Type 0} (xs : List X) (n k : ℕ) (y x : X) → slice_get (slice_set xs n y) k ≡ Some x → ((k ≡ n) × (y ≡ x)) ⊎ ((k ≢ n) × (slice_get xs k ≡ Some x))
get-set_cases [] n k y x e = absurd (cc)
get-set_cases (z ∷ xs) zero zero y x e = inl (refl, cc)
get-set_cases (z ∷ xs) zero (suc k) y x e = inr ((λ q. omega arith), e)
get-set_cases (z ∷ xs) (suc n) zero y x e = inr ((λ q. omega arith), e)
get-set_cases (z ∷ xs) (suc n) (suc k) y x e =
    ⊎_elim (λ (h : (k ≡ n) × (y ≡ x)). inl (ap suc h.0, h.1)) (λ (h : (k ≢ n) × (slice_get xs k ≡ Some x)). inr ((λ q. h.0 (omega arith)), h.1)) (get-set_cases xs n k y x e)

pub get-replicate : {X : Type 0} (n k : ℕ) (y x : X) → slice_get (replicate n y) k ≡ Some x → y ≡ x
get-replicate zero k y x e = absurd (cc)
get-replicate (suc n) zero y x e = cc
get-replicate (suc n) (suc k) y x e = get-replicate n k y x e

get-replicate_within : {X : Type 0} (n k : ℕ) (y : X) → k < n → slice_get (replicate n y) k ≡ Some y
get-replicate_within zero k y lt = absurd (omega arith)
get-replicate_within (suc n) zero y lt = refl
get-replicate_within (suc n) (suc k) y lt = get-replicate_within n k y (omega arith)

-- a round that opens is sound
pub opened_sound : {In Out : Type 0} (does : In → Out) (inputs : List In) (workers : ℕ) → IsRoundSound does inputs (opened (length inputs) workers)
opened_sound {Out = Out} does inputs workers = record {
  places = length-replicate (length inputs) None;
  kept = λ n out e. let bad = get-replicate {X = Option Out} (length inputs) n None (Some out) e in absurd (cc);
  held = λ w n e. let bad = get-replicate {X = Worker} workers w Ready (Holding n) e in absurd (cc);
  undrawn = λ n le lt. get-replicate_within (length inputs) n None (omega (arith, length-replicate {A = Option Out} (length inputs) None));
}

-- the number that a draw gives to hold
taken_number : (a b n : ℕ) → (if nat_lt a b then Holding a else PastEnd) ≡ Holding n → (a < b) × (a ≡ n)
taken_number a b n e =
    ⊎_elim
    (λ (lt : a < b). (lt, (let e' : Holding a ≡ Holding n = rw (lt-ltb a b lt) at e in cc)))
    (λ (le : b ≤ a). (let e' : PastEnd ≡ Holding n = rw (le-ltb a b le) at e in absurd (cc)))
    (cases_lt a b)

-- Draw
drawn_sound : {In Out : Type 0} (does : In → Out) (inputs : List In) (p : RoundParts Out) (w : ℕ) → IsRoundSound does inputs p
    → IsRoundSound does inputs (record p { draws = p.draws ++ w ∷ []; workers = slice_set p.workers w (if nat_lt (length p.draws) (length inputs) then Holding (length p.draws) else PastEnd) })
drawn_sound does inputs p w h =
    let x : Worker = if nat_lt (length p.draws) (length inputs) then Holding (length p.draws) else PastEnd in
    let long = length-append p.draws (w ∷ []) in
    record {
      places = h.places;
      kept = h.kept;
      held = λ w' n e. ⊎_elim
          (λ (here : (w' ≡ w) × (x ≡ Holding n)).
          let t = taken_number (length p.draws) (length inputs) n here.1 in
          let P : ℕ → Type 0 = λ k. slice_get (p.draws ++ w ∷ []) k ≡ Some w' in
          (subst P t.1 (get-push_last p.draws w ∙ ap Some (sym here.0)), h.undrawn n (omega arith) (let s = h.places in omega arith)))
          (λ (there : (w' ≢ w) × (slice_get p.workers w' ≡ Some (Holding n))).
          let was = h.held w' n there.1 in
          (get-push_front p.draws w w' n was.0, was.1))
          (get-set_cases p.workers w w' x (Holding n) e);
      undrawn = λ n le lt. h.undrawn n (omega arith) lt;
    }

-- Ran
ran_sound : {In Out : Type 0} (does : In → Out) (inputs : List In) (p : RoundParts Out) (w n : ℕ) → IsRoundSound does inputs p → slice_get p.workers w ≡ Some (Holding n)
    → IsRoundSound does inputs (record p { workers = slice_set p.workers w Ready; outputs = slice_set p.outputs n (option_map does (slice_get inputs n)) })
ran_sound {Out = Out} does inputs p w n h at =
    let y : Option Out = option_map does (slice_get inputs n) in
    let mine = h.held w n at in
    let long : length (slice_set p.outputs n y) ≡ length p.outputs = length-set p.outputs n y in
    record {
      places = long ∙ h.places;
      kept = λ k out e. ⊎_elim
          (λ (here : (k ≡ n) × (y ≡ Some out)).
          ap (slice_get (map does inputs)) here.0 ∙ (slice_get-map does inputs n ∙ here.1))
          (λ (there : (k ≢ n) × (slice_get p.outputs k ≡ Some (Some out))). h.kept k out there.1)
          (get-set_cases p.outputs n k y (Some out) e);
      held = λ w' k e. ⊎_elim
          (λ (here : (w' ≡ w) × (Ready ≡ Holding k)). let bad = here.1 in absurd (cc))
          (λ (there : (w' ≢ w) × (slice_get p.workers w' ≡ Some (Holding k))).
          let was = h.held w' k there.1 in
          let apart : k ≢ n = λ same. there.0 (let a : slice_get p.draws n ≡ Some w' = ap (slice_get p.draws) (sym same) ∙ was.0 in let b = mine.0 in cc) in
          (was.0, get-set_other p.outputs n k y apart ∙ was.1))
          (get-set_cases p.workers w w' Ready (Holding k) e);
      undrawn = λ k le lt.
          let before = slice_get_within p.draws n w mine.0 in
          let apart : k ≢ n = λ same. omega arith in
          get-set_other p.outputs n k y apart ∙ h.undrawn k le (omega arith);
    }

-- Left
left_sound : {In Out : Type 0} (does : In → Out) (inputs : List In) (p : RoundParts Out) (w : ℕ) → IsRoundSound does inputs p → IsRoundSound does inputs (record p { workers = slice_set p.workers w Gone })
left_sound does inputs p w h = record {
  places = h.places;
  kept = h.kept;
  held = λ w' k e. ⊎_elim
      (λ (here : (w' ≡ w) × (Gone ≡ Holding k)). let bad = here.1 in absurd (cc))
      (λ (there : (w' ≢ w) × (slice_get p.workers w' ≡ Some (Holding k))). h.held w' k there.1)
      (get-set_cases p.workers w w' Gone (Holding k) e);
  undrawn = h.undrawn;
}

-- where what was kept is right, the outputs are those of all inputs
pub finished-kept : {In Out : Type 0} (does : In → Out) (xs : List In) (os : List (Option Out)) → length os ≡ length xs → ((n : ℕ) (out : Out) → slice_get os n ≡ Some (Some out) → slice_get (map does xs) n ≡ Some out) → finished does xs os ≡ map does xs
finished-kept does [] os same kept = refl
finished-kept does (x ∷ xs) [] same kept = absurd (omega arith)
finished-kept does (x ∷ xs) (None ∷ os) same kept = ap (λ l. does x ∷ l) (finished-kept does xs os (omega arith) (λ n out. kept (suc n) out))
finished-kept does (x ∷ xs) (Some o ∷ os) same kept =
    let here : does x ≡ o = let e = kept 0 o refl in cc in
    ap (λ y. y ∷ finished does xs os) (sym here) ∙ ap (λ l. does x ∷ l) (finished-kept does xs os (omega arith) (λ n out. kept (suc n) out))

-- what holds before and after each allowed event holds after the answer to one
applied_keeps : {S U : Type 0} (P : S → Type 0) (next : Option S) (old : S) (r : Result U CoreRefusal) (new : S) → P old → ((s : S) → next ≡ Some s → P s) → Applies next old r new → P new
applied_keeps P next old (Ok u) new before after a = after new a
applied_keeps P next old (Err NotNow) new before after a = subst P (sym a.1) before
applied_keeps P next old (Err OutOfMemory) new before after a = subst P (sym a.1) before

pub after_draw_sound : {In Out : Type 0} (does : In → Out) (inputs : List In) (p q : RoundParts Out) (w : ℕ) (o : Option Worker) → IsRoundSound does inputs p → after_draw (length inputs) p w o ≡ Some q → IsRoundSound does inputs q
after_draw_sound does inputs p q w None h e = absurd (cc)
after_draw_sound does inputs p q w (Some Ready) h e = subst (IsRoundSound does inputs) (some-inj e) (drawn_sound does inputs p w h)
after_draw_sound does inputs p q w (Some (Holding n)) h e = absurd (cc)
after_draw_sound does inputs p q w (Some PastEnd) h e = absurd (cc)
after_draw_sound does inputs p q w (Some Gone) h e = absurd (cc)

pub draw_sound : {In Out U : Type 0} (does : In → Out) (inputs : List In) (p q : RoundParts Out) (w : ℕ) (r : Result U CoreRefusal) → IsRoundSound does inputs p → Applies (after_draw (length inputs) p w (slice_get p.workers w)) p r q → IsRoundSound does inputs q
draw_sound does inputs p q w r h a =
    applied_keeps (IsRoundSound does inputs) (after_draw (length inputs) p w (slice_get p.workers w)) p r q h (λ s e. after_draw_sound does inputs p s w (slice_get p.workers w) h e) a

pub after_leave_sound : {In Out : Type 0} (does : In → Out) (inputs : List In) (p q : RoundParts Out) (w : ℕ) (o : Option Worker) → IsRoundSound does inputs p → after_leave p w o ≡ Some q → IsRoundSound does inputs q
after_leave_sound does inputs p q w None h e = absurd (cc)
after_leave_sound does inputs p q w (Some Gone) h e = absurd (cc)
after_leave_sound does inputs p q w (Some Ready) h e = subst (IsRoundSound does inputs) (some-inj e) (left_sound does inputs p w h)
after_leave_sound does inputs p q w (Some (Holding n)) h e = subst (IsRoundSound does inputs) (some-inj e) (left_sound does inputs p w h)
after_leave_sound does inputs p q w (Some PastEnd) h e = subst (IsRoundSound does inputs) (some-inj e) (left_sound does inputs p w h)

pub leave_sound : {In Out U : Type 0} (does : In → Out) (inputs : List In) (p q : RoundParts Out) (w : ℕ) (r : Result U CoreRefusal) → IsRoundSound does inputs p → Applies (after_leave p w (slice_get p.workers w)) p r q → IsRoundSound does inputs q
leave_sound does inputs p q w r h a =
    applied_keeps (IsRoundSound does inputs) (after_leave p w (slice_get p.workers w)) p r q h (λ s e. after_leave_sound does inputs p s w (slice_get p.workers w) h e) a

pub after_run_sound : {In Out : Type 0} (does : In → Out) (inputs : List In) (p q : RoundParts Out) (w : ℕ) (o : Option Worker) → slice_get p.workers w ≡ o → IsRoundSound does inputs p → after_run does inputs p w o ≡ Some q → IsRoundSound does inputs q
after_run_sound does inputs p q w None at h e = absurd (cc)
after_run_sound does inputs p q w (Some Ready) at h e = absurd (cc)
after_run_sound does inputs p q w (Some (Holding n)) at h e = subst (IsRoundSound does inputs) (some-inj e) (ran_sound does inputs p w n h at)
after_run_sound does inputs p q w (Some PastEnd) at h e = absurd (cc)
after_run_sound does inputs p q w (Some Gone) at h e = absurd (cc)

-- the machine is sound with another sound round
pub round_sound : {Job In Out : Type 0} (does : In → Out) (m : Machine Job In Out) (q : RoundParts Out) → IsSound does m → IsRoundSound does (inputs_of m) q → IsSound does (with_round m q)
round_sound does m q h sound = record { count = h.count; rows = h.rows; round = sound }

pub number_of-some : (o : Option Worker) (n : ℕ) → Some n ≡ number_of o → o ≡ Some (Holding n)
number_of-some None n e = absurd (cc)
number_of-some (Some Ready) n e = absurd (cc)
number_of-some (Some (Holding k)) n e = ap (λ j. Some (Holding j)) (some-inj (sym e))
number_of-some (Some PastEnd) n e = absurd (cc)
number_of-some (Some Gone) n e = absurd (cc)

-- a number that is held is that of an input
pub held_within : {In Out : Type 0} (does : In → Out) (inputs : List In) (p : RoundParts Out) (w n : ℕ) → IsRoundSound does inputs p → Some n ≡ number_of (slice_get p.workers w) → (w < length p.workers) × (n < length p.outputs) × (n < length inputs)
held_within does inputs p w n h is =
    let at = number_of-some (slice_get p.workers w) n is in
    let there = slice_get_within p.workers w (Holding n) at in
    let here = slice_get_within p.outputs n None (h.held w n at).1 in
    let same = h.places in
    (there, here, omega arith)

output_is : {In Out : Type 0} (does : In → Out) (inputs : List In) (n : ℕ) (x : In) (out : Out) → n < length inputs → x ≡ slice_index_or inputs n x → out ≡ does x → option_map does (slice_get inputs n) ≡ Some out
output_is does inputs n x out lt at is = ap (option_map does) (slice_get-get_or inputs n x lt ∙ ap Some (sym at)) ∙ ap Some (sym is)

pub run_sound : {In Out : Type 0} (does : In → Out) (inputs : List In) (p q : RoundParts Out) (w n : ℕ) (x : In) (out : Out) → IsRoundSound does inputs p → Some n ≡ number_of (slice_get p.workers w)
    → x ≡ slice_index_or inputs n x → out ≡ does x → q ≡ record p { workers = slice_set p.workers w Ready; outputs = slice_set p.outputs n (Some out) } → IsRoundSound does inputs q
run_sound {Out = Out} does inputs p q w n x out h is at done new =
    let made = output_is does inputs n x out (held_within does inputs p w n h is).2 at done in
    let P : Option Out → Type 0 = λ o. IsRoundSound does inputs (record p { workers = slice_set p.workers w Ready; outputs = slice_set p.outputs n o }) in
    subst (IsRoundSound does inputs) (sym new) (subst P made (ran_sound does inputs p w n h (number_of-some (slice_get p.workers w) n is)))

pub run_steps : {Job In Out : Type 0} (does : In → Out) (m : Machine Job In Out) (q : RoundParts Out) (w n : ℕ) (x : In) (out : Out) → IsRoundSound does (inputs_of m) m.round → Some n ≡ number_of (slice_get m.round.workers w)
    → x ≡ slice_index_or (inputs_of m) n x → out ≡ does x → q ≡ record m.round { workers = slice_set m.round.workers w Ready; outputs = slice_set m.round.outputs n (Some out) }
    → option_map (with_round m) (after_run does (inputs_of m) m.round w (slice_get m.round.workers w)) ≡ Some (with_round m q)
run_steps {Out = Out} does m q w n x out h is at done new =
    let made = output_is does (inputs_of m) n x out (held_within does (inputs_of m) m.round w n h is).2 at done in
    ap (λ (o : Option Worker). option_map (with_round m) (after_run does (inputs_of m) m.round w o)) (number_of-some (slice_get m.round.workers w) n is)
    ∙ (ap (λ (o : Option Out). Some (with_round m (record m.round { workers = slice_set m.round.workers w Ready; outputs = slice_set m.round.outputs n o }))) made
    ∙ ap (λ (p : RoundParts Out). Some (with_round m p)) (sym new))

-- Turn
pub turned_sound : {Job In Out : Type 0} (does : In → Out) (m : Machine Job In Out) → IsSound does m → length m.committed < length m.phases → IsSound does (turned does m)
turned_sound {In = In} {Out = Out} does m h lt =
    let k = length m.committed in
    let row = finished does (inputs_of m) m.round.outputs in
    let same : row ≡ map does (inputs_of m) = finished-kept does (inputs_of m) m.round.outputs h.round.places h.round.kept in
    let long : length (m.committed ++ row ∷ []) ≡ k + 1 = length-append m.committed (row ∷ []) in
    let P : List In → Type 0 = λ inputs. IsRoundSound does inputs (opened (length (slice_index_or m.phases (k + 1) [])) (length m.round.workers)) in
    record {
      count = omega arith;
      rows = ap (λ (l : List (List Out)). l ++ row ∷ []) h.rows ∙ (ap (λ (r : List Out). map (map does) (take k m.phases) ++ r ∷ []) same ∙ (sym (map_more (map does) m.phases k [] lt) ∙ ap (λ (n : ℕ). map (map does) (take n m.phases)) (sym long)));
      round = subst P (ap (λ (n : ℕ). slice_index_or m.phases n []) (sym long)) (opened_sound does (slice_index_or m.phases (k + 1) []) (length m.round.workers));
    }

-- the machine at the start
pub starting_sound : {Job In Out : Type 0} (does : In → Out) (work : Job) (phases : List (List In)) (workers : ℕ) → IsSound does (starting work phases workers)
starting_sound does work phases workers = record { count = omega arith; rows = refl; round = opened_sound does (slice_index_or phases 0 []) workers }
