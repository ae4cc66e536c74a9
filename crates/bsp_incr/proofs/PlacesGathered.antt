-- Places that are gathered superstep by superstep.
use Rattle.std.proofs.Common.{◌≡◌, ◌<◌, ◌≤◌, ◌+◌, ℕ, zero, suc, Bool, true, false, cond, List, [], ◌∷◌, ◌++◌, length, arith, refl, sym, ap, ◌∙◌, subst, inl, inr, ◌⊎◌}
use Rattle.std.specs.Prelude.{Contains, filter}
use Rattle.std.specs.List.{range_with_len}
use Rattle.std.proofs.lemmas.List.Elements.{Contains-append_left, Contains-append_right, Contains-append_cases}
use Rattle.std.proofs.lemmas.Bool.{cases_lt}
use Rattle.bsp_run.specs.declared.superstep.Superstep.{Superstep}
use Rattle.bsp_run.specs.Supersteps.{superstep_at}
use Rattle.bsp_incr.specs.declared.reply.Place.{Place}
use Rattle.bsp_incr.specs.Inside.Changes.{gathered, places_of}
use Rattle.bsp_model.specs.ProcessSet.{processes_where}
use Rattle.bsp_incr.specs.Exact.{comes_before, AreInOrder}

pub none_in_nil : {X : Type 0} (x : X) → Contains [] x → ⊥
none_in_nil x (k, l, at) = omega arith

pub in_cons : {X : Type 0} (x : X) (xs : List X) (y : X) → Contains (x ∷ xs) y → (x ≡ y) ⊎ Contains xs y
in_cons x xs y (zero, l, at) = inl at
in_cons x xs y (suc k, l, at) = inr (k, omega arith, at)

pub cons_here : {X : Type 0} (x : X) (xs : List X) → Contains (x ∷ xs) x
cons_here x xs = (0, omega arith, refl)

pub cons_later : {X : Type 0} (x : X) (xs : List X) (y : X) → Contains xs y → Contains (x ∷ xs) y
cons_later x xs y (k, l, at) = (suc k, omega arith, at)

here_or_later : (a p : ℕ) → a ≤ p → (a ≡ p) ⊎ (a + 1 ≤ p)
here_or_later a p l = elim (cases_lt a p) [ inl w ↦ inr (omega arith) | inr w ↦ inl (omega arith) ]

-- a process that passes, from a on
passes_if : (b : Bool) (a : ℕ) (rest : List ℕ) (p : ℕ) → Contains (cond b (a ∷ rest) rest) p → ((b ≡ true) × (a ≡ p)) ⊎ Contains rest p
passes_if true a rest p h = elim (in_cons a rest p h) [ inl e ↦ inl (refl, e) | inr k ↦ inr k ]
passes_if false a rest p h = inr h

if_passes : (b : Bool) (a : ℕ) (rest : List ℕ) → b ≡ true → Contains (cond b (a ∷ rest) rest) a
if_passes true a rest h = cons_here a rest
if_passes false a rest h = cc

if_later : (b : Bool) (a : ℕ) (rest : List ℕ) (p : ℕ) → Contains rest p → Contains (cond b (a ∷ rest) rest) p
if_later true a rest p h = cons_later a rest p h
if_later false a rest p h = h

passing : (test : ℕ → Bool) (a n p : ℕ) → Contains (filter test (range_with_len a n)) p → (p < a + n) × (test p ≡ true) × (a ≤ p)
passing test a zero p h = absurd (none_in_nil p h)
passing test a (suc n) p h =
    elim (passes_if (test a) a (filter test (range_with_len (a + 1) n)) p h) [
      | inl e ↦ let same = e.1 in (omega arith, ap test (sym same) ∙ e.0, omega (arith, same))
      | inr k ↦ let rest = passing test (a + 1) n p k in (omega (arith, rest.0), rest.1, omega (arith, rest.2))
    ]

passed : (test : ℕ → Bool) (a n p : ℕ) → a ≤ p → p < a + n → test p ≡ true → Contains (filter test (range_with_len a n)) p
passed test a zero p low high h = absurd (omega arith)
passed test a (suc n) p low high h =
    elim (here_or_later a p low) as (λ _. Contains (filter test (range_with_len a (suc n))) p) [
      | inl e ↦ subst (λ q. Contains (cond (test a) (a ∷ filter test (range_with_len (a + 1) n)) (filter test (range_with_len (a + 1) n))) q) e (if_passes (test a) a (filter test (range_with_len (a + 1) n)) (ap test e ∙ h))
      | inr more ↦ if_later (test a) a (filter test (range_with_len (a + 1) n)) p (passed test (a + 1) n p more (omega arith) h)
    ]

-- places of a superstep
in_places : (step : ℕ) (ps : List ℕ) (q : Place) → Contains (places_of step ps) q → (step ≡ q.step) × Contains ps q.pid
in_places step [] q h = absurd (none_in_nil q h)
in_places step (p ∷ ps) q h =
    elim (in_cons (record { step = step; pid = p }) (places_of step ps) q h) [
      | inl e ↦ (ap (λ (x : Place). x.step) e, subst (Contains (p ∷ ps)) (ap (λ (x : Place). x.pid) e) (cons_here p ps))
      | inr k ↦ let rest = in_places step ps q k in (rest.0, cons_later p ps q.pid rest.1)
    ]

of_places : (step : ℕ) (ps : List ℕ) (pid : ℕ) → Contains ps pid → Contains (places_of step ps) (record { step = step; pid = pid })
of_places step [] pid h = absurd (none_in_nil pid h)
of_places step (p ∷ ps) pid h =
    elim (in_cons p ps pid h) [
      | inl e ↦ subst (λ x. Contains (places_of step (p ∷ ps)) (record { step = step; pid = x })) e (cons_here (record { step = step; pid = p }) (places_of step ps))
      | inr k ↦ cons_later (record { step = step; pid = p }) (places_of step ps) (record { step = step; pid = pid }) (of_places step ps pid k)
    ]

-- what is gathered: the places that pass, in a superstep from n on
pub record IsGathered (count : Superstep → ℕ) (test : ℕ → Superstep → ℕ → Bool) (n : ℕ) (ss : List Superstep) (q : Place) : Type 0 where
  pub k : ℕ
  pub at : q.step ≡ n + k
  pub inside : k < length ss
  pub below : q.pid < count (superstep_at ss k)
  pub passes : test q.step (superstep_at ss k) q.pid ≡ true

pub in_gathered : (count : Superstep → ℕ) (test : ℕ → Superstep → ℕ → Bool) (n : ℕ) (ss : List Superstep) (q : Place) → Contains (gathered count test n ss) q → IsGathered count test n ss q
in_gathered count test n [] q h = absurd (none_in_nil q h)
in_gathered count test n (s ∷ later) q h =
    elim (Contains-append_cases (places_of n (processes_where (count s) (test n s))) (gathered count test (n + 1) later) q h) [
      | inl here ↦
          let there = in_places n (processes_where (count s) (test n s)) q here in
          let pass = passing (test n s) 0 (count s) q.pid there.1 in
          record { k = 0; at = omega (arith, there.0); inside = omega arith; below = omega (arith, pass.0); passes = ap (λ m. test m s q.pid) (sym there.0) ∙ pass.1 }
      | inr rest ↦
          let g = in_gathered count test (n + 1) later q rest in
          record { k = suc g.k; at = omega (arith, g.at); inside = omega (arith, g.inside); below = g.below; passes = g.passes }
    ]

pub of_gathered : (count : Superstep → ℕ) (test : ℕ → Superstep → ℕ → Bool) (n k : ℕ) (ss : List Superstep) (pid : ℕ) → k < length ss → pid < count (superstep_at ss k) → test (n + k) (superstep_at ss k) pid ≡ true
    → Contains (gathered count test n ss) (record { step = n + k; pid = pid })
of_gathered count test n k [] pid l below h = absurd (omega arith)
of_gathered count test n zero (s ∷ later) pid l below h =
    let at : n + 0 ≡ n = omega arith in
    Contains-append_left (places_of n (processes_where (count s) (test n s))) (gathered count test (n + 1) later) (record { step = n + 0; pid = pid })
    (subst (λ m. Contains (places_of n (processes_where (count s) (test n s))) (record { step = m; pid = pid })) (sym at)
    (of_places n (processes_where (count s) (test n s)) pid (passed (test n s) 0 (count s) pid (omega arith) (omega arith) (ap (λ m. test m s pid) (sym at) ∙ h))))
of_gathered count test n (suc k) (s ∷ later) pid l below h =
    let at : n + 1 + k ≡ n + suc k = omega arith in
    Contains-append_right (places_of n (processes_where (count s) (test n s))) (gathered count test (n + 1) later) (record { step = n + suc k; pid = pid })
    (subst (λ m. Contains (gathered count test (n + 1) later) (record { step = m; pid = pid })) at
    (of_gathered count test (n + 1) k later pid (omega arith) below (ap (λ m. test m (superstep_at later k) pid) at ∙ h)))

-- a list of which nothing is a member is empty
pub nothing_there : {X : Type 0} (xs : List X) → ((x : X) → Contains xs x → ⊥) → xs ≡ []
nothing_there [] h = refl
nothing_there (x ∷ xs) h = absurd (h x (cons_here x xs))

-- they are in order

in_order_if : (b : Bool) (step a : ℕ) (rest : List ℕ) → ((p : ℕ) → Contains rest p → a < p) → AreInOrder (places_of step rest) → AreInOrder (places_of step (cond b (a ∷ rest) rest))
in_order_if true step a rest above order =
    (λ q c. let there = in_places step rest q c in inr (there.0, above q.pid there.1), order)
in_order_if false step a rest above order = order

places_in_order : (step : ℕ) (test : ℕ → Bool) (a n : ℕ) → AreInOrder (places_of step (filter test (range_with_len a n)))
places_in_order step test a zero = tt
places_in_order step test a (suc n) =
    in_order_if (test a) step a (filter test (range_with_len (a + 1) n)) (λ p c. omega (arith, (passing test (a + 1) n p c).2)) (places_in_order step test (a + 1) n)

both_in_order : (ps qs : List Place) → AreInOrder ps → AreInOrder qs → ((p q : Place) → Contains ps p → Contains qs q → comes_before p q) → AreInOrder (ps ++ qs)
both_in_order [] qs h k across = k
both_in_order (p ∷ ps) qs h k across = (
  λ q c. elim (Contains-append_cases ps qs q c) [ inl here ↦ h.0 q here | inr there ↦ across p q (cons_here p ps) there ],
  both_in_order ps qs h.1 k (λ x y c d. across x y (cons_later p ps x c) d),
)

pub gathered_in_order : (count : Superstep → ℕ) (test : ℕ → Superstep → ℕ → Bool) (n : ℕ) (ss : List Superstep) → AreInOrder (gathered count test n ss)
gathered_in_order count test n [] = tt
gathered_in_order count test n (s ∷ later) =
    both_in_order (places_of n (processes_where (count s) (test n s))) (gathered count test (n + 1) later) (places_in_order n (test n s) 0 (count s)) (gathered_in_order count test (n + 1) later)
    (λ p q c d.
    let here = in_places n (processes_where (count s) (test n s)) p c in
    let there = in_gathered count test (n + 1) later q d in
    inl (omega (arith, here.0, there.at)))
