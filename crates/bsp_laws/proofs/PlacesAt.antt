-- The processes of an update's places in a superstep.
use Rattle.std.proofs.Common.{◌≡◌, ℕ, zero, suc, ◌+◌, ◌<◌, ◌≤◌, ◌==◌, ◌↔◌, Bool, cond, List, [], ◌∷◌, filter, length, map, refl, sym, ap, ◌∙◌, subst, arith, inl, inr}
use Rattle.std.specs.List.{Contains, range_with_len}
use Rattle.std.proofs.lemmas.Bool.{cases_eq, eq-eqb, ne_eqb}
use Rattle.bsp_incr.specs.declared.reply.Place.{Place}
use Rattle.bsp_incr.specs.Exact.{comes_before, AreInOrder}
use Rattle.bsp_causes.specs.UpdateCost.{processes_at}

abbrev place_of : ℕ → ℕ → Place
place_of s p = record { step = s; pid = p }

pub here : {X : Type 0} (x : X) (xs : List X) → Contains (x ∷ xs) x
here x xs = (0, omega arith, refl)

pub there : {X : Type 0} (x : X) (xs : List X) (y : X) → Contains xs y → Contains (x ∷ xs) y
there x xs y c = (suc c.0, omega (arith, c.1), c.2)

nowhere : {X : Type 0} (y : X) → Contains [] y → ⊥
nowhere y c = omega (arith, c.1)

at_taken : (p : Place) (later : List Place) (s : ℕ) → p.step ≡ s → processes_at (p ∷ later) s ≡ p.pid ∷ processes_at later s
at_taken p later s e =
    ap (λ b. map (λ (x : Place). x.pid) (cond b (p ∷ filter (λ (x : Place). x.step == s) later) (filter (λ (x : Place). x.step == s) later))) (eq-eqb p.step s e)

at_skipped : (p : Place) (later : List Place) (s : ℕ) → (p.step ≡ s → ⊥) → processes_at (p ∷ later) s ≡ processes_at later s
at_skipped p later s ne =
    ap (λ b. map (λ (x : Place). x.pid) (cond b (p ∷ filter (λ (x : Place). x.step == s) later) (filter (λ (x : Place). x.step == s) later))) (ne_eqb p.step s ne)

-- no place is of this superstep
pub none_at : (places : List Place) (s : ℕ) → ((p : Place) → Contains places p → p.step ≡ s → ⊥) → processes_at places s ≡ []
none_at [] s h = refl
none_at (p ∷ later) s h = at_skipped p later s (h p (here p later)) ∙ none_at later s (λ q c. h q (there p later q c))

-- who is listed has a place there

listed_head : (p : Place) (later : List Place) (s q : ℕ) → p.step ≡ s → ((c : Contains (processes_at later s) q) → Contains later (place_of s q)) → Contains (p.pid ∷ processes_at later s) q → Contains (p ∷ later) (place_of s q)
listed_head p later s q e rest (zero, inside, is) = (0, omega arith, (λ i. record { step = e i; pid = is i }))
listed_head p later s q e rest (suc k, inside, is) = there p later (place_of s q) (rest (k, omega (arith, inside), is))

listed : (places : List Place) (s q : ℕ) → Contains (processes_at places s) q → Contains places (place_of s q)
listed [] s q c = absurd (nowhere q c)
listed (p ∷ later) s q c =
    elim (cases_eq p.step s) [
      | inl e ↦ listed_head p later s q e (listed later s q) (subst (λ ps. Contains ps q) (at_taken p later s e) c)
      | inr ne ↦ there p later (place_of s q) (listed later s q (subst (λ ps. Contains ps q) (at_skipped p later s ne) c))
    ]

-- and who has a place there is listed
pub is_listed : (places : List Place) (s q : ℕ) → Contains places (place_of s q) → Contains (processes_at places s) q
is_listed [] s q c = absurd (nowhere (place_of s q) c)
is_listed (p ∷ later) s q (zero, inside, is) =
    let e = ap (λ (x : Place). x.step) is in
    subst (λ ps. Contains ps q) (sym (at_taken p later s e)) (0, omega arith, ap (λ (x : Place). x.pid) is)
is_listed (p ∷ later) s q (suc k, inside, is) =
    let rest = is_listed later s q (k, omega (arith, inside), is) in
    elim (cases_eq p.step s) [
      | inl e ↦ subst (λ ps. Contains ps q) (sym (at_taken p later s e)) (there p.pid (processes_at later s) q rest)
      | inr ne ↦ subst (λ ps. Contains ps q) (sym (at_skipped p later s ne)) rest
    ]

-- each is less than those behind it
abbrev IsRising : List ℕ → Type 0
IsRising [] = Unit {0}
IsRising (p ∷ ps) = ((q : ℕ) → Contains ps q → p < q) × IsRising ps

less : (p : Place) (s q : ℕ) → p.step ≡ s → comes_before p (place_of s q) → p.pid < q
less p s q e h = elim h [ inl w ↦ absurd (omega (arith, w, e)) | inr w ↦ w.1 ]

rising_at : (places : List Place) (s : ℕ) → AreInOrder places → IsRising (processes_at places s)
rising_at [] s h = tt
rising_at (p ∷ later) s h =
    elim (cases_eq p.step s) [
      | inl e ↦ subst IsRising (sym (at_taken p later s e)) (λ q c. less p s q e (h.0 (place_of s q) (listed later s q c)), rising_at later s h.1)
      | inr ne ↦ subst IsRising (sym (at_skipped p later s ne)) (rising_at later s h.1)
    ]

-- a rising list of all numbers from a on, below a + n
record HasAll (a n : ℕ) (ps : List ℕ) : Type 0 where
  pub inside : (q : ℕ) → Contains ps q → (a ≤ q) × (q < a + n)
  pub all : (q : ℕ) → a ≤ q → q < a + n → Contains ps q

first_is : (a n p : ℕ) (ps : List ℕ) → IsRising (p ∷ ps) → HasAll a (suc n) (p ∷ ps) → Contains (p ∷ ps) a → p ≡ a
first_is a n p ps rising h (zero, inside, is) = is
first_is a n p ps rising h (suc k, inside, is) = absurd (omega (arith, rising.0 a (k, omega (arith, inside), is), (h.inside p (here p ps)).0))

not_first : (p q : ℕ) (ps : List ℕ) → p < q → Contains (p ∷ ps) q → Contains ps q
not_first p q ps l (zero, inside, is) = absurd (omega (arith, l, is))
not_first p q ps l (suc k, inside, is) = (k, omega (arith, inside), is)

rest_has : (a n p : ℕ) (ps : List ℕ) → IsRising (p ∷ ps) → HasAll a (suc n) (p ∷ ps) → p ≡ a → HasAll (a + 1) n ps
rest_has a n p ps rising h e = record {
  inside = λ q c. (omega (arith, rising.0 q c, e), omega (arith, (h.inside q (there p ps q c)).1));
  all = λ q l k. not_first p q ps (omega (arith, e, l)) (h.all q (omega (arith, l)) (omega (arith, k)));
}

rising_all : (a n : ℕ) (ps : List ℕ) → IsRising ps → HasAll a n ps → ps ≡ range_with_len a n
rising_all a zero [] rising h = refl
rising_all a zero (p ∷ ps) rising h = let w = h.inside p (here p ps) in absurd (omega (arith, w.0, w.1))
rising_all a (suc n) [] rising h = absurd (nowhere a (h.all a (omega arith) (omega arith)))
rising_all a (suc n) (p ∷ ps) rising h =
    let e = first_is a n p ps rising h (h.all a (omega arith) (omega arith)) in
    let rest = rising_all (a + 1) n ps rising.1 (rest_has a n p ps rising h e) in
    (λ i. e i ∷ rest i)

-- every process has a place there
pub all_at : (places : List Place) (s n : ℕ) → AreInOrder places → ((q : ℕ) → Contains places (record { step = s; pid = q }) ↔ (q < n)) → processes_at places s ≡ range_with_len 0 n
all_at places s n ordered h =
    rising_all 0 n (processes_at places s) (rising_at places s ordered) record {
      inside = λ q c. let l = (h q).0 (listed places s q c) in (omega arith, omega (arith, l));
      all = λ q l k. is_listed places s q ((h q).1 (omega (arith, k)));
    }
