-- Sets of processes: what they are filled with, and who is in them.
use Rattle.std.proofs.Common.{◌≡◌, ◌≢◌, ◌<◌, ◌++◌, inl, inr, ℕ, zero, suc, Bool, true, false, cond, List, [], ◌∷◌, All, map, replicate, length, get_or, arith, refl, sym, ap, ◌∙◌, subst}
use Rattle.std.specs.Prelude.{filter, slice_set}
use Rattle.std.specs.List.{Contains, range_with_len}
use Rattle.std.proofs.lemmas.List.{get_or_default, get_or-replicate, length-replicate}
use Rattle.std.proofs.lemmas.List.Elements.{filter_passes}
use Rattle.std.proofs.lemmas.List.FromFn.{fill_by_all}
use Rattle.bsp_model.specs.ProcessSet.{processes_in, processes_where}
use Rattle.bsp_model.proofs.Replaced.{length-replaced}
use Rattle.bsp_model.proofs.ProcessSets.{processes_are, processes_known}
use Rattle.bsp_deliver.specs.Requests.{each_below}
use Rattle.bsp_incr.specs.Named.{with_members}
use Rattle.bsp_incr.proofs.Patching.{patched_at}
use Rattle.bsp_incr.proofs.PlacesGathered.{in_cons, none_in_nil}

-- members are added one after the other
pub with_members-append : (set : List Bool) (ps qs : List ℕ) → with_members set (ps ++ qs) ≡ with_members (with_members set ps) qs
with_members-append set [] qs = refl
with_members-append set (p ∷ ps) qs = with_members-append (slice_set set p true) ps qs

-- who is not in a set with a member more was not there before, and is not that member
pub out_before : (set : List Bool) (q p : ℕ) → get_or (slice_set set q true) p true ≡ false → (get_or set p true ≡ false) × (p ≢ q)
out_before [] q p out = cc
out_before (b ∷ set) zero zero out = cc
out_before (b ∷ set) zero (suc p) out = (out, λ e. absurd (omega arith))
out_before (b ∷ set) (suc q) zero out = (out, λ e. absurd (omega arith))
out_before (b ∷ set) (suc q) (suc p) out = let r = out_before set q p out in (r.0, λ e. r.1 (omega arith))

pub out_of_members : (set : List Bool) (ps : List ℕ) (p : ℕ) → get_or (with_members set ps) p true ≡ false → (get_or set p true ≡ false) × (Contains ps p → ⊥)
out_of_members set [] p out = (out, none_in_nil p)
out_of_members set (q ∷ ps) p out =
    let later = out_of_members (slice_set set q true) ps p out in
    let before = out_before set q p later.0 in
    (before.0, λ among. elim (in_cons q ps p among) [ inl here ↦ before.1 (sym here) | inr left ↦ later.1 left ])

-- A process at which the test holds is put into the set, and one at which it fails is passed over.
pub member_if : (test : ℕ → Bool) (b : Bool) (set : List Bool) (p : ℕ) (later : List ℕ) → test p ≡ b → with_members (cond b (slice_set set p true) set) (filter test later) ≡ with_members set (filter test (p ∷ later))
member_if test true set p later e = ap (λ b. with_members set (cond b (p ∷ filter test later) (filter test later))) (sym e)
member_if test false set p later e = ap (λ b. with_members set (cond b (p ∷ filter test later) (filter test later))) (sym e)

put_or_not : (b x : Bool) → x ≡ false → cond b true x ≡ b
put_or_not true x e = refl
put_or_not false x e = e

-- the set of the processes at which a test holds
pub members_where : (n : ℕ) (test : ℕ → Bool) → with_members (replicate n false) (processes_where n test) ≡ each_below n test
members_where n test =
    let none : List Bool = replicate n false in
    let yes : ℕ → Bool = λ _. true in
    fill_by_all test (with_members none (processes_where n test)) n false (length-replaced none (processes_where n test) (map yes (processes_where n test)) ∙ length-replicate n false)
    (λ p l. patched_at yes test n p none false l (omega (arith, l, length-replicate n false)) ∙ put_or_not (test p) (get_or none p false) (get_or-replicate n p false false l))

-- where these are the members
pub are_members : (set : List Bool) (ps : List ℕ) → ps ≡ processes_in set → All (λ p. get_or set p false ≡ true) ps
are_members set ps is = subst (All (λ p. get_or set p false ≡ true)) (sym is) (filter_passes (λ p. get_or set p false) (range_with_len 0 (length set)))

pub members_known : (set : List Bool) (n : ℕ) (ps : List ℕ) → length set ≡ n → ps ≡ processes_in set → All (λ p. p < n) ps
members_known set n ps long is = subst (All (λ p. p < n)) (sym is) (subst (λ k. All (λ p. p < k) (processes_in set)) long (processes_known set))

is_not : (b : Bool) → (b ≡ true → ⊥) → b ≡ false
is_not true h = absurd (h refl)
is_not false h = refl

-- who is none of them is not in the set
pub none_of : (set : List Bool) (p : ℕ) (ps : List ℕ) → p < length set → ps ≡ processes_in set → (Contains ps p → ⊥) → get_or set p true ≡ false
none_of set p ps l is none =
    get_or_default set p true false l ∙ is_not (get_or set p false) (λ t. none (subst (λ (qs : List ℕ). Contains qs p) (sym is) ((processes_are set p).1 t)))

-- what is known of each of those that are left is known of the first, and of those that are left after it
pub first_has : (P : ℕ → Type 0) (q : ℕ) (later left : List ℕ) → left ≡ q ∷ later → All P left → P q
first_has P q later left is all = subst (All P) is all 0 0 (omega arith)

pub later_have : (P : ℕ → Type 0) (q : ℕ) (later left : List ℕ) → left ≡ q ∷ later → All P left → All P later
later_have P q later left is all = λ k d l. subst (All P) is all (suc k) d (omega (arith, l))

pub first_known : (n q : ℕ) (later left : List ℕ) → left ≡ q ∷ later → All (λ p. p < n) left → q < n
first_known n q later left is known = first_has (λ p. p < n) q later left is known

pub later_known : (n q : ℕ) (later left : List ℕ) → left ≡ q ∷ later → All (λ p. p < n) left → All (λ p. p < n) later
later_known n q later left is known = later_have (λ p. p < n) q later left is known

pub none_left : (q : ℕ) (later left : List ℕ) (p : ℕ) → left ≡ q ∷ later → p ≢ q → (Contains later p → ⊥) → Contains left p → ⊥
none_left q later left p is other none = λ among. elim (in_cons q later p (subst (λ (ps : List ℕ). Contains ps p) is among)) [ inl here ↦ other (sym here) | inr more ↦ none more ]

-- where none is left
pub nothing_left : (left : List ℕ) (p : ℕ) → left ≡ [] → Contains left p → ⊥
nothing_left left p is = λ among. none_in_nil p (subst (λ (ps : List ℕ). Contains ps p) is among)

pub no_members : (set : List Bool) (p : ℕ) → processes_in set ≡ [] → p < length set → get_or set p true ≡ false
no_members set p none l = none_of set p [] l (sym none) (nothing_left [] p refl)

pub nobody_marked : (set : List Bool) (p : ℕ) → processes_in set ≡ [] → get_or set p false ≡ true → ⊥
nobody_marked set p none t = nothing_left (processes_in set) p none ((processes_are set p).1 t)
