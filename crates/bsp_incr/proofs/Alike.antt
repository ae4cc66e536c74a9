-- Turns that are alike, process by process.
use Rattle.std.proofs.Common.{◌≡◌, ◌<◌, ℕ, Bool, List, [], ◌∷◌, length, arith, sym, subst, inl, inr}
use Rattle.std.specs.List.{Contains}
use Rattle.std.proofs.lemmas.Bool.{cases_eq}
use Rattle.bsp_model.specs.ProcessSet.{processes_in}
use Rattle.bsp_step.specs.OutcomeParts.{OutcomeParts, outcome_of}
use Rattle.bsp_incr.specs.Inside.Alike.{AllAlike}
use Rattle.bsp_incr.specs.Inside.Marks.{OutcomesDifferAtMost}
use Rattle.bsp_incr.proofs.Members.{none_left, none_of, nothing_left}

-- the turns of the processes that are not left
abbrev pub AreAlikeBut : (OutcomeParts → OutcomeParts → Type 0) → List OutcomeParts → List OutcomeParts → List ℕ → Type 0
AreAlikeBut AreAlike os us left = (p : ℕ) → p < length us → (Contains left p → ⊥) → AreAlike (outcome_of os p) (outcome_of us p)

-- before any dirty process is looked at
pub alike_but_dirty : (AreAlike : OutcomeParts → OutcomeParts → Type 0) → ((o u : OutcomeParts) → o ≡ u → AreAlike o u) → (os us : List OutcomeParts) (set : List Bool) (left : List ℕ) → length os ≡ length us → OutcomesDifferAtMost os us set → left ≡ processes_in set → AreAlikeBut AreAlike os us left
alike_but_dirty AreAlike same os us set left count differ all = λ p l none.
    let among : p < length set = omega (arith, l, differ.count) in
    same (outcome_of os p) (outcome_of us p) (differ.same p (omega (arith, l, count)) l (none_of set p left among all none))

-- one process more
pub alike_more : (AreAlike : OutcomeParts → OutcomeParts → Type 0) (os us : List OutcomeParts) (q : ℕ) (later left : List ℕ) → left ≡ q ∷ later → AreAlike (outcome_of os q) (outcome_of us q) → AreAlikeBut AreAlike os us left → AreAlikeBut AreAlike os us later
alike_more AreAlike os us q later left is alike but = λ p l none. elim (cases_eq p q) [
  | inl here ↦ subst (λ k. AreAlike (outcome_of os k) (outcome_of us k)) (sym here) alike
  | inr other ↦ but p l (none_left q later left p is other none)
]

-- once none is left
pub all_alike : (AreAlike : OutcomeParts → OutcomeParts → Type 0) (os us : List OutcomeParts) (left : List ℕ) → 0 < length os → length os ≡ length us → left ≡ [] → AreAlikeBut AreAlike os us left → AllAlike AreAlike os us
all_alike AreAlike os us left some count none but = record { some = some; count = count; each = λ p l. but p l (nothing_left left p none) }
