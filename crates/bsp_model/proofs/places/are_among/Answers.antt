use Rattle.std.proofs.Common.{◌≡◌, ◌≢◌, ◌<◌, ℕ, List, length, get_or, inl, inr, refl, sym, subst, ◌∙◌, arith}
use Rattle.std.specs.List.{Contains}
use Rattle.std.proofs.lemmas.Bool.{false≢true, cases_lt}
use Rattle.std.proofs.lemmas.List.{get_or_default}
use Rattle.bsp_model.proofs.places.are_among.Goals as goal

-- what stands in a list is not other than all of it
found : (processes : List ℕ) (p : ℕ) → ((k : ℕ) → k < length processes → p ≢ get_or processes k 0) → Contains processes p → ⊥
found processes p none (k, inside, there) = none k inside (sym (get_or_default processes k 0 p inside ∙ there))

pub returns-in_default : goal.returns-in_default
returns-in_default c = (
  λ h. absurd (false≢true h),
  λ all. absurd (found c.args.processes.now (get_or c.args.some.now c.loop-k.k 0) c.in_default.ensures.none (all c.loop-k.k 0 (omega arith))),
)

pub loop-k-preserved : goal.loop-k-preserved
loop-k-preserved c k before =
    elim (cases_lt k c.loop-k.k) [
      | inl earlier ↦ c.loop-k.invariant k earlier
      | inr later ↦
          let here : k ≡ c.loop-k.k = omega arith in
          let some = c.in-Some.ensures.some in
          subst (λ n. Contains c.args.processes.now (get_or c.args.some.now n 0)) (sym here)
          (c.in-Some._place, some.0, get_or_default c.args.processes.now c.in-Some._place _ 0 some.0 ∙ some.1)
    ]

pub returns : goal.returns
returns c = (
  λ yes k d inside.
      subst (Contains c.args.processes.now) (get_or_default c.args.some.now k 0 d inside) (c.loop-k.invariant k (omega arith)),
  λ all. refl,
)
