use Rattle.std.proofs.Common.{◌≡◌, ◌<◌, ◌≤◌, ℕ, Bool, true, false, List, [], length, get_or, inl, inr, ◌∙◌, arith, subst}
use Rattle.std.specs.List.{Contains}
use Rattle.std.proofs.lemmas.Bool.{cases_Bool}
use Rattle.std.proofs.lemmas.List.{get_or_default}
use Rattle.bsp_model.specs.ProcessSet.{processes_in}
use Rattle.bsp_model.proofs.ProcessSets.{processes_are}
use Rattle.bsp_run.proofs.lines.is_none_marked.Goals as goal

-- in an empty set there is none
none_in : (s : List Bool) (n : ℕ) → n ≤ length s → processes_in s ≡ [] → (p : ℕ) → p < n → get_or s p true ≡ false
none_in s n long none p below =
    get_or_default s p true false (omega arith)
    ∙ elim (cases_Bool (get_or s p false)) as (λ _. get_or s p false ≡ false) [
      | inl t ↦ let there : Contains [] p = subst (λ (ps : List ℕ). Contains ps p) none ((processes_are s p).1 t) in absurd (omega (arith, there.1))
      | inr t ↦ t
    ]

pub returns-then-nprocs-count : goal.returns-then-nprocs-count
returns-then-nprocs-count c t p below = none_in c.args.marks.now c.args.nprocs (omega arith) (c.is_empty.ensures.0 t) p below
