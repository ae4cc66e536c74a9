-- The lines of one superstep more.
use Rattle.std.proofs.Common.{◌≡◌, ◌∙◌, ℕ, zero, suc, List, [], ◌∷◌, ◌++◌, All, refl, sym, ap, arith}
use Rattle.std.proofs.lemmas.List.{append-nil, flat_map_more}
use Rattle.bsp_model.specs.Columns.{row_at}
use Rattle.bsp_step.specs.ListKind.{IsWithout}
use Rattle.bsp_step.specs.declared.list_kind.ListKind.TheVariants.{Lines}
use Rattle.bsp_step.specs.OutcomeParts.{OutcomeParts, outcome_of, no_outcome}
use Rattle.bsp_scratch.specs.Inside.Printed.{lines_in, AreLinesAnd}

-- where no turn left a line
none_left : (os : List OutcomeParts) (p : ℕ) → All (IsWithout Lines) os → (outcome_of os p).lines ≡ []
none_left [] p h = refl
none_left (o ∷ os) zero h = h 0 no_outcome (omega arith)
none_left (o ∷ os) (suc p) h = none_left os p (λ k d l. h (suc k) d (omega (arith, l)))

pub none_more : (printed : List (List (List (List ℕ)))) (os : List OutcomeParts) → All (IsWithout Lines) os → AreLinesAnd printed os printed
none_more printed os h = record {
  each = λ p. sym (ap (λ (lines : List (List ℕ)). lines_in printed p ++ lines) (none_left os p h) ∙ append-nil (lines_in printed p));
}

pub one_more : (old new : List (List (List (List ℕ)))) (more : List (List (List ℕ))) (os : List OutcomeParts) → new ≡ old ++ more ∷ [] → ((p : ℕ) → row_at more p ≡ (outcome_of os p).lines) → AreLinesAnd old os new
one_more old new more os e same = record {
  each = λ p.
      ap (λ (all : List (List (List (List ℕ)))). lines_in all p) e
      ∙ sym (flat_map_more (λ (each : List (List (List ℕ))). row_at each p) [] old more)
      ∙ ap (λ (lines : List (List ℕ)). lines_in old p ++ lines) (same p);
}
