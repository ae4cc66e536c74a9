-- Lines that two runs have in common.
use Rattle.std.proofs.Common.{◌≡◌, ◌<◌, ℕ, suc, Bool, List, [], ◌∷◌, ◌++◌, length, arith, refl, sym, ap, ◌∙◌}
use Rattle.std.proofs.lemmas.Bool.{false≢true}
use Rattle.std.proofs.lemmas.List.FromFn.{get_or-map-range_with_len, length-map-range_with_len}
use Rattle.bsp_step.specs.OutcomeParts.{OutcomeParts, outcome_of}
use Rattle.bsp_run.specs.declared.superstep.Superstep.{Superstep}
use Rattle.bsp_run.specs.Run.{Run}
use Rattle.bsp_run.specs.Result.{lines_of_process, lines_of}
use Rattle.bsp_run.specs.Supersteps.{outcomes_of, supersteps_of, superstep_at}
use Rattle.bsp_run.specs.SameLines.{LinesDifferAtMost}
use Rattle.bsp_run.specs.Inside.Lines.{AreLinesUnlessMarked}

-- what a process printed in one superstep
abbrev printed : Superstep → ℕ → List (List ℕ)
printed x p = (outcome_of x.outcomes p).lines

-- what is the same in each of as many supersteps is the same in all
same_printed : (xs ys : List Superstep) (p : ℕ) → length xs ≡ length ys → ((s : ℕ) → s < length xs → s < length ys → printed (superstep_at ys s) p ≡ printed (superstep_at xs s) p) → lines_of_process (outcomes_of xs) p ≡ lines_of_process (outcomes_of ys) p
same_printed [] [] p e h = refl
same_printed [] (y ∷ ys) p e h = cc
same_printed (x ∷ xs) [] p e h = cc
same_printed (x ∷ xs) (y ∷ ys) p e h =
    let rest : lines_of_process (outcomes_of xs) p ≡ lines_of_process (outcomes_of ys) p = same_printed xs ys p (omega arith) (λ s l m. h (suc s) (omega (arith, l)) (omega (arith, m))) in
    ap (λ lines. lines ++ lines_of_process (outcomes_of xs) p) (sym (h 0 (omega arith) (omega arith))) ∙ ap (λ lines. printed y p ++ lines) rest

-- The lines of a run are those of each process of another run with as many supersteps that prints the same.
pub lines_stay : (other r : Run) (marks : List Bool) → length (supersteps_of other) ≡ length (supersteps_of r) → LinesDifferAtMost other r marks → AreLinesUnlessMarked (lines_of other) marks (outcomes_of (supersteps_of r))
unfolding lines_of
lines_stay other r marks count h = record {
  same = λ p l clean.
      let n = length other.state.memories in
      let below : p < n = omega (arith, l, length-map-range_with_len (lines_of_process (outcomes_of (supersteps_of other))) 0 n) in
      get_or-map-range_with_len (lines_of_process (outcomes_of (supersteps_of other))) 0 n p p [] below (omega arith)
      ∙ same_printed (supersteps_of other) (supersteps_of r) p count (λ s k m. h.same s p k m clean);
}

-- where no process is marked that has no mark, nothing is known
pub none_known : (lines : List (List (List ℕ))) (turns : List (List OutcomeParts)) → AreLinesUnlessMarked lines [] turns
none_known lines turns = record { same = λ p l clean. absurd (false≢true (sym clean)) }
