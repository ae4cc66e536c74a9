-- Lines that are taken from a previous run, and those that are gathered.
use Rattle.std.proofs.Common.{◌≡◌, ◌<◌, ℕ, ◌&&◌, not, Bool, true, false, cond, List, [], length, get_or, refl, arith}
use Rattle.std.specs.Prelude.{nat_lt}
use Rattle.std.proofs.lemmas.Bool.{false≢true, not-true}
use Rattle.std.proofs.lemmas.Bool.Decides.{nat_tests}
use Rattle.std.proofs.lemmas.List.FromFn.{fill_by_all}
use Rattle.bsp_model.specs.Columns.{row_at}
use Rattle.bsp_step.specs.OutcomeParts.{OutcomeParts}
use Rattle.bsp_deliver.specs.Requests.{each_below}
use Rattle.bsp_run.specs.Result.{lines_of_process}
use Rattle.bsp_run.specs.Inside.Lines.{lines_from, AreGathered, AreLinesUnlessMarked}
use Rattle.bsp_run.proofs.Lists.{each_below-agree}

-- where no process is marked the lines of a previous run are those of each process
pub all_taken : (before : List (List (List ℕ))) (marks : List Bool) (turns : List (List OutcomeParts)) (n : ℕ) → AreLinesUnlessMarked before marks turns
    → length before ≡ n → ((p : ℕ) → p < n → get_or marks p true ≡ false) → before ≡ each_below n (lines_of_process turns)
all_taken before marks turns n h count unmarked =
    fill_by_all (lines_of_process turns) before n [] count (λ p l. h.same p (omega (arith, l, count)) (unmarked p l))

taken_if : (short clean : Bool) (before all wanted : List (List ℕ))
    → (short ≡ true → clean ≡ true → before ≡ wanted) → (short && clean ≡ false → all ≡ wanted) → cond (short && clean) before all ≡ wanted
taken_if true true before all wanted h g = h refl refl
taken_if true false before all wanted h g = g refl
taken_if false clean before all wanted h g = g refl

-- The lines that are taken or gathered are those of each process.
pub lines_from_all : (before : List (List (List ℕ))) (marks : List Bool) (turns : List (List OutcomeParts)) (n : ℕ) (all : List (List (List ℕ))) → AreLinesUnlessMarked before marks turns
    → AreGathered before marks turns n all → each_below n (lines_from before marks all) ≡ each_below n (lines_of_process turns)
lines_from_all before marks turns n all h g =
    each_below-agree n (lines_from before marks all) (lines_of_process turns) (λ p l.
    taken_if (nat_lt p (length before)) (not (get_or marks p true)) (row_at before p) (row_at all p) (lines_of_process turns p)
    (λ short clean. h.same p (grind (arith, nat_tests)) (not-true _ clean)) (g.same p l))

-- the lines in a column alone
pub lines_from_none : (all : List (List (List ℕ))) (n : ℕ) → each_below n (lines_from [] [] all) ≡ each_below n (row_at all)
lines_from_none all n = each_below-agree n (lines_from [] [] all) (row_at all) (λ p l. taken_if (nat_lt p 0) false [] (row_at all p) (row_at all p) (λ short clean. absurd (false≢true clean)) (λ left. refl))
