-- The rows of an update, superstep by superstep.
use Rattle.std.proofs.Common.{◌≡◌, ℕ, ◌+◌, ◌<◌, ◌||◌, Bool, true, false, cond, List, [], ◌∷◌, ◌++◌, Option, filter, length, map, append_assoc, append-nil, refl, sym, ap, ◌∙◌, arith, inl, inr}
use Rattle.std.specs.List.{range_with_len}
use Rattle.std.proofs.lemmas.List.{map-append}
use Rattle.std.proofs.lemmas.List.Sums.{sum_by-append}
use Rattle.std.proofs.lemmas.Bool.{cases_Bool}
use Rattle.bsp_run.specs.Run.{Run}
use Rattle.bsp_incr.specs.declared.reply.Update.{Update}
use Rattle.bsp_causes.specs.declared.costs.StepCost.{StepCost}
use Rattle.bsp_causes.specs.declared.costs.UpdateCost.{UpdateCost}
use Rattle.bsp_causes.specs.UpdateCost.{is_redone, processes_at, step_cost, total_again}
use Rattle.bsp_causes.specs.Inside.Walk.{rows_at, rows_below, with_rows}
use Rattle.bsp_causes.proofs.Filtered.{passes_more, fails_more}

abbrev row_of : Option Run → Run → Update → ℕ → List StepCost
row_of old new u s = rows_at old new s (processes_at u.executed s) (processes_at u.redelivered s)

rows_below-more : (old : Option Run) (new : Run) (u : Update) (s : ℕ) → rows_below old new u (s + 1) ≡ rows_below old new u s ++ row_of old new u s
rows_below-more old new u s =
    let below = filter (is_redone u) (range_with_len 0 s) in
    let at : 0 + s ≡ s = omega arith in
    let row = step_cost old new u in
    elim (cases_Bool (is_redone u s)) [
      | inl t ↦
          ap (map row) (passes_more (is_redone u) 0 s s at t) ∙ map-append row below (s ∷ [])
          ∙ ap (λ b. map row below ++ cond b (row s ∷ []) []) (sym t)
      | inr f ↦
          ap (map row) (fails_more (is_redone u) 0 s s at f) ∙ sym (append-nil (map row below))
          ∙ ap (λ b. map row below ++ cond b (row s ∷ []) []) (sym f)
    ]

-- more rows behind others
with_rows-twice : (c : UpdateCost) (xs ys : List StepCost) → with_rows (with_rows c xs) ys ≡ with_rows c (xs ++ ys)
with_rows-twice c xs ys =
    let total : (c.total + total_again xs) + total_again ys ≡ c.total + total_again (xs ++ ys) = omega (arith, sum_by-append (λ (r : StepCost). r.row.cost) xs ys) in
    (λ i. record { rows = append_assoc c.rows xs ys i; total = total i })

-- the rows of one superstep more
pub rows_more : (old : Option Run) (new : Run) (u : Update) (s : ℕ) (c now next : UpdateCost) → now ≡ with_rows c (rows_below old new u s) → next ≡ with_rows now (row_of old new u s)
    → next ≡ with_rows c (rows_below old new u (s + 1))
rows_more old new u s c now next before row =
    row ∙ ap (λ (x : UpdateCost). with_rows x (row_of old new u s)) before ∙ with_rows-twice c (rows_below old new u s) (row_of old new u s)
    ∙ ap (with_rows c) (sym (rows_below-more old new u s))
