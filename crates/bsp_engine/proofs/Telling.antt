-- What is told of a run.
use Rattle.std.proofs.Common.{◌≡◌, ℕ, Result, Ok, Err, OnOk, List, [], ◌∷◌, ◌++◌, append_assoc, codes, ap, ◌∙◌}
use Rattle.bsp_model.specs.declared.cost.CostRow.{CostRow}
use Rattle.bsp_run.specs.declared.result.RunResult.{RunResult}
use Rattle.bsp_run.specs.Run.{Run}
use Rattle.bsp_run.specs.Result.{costs_of, lines_of, memories_of, result_of, status_of, total_of}
use Rattle.bsp_engine.specs.Inside.Touched.{cost_changes}
use Rattle.bsp_engine.specs.Changes.{changes_lines, changes_of, other_lines, others, piece_if, same_lines, same_row}
use Rattle.bsp_model.specs.Same.{same_words}
use Rattle.bsp_text.specs.Lines.{line, numbered}
use Rattle.bsp_engine.specs.Text.{cost_line, memory_line, print_lines, result_lines, status_lines}
use Rattle.bsp_engine.proofs.Changed.{all_told}

-- all of a result, of which nothing was told before
pub result_told : {E : Type 0} (r : Result (Unit {0}) E) (run : RunResult) (lines : List (List (List ℕ))) (costs : List CostRow) (t0 t1 t2 t3 t4 t5 : List ℕ) → lines ≡ run.lines → costs ≡ run.costs
    → t1 ≡ t0 ++ status_lines run.status → t2 ≡ t1 ++ numbered (piece_if memory_line) 0 (others same_words [] run.memories) → t3 ≡ t2 ++ numbered print_lines 0 lines
    → t4 ≡ t3 ++ numbered (piece_if cost_line) 0 (others same_row [] costs) → OnOk r (t5 ≡ t4 ++ line (codes "total") (run.total ∷ [])) → OnOk r (t5 ≡ t0 ++ result_lines run)
result_told (Ok u) run lines costs t0 t1 t2 t3 t4 t5 l k a b c d e =
    let memory = numbered memory_line 0 run.memories in
    let printed = numbered print_lines 0 run.lines in
    let priced = numbered cost_line 0 run.costs in
    let total = line (codes "total") (run.total ∷ []) in
    let two : t2 ≡ t1 ++ memory = b ∙ ap (λ t. t1 ++ t) (all_told memory_line same_words 0 run.memories) in
    let three : t3 ≡ t2 ++ printed = c ∙ ap (λ (ls : List (List (List ℕ))). t2 ++ numbered print_lines 0 ls) l in
    let four : t4 ≡ t3 ++ priced = d ∙ ap (λ t. t3 ++ t) (all_told cost_line same_row 0 costs ∙ ap (λ (rows : List CostRow). numbered cost_line 0 rows) k) in
    e ∙ ap (λ t. t ++ total) (four ∙ ap (λ t. t ++ priced) (three ∙ ap (λ t. t ++ printed) (two ∙ ap (λ t. t ++ memory) a))) ∙ simp append_assoc
result_told (Err x) run lines costs t0 t1 t2 t3 t4 t5 l k a b c d e = tt

-- what of a run is another than in the previous run
pub changes_told : {E : Type 0} (r : Result (Unit {0}) E) (old new : Run) (olds news : List CostRow) (total : ℕ) (t0 t1 t2 t3 t4 : List ℕ) → olds ≡ costs_of old → news ≡ costs_of new → total ≡ total_of (costs_of new) → t1 ≡ t0 ++ status_lines (status_of new)
    → t2 ≡ t1 ++ numbered (piece_if memory_line) 0 (others same_words (memories_of old) (memories_of new)) → t3 ≡ t2 ++ numbered (piece_if other_lines) 0 (others same_lines (lines_of old) (lines_of new))
    → OnOk r (t4 ≡ t3 ++ cost_changes olds news total) → OnOk r (t4 ≡ t0 ++ changes_lines (changes_of (result_of old) (result_of new)))
unfolding result_of
changes_told (Ok u) old new olds news total t0 t1 t2 t3 t4 o n s a b c d =
    let memories = numbered (piece_if memory_line) 0 (others same_words (memories_of old) (memories_of new)) in
    let lines = numbered (piece_if other_lines) 0 (others same_lines (lines_of old) (lines_of new)) in
    let costs = cost_changes (costs_of old) (costs_of new) (total_of (costs_of new)) in
    d ∙ (λ i. t3 ++ cost_changes (o i) (n i) (s i)) ∙ ap (λ t. t ++ costs) (c ∙ ap (λ t. t ++ lines) (b ∙ ap (λ t. t ++ memories) a)) ∙ simp append_assoc
changes_told (Err x) old new olds news total t0 t1 t2 t3 t4 o n s a b c d = tt
