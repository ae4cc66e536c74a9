-- The run of heat in a rod.
use Rattle.std.proofs.Common.{◌≡◌, ◌<◌, ◌-◌, ◌%◌, ◌^◌, ◌∙◌, ℕ, zero, suc, List, [], ◌∷◌, length, sum, arith, ap, refl, sym}
use Rattle.bsp_model.specs.declared.input.Input.{Input}
use Rattle.bsp_step.specs.OutcomeParts.{OutcomeParts, outcome_of}
use Rattle.bsp_deliver.specs.Requests.{each_below}
use Rattle.bsp_run.specs.declared.result.Status.TheVariants.{Halted}
use Rattle.bsp_run.specs.Law.{outcomes_in}
use Rattle.bsp_run.specs.Result.{costs_of, lines_of, memories_of, status_of, total_of}
use Rattle.bsp_run.specs.Run.{Run, run}
use Rattle.bsp_right.proofs.ActsPerformed.{stored_after, stored_before}
use Rattle.bsp_right.proofs.EndedRuns.{lines-ended, memories-ended}
use Rattle.bsp_right.proofs.Ranges.{range-agree}
use Rattle.bsp_right.proofs.RunsFromSupersteps.{ended_at}
use Rattle.bsp_right.proofs.WordsWritten.{outcome_of-each_below}
use Rattle.heat.specs.Heat.{next_cell_at}
use Rattle.heat.specs.Rod.{IsAdvanced, IsRodInput, costs_advanced, heat_turn, memory_advanced, piece_of, rod_of, sum_advanced}
use Rattle.heat.proofs.Pieces.{length-piece_of, word-piece_of}
use Rattle.heat.proofs.Joined.{is_between, own_cells-held, rod_of-held}
use Rattle.heat.proofs.HeatTurns.{registers}
use Rattle.heat.proofs.HeatSupersteps.{Hold-left, dealt_input, first_of, heat_run, last_step, memory_left, printed, rod_after, step_at, step_zero, told}
use Rattle.heat.proofs.HeatCosts.{costs_are_advanced, total_advanced}

-- no lines before the last superstep
silent : (input : Input) (steps : ℕ) → IsRodInput input steps → (s p : ℕ) → s < suc steps → p < length input.mems → (outcome_of (outcomes_in heat_turn input s) p).lines ≡ []
silent input steps h zero p l m =
    ap (λ os. (outcome_of os p).lines) (step_zero input steps h).outcomes ∙ ap (λ (o : OutcomeParts). o.lines) (outcome_of-each_below (registers (first_of input)) (length input.mems) p m)
silent input steps h (suc t) p l m =
    ap (λ os. (outcome_of os p).lines) (step_at input steps t h (omega arith)).outcomes ∙ ap (λ (o : OutcomeParts). o.lines) (outcome_of-each_below (told input t) (length input.mems) p m)

-- the memories at the end
is_advanced : (input : Input) (steps : ℕ) → IsRodInput input steps → (t p : ℕ) → p < length input.mems → memory_left input t p ≡ memory_advanced input.mems t p
is_advanced input steps h zero p l = refl
is_advanced input steps h (suc t) p l =
    let dealt = dealt_input input steps h in
    let held = Hold-left input steps h (suc t) in
    let outer : List ℕ = piece_of input.mems (rod_after input t) p in
    let now : List ℕ = piece_of input.mems (rod_after input (suc t)) p in
    let left : List ℕ = memory_left input (suc t) p in
    let size : length left ≡ length (first_of input p) = held.lengths p l in
    let size_outer : length outer ≡ length (first_of input p) = length-piece_of input.mems (rod_after input t) p dealt (Hold-left input steps h t).long l in
    let size_now : length now ≡ length (first_of input p) = length-piece_of input.mems (rod_after input (suc t)) p dealt held.long l in
    let long = dealt.words p l in
    is_between left outer now (omega arith) (omega arith) (omega arith)
    (stored_before (next_cell_at outer) 1 (length outer - 2) outer 0 (omega arith))
    (stored_after (next_cell_at outer) 1 (length outer - 2) outer (length left - 1) (omega arith))
    (λ a some before. held.cells p a l some (omega arith) ∙ sym (word-piece_of input.mems (rod_after input (suc t)) p a (omega arith)))

lines_printed : (input : Input) (steps : ℕ) → IsRodInput input steps → lines_of (ended_at heat_turn input (suc steps) Halted) ≡ each_below (length input.mems) (λ p. (sum_advanced input.mems steps p ∷ []) ∷ [])
lines_printed input steps h =
    let n = length input.mems in
    lines-ended heat_turn input (suc steps) (λ p. (sum_advanced input.mems steps p ∷ []) ∷ []) (silent input steps h) (λ p l.
    ap (λ os. (outcome_of os p).lines) (last_step input steps h).outcomes
    ∙ ap (λ (o : OutcomeParts). o.lines) (outcome_of-each_below (printed input steps) n p l)
    ∙ ap (λ (cells : List ℕ). (sum cells % 2 ^ 64 ∷ []) ∷ []) (own_cells-held input.mems (rod_after input steps) (memory_left input steps) p (dealt_input input steps h) (Hold-left input steps h steps) l))

-- Heat in a rod advances it.
pub heat_advances : (input : Input) (steps : ℕ) → IsRodInput input steps → IsAdvanced input steps (run heat_turn input)
heat_advances input steps h =
    let n = length input.mems in
    let is = heat_run input steps h in
    let memories : memories_of (run heat_turn input) ≡ each_below n (memory_left input steps) = ap (λ (r : Run). memories_of r) is ∙ memories-ended heat_turn input (suc steps) n (printed input steps) (last_step input steps h).outcomes in
    let costs : costs_of (run heat_turn input) ≡ costs_advanced input steps = ap costs_of is ∙ costs_are_advanced input steps h in
    record {
      status = ap (λ (r : Run). status_of r) is;
      rod = ap rod_of memories ∙ rod_of-held input.mems (rod_after input steps) (memory_left input steps) (dealt_input input steps h) (Hold-left input steps h steps);
      memories = memories ∙ range-agree (memory_left input steps) (memory_advanced input.mems steps) n 0 (λ p _ m. is_advanced input steps h steps p (omega arith));
      lines = ap lines_of is ∙ lines_printed input steps h;
      costs = costs;
      total = ap total_of costs ∙ total_advanced input steps;
    }
