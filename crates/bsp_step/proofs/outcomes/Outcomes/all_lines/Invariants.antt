use Rattle.std.proofs.Common.{◌≡◌, ◌<◌, ◌≤◌, ℕ, []}
use Rattle.bsp_model.specs.Columns.{row_at}
use Rattle.bsp_step.specs.OutcomeParts.{outcome_of}
use Rattle.bsp_step.proofs.outcomes.Outcomes.all_lines.Given as goal

-- the processes below this one have their lines, and the others none
abbrev pub invariant-loop-pid : goal.invariant-loop-pid
invariant-loop-pid l = record {
  made : (p : ℕ) → p < l.pid → row_at l.lines p ≡ (outcome_of l.self p).lines;
  left : (p : ℕ) → l.pid ≤ p → row_at l.lines p ≡ [];
}
