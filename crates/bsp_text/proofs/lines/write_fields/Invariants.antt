use Rattle.std.proofs.Common.{◌≡◌, ◌≤◌, ◌+◌, ◌*◌, ◌++◌, ℕ, List, length, drop}
use Rattle.bsp_text.specs.Lines.{fields}
use Rattle.bsp_text.proofs.lines.write_fields.Given as goal

-- the first numbers are left, and there is room for them
pub record IsUnderWay (numbers initial room : List ℕ) (end left at : ℕ) : Type 0 where
  pub few : left ≤ length numbers
  pub before : at ≤ end
  pub short : end + 21 * left ≤ at + 21 * length numbers
  pub fits : 21 * left ≤ at
  pub written : drop at room ≡ fields (drop left numbers) ++ drop end initial

abbrev pub invariant-loop-left : goal.invariant-loop-left
invariant-loop-left l = IsUnderWay l.numbers l.initial.room l.room l.end l.left l.at

abbrev pub decreases-loop-left : goal.decreases-loop-left
decreases-loop-left l = l.left
