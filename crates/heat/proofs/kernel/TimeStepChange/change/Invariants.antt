use Rattle.std.proofs.Common.{◌≡◌, ◌++◌, ◌∷◌, [], get_or, length, map, take}
use Rattle.std.specs.List.{range_with_len}
use Rattle.heat.specs.Heat.{next_cell_at}
use Rattle.heat.proofs.kernel.TimeStepChange.change.Given as goal

-- the word before the next cell, and the cells so far
abbrev pub invariant-loop-i : goal.invariant-loop-i
invariant-loop-i l =
    let block = l.initial.self.before ∷ l.cells ++ l.initial.self.after ∷ [] in
    record {
      before : l.before ≡ get_or block l.i 0;
      made : take l.i l.next ≡ map (next_cell_at block) (range_with_len 1 l.i);
      many : length l.next ≡ length l.cells;
    }
