use Rattle.std.proofs.Common.{◌≡◌, ◌≤◌, ◌-◌, ◌++◌, filter, length}
use Rattle.std.specs.List.{range_with_len}
use Rattle.bsp_causes.specs.TurnCauses.{is_other_word}
use Rattle.bsp_causes.proofs.turns.add_other_words.Given as goal

-- of the words so far the others are added
abbrev pub invariant-loop-address : goal.invariant-loop-address
invariant-loop-address g l = record {
  inside : l.address ≤ length l.old.memory;
  added : l.words ≡ l.initial.words ++ filter (is_other_word (g.P.Program.looks l.program l.old) l.old.memory l.new.memory) (range_with_len 0 l.address);
}

abbrev pub decreases-loop-address : goal.decreases-loop-address
decreases-loop-address g l = length l.old.memory - l.address
