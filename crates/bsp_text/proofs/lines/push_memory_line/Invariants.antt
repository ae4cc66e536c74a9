use Rattle.std.proofs.Common.{◌≡◌, ◌≤◌, ◌-◌, ◌++◌, length, take}
use Rattle.bsp_text.specs.Lines.{fields}
use Rattle.bsp_text.proofs.lines.push_memory_line.Given as goal

abbrev pub invariant-loop-address : goal.invariant-loop-address
invariant-loop-address l = record {
  within : l.address ≤ length l.memory;
  text : l.text.items ≡ l.initial.text.items ++ fields (take l.address l.memory);
}

abbrev pub decreases-loop-address : goal.decreases-loop-address
decreases-loop-address l = length l.memory - l.address
