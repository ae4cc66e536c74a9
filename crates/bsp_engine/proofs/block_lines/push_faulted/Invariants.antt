use Rattle.std.proofs.Common.{◌≡◌, ◌++◌, take}
use Rattle.std.specs.List.{flat_map}
use Rattle.bsp_engine.specs.Text.{process_fault_line}
use Rattle.bsp_engine.proofs.block_lines.push_faulted.Given as goal

abbrev pub invariant-loop-fault : goal.invariant-loop-fault
invariant-loop-fault l = l.text.items ≡ l.initial.text.items ++ flat_map process_fault_line (take l.fault-index l.faults)
