use Rattle.std.proofs.Common.{◌≡◌, ◌≤◌, ◌-◌, drop, take}
use Rattle.bsp_model.proofs.memory_ref.MemoryRef.has_same_words.Given as goal

-- the words so far are the same
abbrev pub invariant-loop-done : goal.invariant-loop-done
invariant-loop-done l = record { within : l.done ≤ l.len; same : take l.done (drop l.start l.self) ≡ take l.done (drop l.other_start l.other) }

abbrev pub decreases-loop-done : goal.decreases-loop-done
decreases-loop-done l = l.len - l.done
