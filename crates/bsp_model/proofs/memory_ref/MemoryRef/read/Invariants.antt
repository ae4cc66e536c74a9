use Rattle.std.proofs.Common.{◌≡◌, ◌≤◌, ◌-◌, length, take, drop}
use Rattle.bsp_model.proofs.memory_ref.MemoryRef.read.Given as goal

-- the words so far are those from the start on
abbrev pub invariant-loop-copied : goal.invariant-loop-copied
invariant-loop-copied l =
    record { within : l.copied ≤ length l.words; same : take l.copied l.words ≡ take l.copied (drop l.start l.self) }

abbrev pub decreases-loop-copied : goal.decreases-loop-copied
decreases-loop-copied l = length l.words - l.copied
