use Rattle.std.proofs.Common.{◌≡◌, ◌++◌, drop}
use Rattle.bsp_laws.specs.Batches.{last_edits}
use Rattle.bsp_laws.proofs.batches.coalesce.Given as goal

-- what was kept so far, and what will be
abbrev pub invariant-loop-k : goal.invariant-loop-k
invariant-loop-k l = l.last ++ last_edits (drop l.k l.edits) ≡ last_edits l.edits
