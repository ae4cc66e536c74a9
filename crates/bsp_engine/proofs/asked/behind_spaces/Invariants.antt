use Rattle.std.proofs.Common.{◌≡◌, drop}
use Rattle.bsp_engine.specs.Asked.{behind_spaces}
use Rattle.bsp_engine.proofs.asked.behind_spaces.Given as goal

abbrev pub invariant-loop-at : goal.invariant-loop-at
invariant-loop-at l = behind_spaces (drop l.at l.text) ≡ behind_spaces l.text
