use Rattle.std.proofs.Common.{◌≡◌, drop}
use Rattle.bsp_engine.specs.Asked.{is_blank}
use Rattle.bsp_engine.proofs.asked.is_blank.Given as goal

abbrev pub invariant-loop-byte : goal.invariant-loop-byte
invariant-loop-byte l = is_blank (drop l.byte-index l.line) ≡ is_blank l.line
