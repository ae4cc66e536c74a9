use Rattle.std.proofs.Common.{◌≡◌, ◌<◌, ◌^◌, drop}
use Rattle.bsp_engine.specs.Asked.{number_after}
use Rattle.bsp_engine.proofs.asked.number_of.Given as goal

abbrev pub invariant-loop-byte : goal.invariant-loop-byte
invariant-loop-byte l = record {
  fits : l.number < 2 ^ 64;
  same : number_after l.number (drop l.byte-index l.word) ≡ number_after 0 l.word;
}
