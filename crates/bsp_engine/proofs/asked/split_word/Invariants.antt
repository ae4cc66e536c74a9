use Rattle.std.proofs.Common.{◌≡◌, ◌++◌, drop, take}
use Rattle.bsp_engine.specs.Asked.{behind_word, first_word}
use Rattle.bsp_engine.proofs.asked.split_word.Given as goal

abbrev pub invariant-loop-at : goal.invariant-loop-at
invariant-loop-at l = record {
  word : take l.at l.text ++ first_word (drop l.at l.text) ≡ first_word l.text;
  rest : behind_word (drop l.at l.text) ≡ behind_word l.text;
}
