use Rattle.std.proofs.Common.{◌≤◌, ◌-◌, length, take}
use Rattle.bsp_engine.specs.Inside.Talk.{Says}
use Rattle.bsp_engine.proofs.conversation.say_all.Given as goal

abbrev pub invariant-loop-at : goal.invariant-loop-at
invariant-loop-at g l = record {
  within : l.at ≤ length l.text;
  gone : Says (g.T.Terminal.log l.initial.terminal) (g.T.Terminal.log l.terminal) (take l.at l.text);
}

abbrev pub decreases-loop-at : goal.decreases-loop-at
decreases-loop-at g l = length l.text - l.at
