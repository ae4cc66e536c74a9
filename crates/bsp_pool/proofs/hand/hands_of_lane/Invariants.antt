use Rattle.std.proofs.Common.{◌≡◌, ◌+◌, []}
use Rattle.std.specs.Arc.{arc_value}
use Rattle.bsp_pool.specs.Numbers.{all_units}
use Rattle.bsp_pool.proofs.hand.hands_of_lane.Given as goal

abbrev pub invariant-loop-worker : goal.invariant-loop-worker
invariant-loop-worker l = record {
  of_deck : l.pass.deck ≡ arc_value l.deck;
  fresh : l.pass.numbers ≡ [];
  units : l.pass.units + l._worker ≡ all_units;
}
