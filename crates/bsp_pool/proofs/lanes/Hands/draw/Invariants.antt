use Rattle.std.proofs.Common.{◌≡◌, length}
use Rattle.bsp_pool.proofs.lanes.Hands.draw.Given as goal

abbrev pub invariant-loop-passed : goal.invariant-loop-passed
invariant-loop-passed l = record {
  deal : l.self.deal ≡ l.fn.self.deal;
  lanes : length l.self.hands.items ≡ length l.fn.self.hands.items;
}
