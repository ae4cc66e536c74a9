use Rattle.std.proofs.Common.{◌≡◌, ◌+◌, ◌++◌, drop, length}
use Rattle.bsp_model.specs.StoredRanges.{ranges_stored}
use Rattle.bsp_model.specs.Stores.{words_stored}
use Rattle.bsp_text.specs.TurnLines.{store_lines}
use Rattle.bsp_text.proofs.Showing.{words_in}
use Rattle.bsp_text.proofs.turn_lines.push_stores.Given as goal

abbrev pub invariant-loop-range : goal.invariant-loop-range
invariant-loop-range l = record {
  count : l.from + words_in (drop l.range-index (ranges_stored l.stores)) ≡ length l.stores;
  text : l.text.items ++ store_lines (drop l.range-index (ranges_stored l.stores)) (drop l.from (words_stored l.stores))
      ≡ l.initial.text.items ++ store_lines (ranges_stored l.stores) (words_stored l.stores);
}
