use Rattle.std.proofs.Common.{◌≡◌, drop}
use Rattle.bsp_model.specs.Stores.{made_again}
use Rattle.bsp_model.specs.Inside.Ranges.{stores_of, AreRanges}
use Rattle.bsp_model.proofs.stores_ref.write_ranges.Given as goal

-- the stores that are left, made again, give what all of them give
abbrev pub invariant-loop-range : goal.invariant-loop-range
invariant-loop-range l =
    record {
      left : AreRanges (drop l.range-index l.ranges) l.values;
      same : made_again l.memory (stores_of (drop l.range-index l.ranges) l.values) ≡ made_again l.initial.memory (stores_of l.ranges l.initial.values);
    }
