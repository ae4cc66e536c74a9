use Rattle.std.proofs.Common.{◌≡◌, ◌≤◌, ◌+◌, ◌-◌, take, drop}
use Rattle.bsp_model.specs.Stores.{records, made_again}
use Rattle.bsp_model.proofs.stores_ref.write_range.Given as goal

-- the words that are left, written, give what all of them give
abbrev pub invariant-loop-done : goal.invariant-loop-done
invariant-loop-done l =
    record {
      within : l.done ≤ l.range.len;
      same : made_again l.memory (records (l.range.start + l.done) (take (l.range.len - l.done) (drop (l.range.start + l.done) l.source)))
          ≡ made_again l.initial.memory (records l.range.start (take l.range.len (drop l.range.start l.source)));
    }

abbrev pub decreases-loop-done : goal.decreases-loop-done
decreases-loop-done l = l.range.len - l.done
