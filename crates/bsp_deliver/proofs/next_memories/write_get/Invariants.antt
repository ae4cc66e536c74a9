use Rattle.std.proofs.Common.{◌≡◌, ◌≤◌, ◌-◌, [], take, set, get_or}
use Rattle.bsp_model.specs.Memory.{memory_written}
use Rattle.bsp_deliver.specs.Requests.{words_read}
use Rattle.bsp_deliver.proofs.next_memories.write_get.Given as goal

-- the first words that the get reads stand in the reader's memory
abbrev pub invariant-loop-done : goal.invariant-loop-done
invariant-loop-done l = record {
  within : l.done ≤ l.get.len;
  written : l.memories ≡ set l.initial.memories l.place (memory_written (get_or l.initial.memories l.place []) l.get.into (take l.done (words_read l.outcomes l.get)));
}

abbrev pub decreases-loop-done : goal.decreases-loop-done
decreases-loop-done l = l.get.len - l.done
