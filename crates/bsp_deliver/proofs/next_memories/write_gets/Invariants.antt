use Rattle.std.proofs.Common.{◌≡◌, [], take, map, set, get_or}
use Rattle.bsp_deliver.specs.Requests.{words_read}
use Rattle.bsp_deliver.specs.Delivery.{get_write}
use Rattle.bsp_deliver.specs.Inside.Gathering.{overlay}
use Rattle.bsp_deliver.proofs.next_memories.write_gets.Given as goal

-- the words of the gets so far stand over the reader's memory
abbrev pub invariant-loop-get : goal.invariant-loop-get
invariant-loop-get l = l.memories ≡ set l.initial.memories l.place (overlay (get_or l.initial.memories l.place []) (map (λ g. get_write (g, words_read l.outcomes g)) (take l.get-index l.gets)))
