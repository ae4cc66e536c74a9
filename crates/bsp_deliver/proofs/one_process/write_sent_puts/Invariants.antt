use Rattle.std.proofs.Common.{◌≡◌, take, map}
use Rattle.bsp_deliver.specs.Delivery.{put_write}
use Rattle.bsp_deliver.specs.Inside.Gathering.{overlay}
use Rattle.bsp_deliver.proofs.one_process.write_sent_puts.Given as goal

-- the puts so far stand over the memory
abbrev pub invariant-loop-put : goal.invariant-loop-put
invariant-loop-put l = l.memory ≡ overlay l.initial.memory (map put_write (take l.put-index l.puts))
