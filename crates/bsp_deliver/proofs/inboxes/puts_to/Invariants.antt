use Rattle.std.proofs.Common.{◌≡◌, ◌==◌, take, filter}
use Rattle.bsp_deliver.specs.Requests.{all_puts}
use Rattle.bsp_deliver.proofs.inboxes.puts_to.Given as goal

-- the puts to d of the senders so far
abbrev pub invariant-loop-sender : goal.invariant-loop-sender
invariant-loop-sender l = l.puts ≡ filter (λ p. p.1.target == l.d) (all_puts (take l.sender l.outcomes))
