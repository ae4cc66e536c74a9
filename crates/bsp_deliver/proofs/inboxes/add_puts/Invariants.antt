use Rattle.std.proofs.Common.{◌≡◌, ◌++◌, ◌==◌, map, filter, take}
use Rattle.bsp_deliver.proofs.inboxes.add_puts.Given as goal

-- the puts to d so far were added
abbrev pub invariant-loop-place : goal.invariant-loop-place
invariant-loop-place l = l.list ≡ l.initial.list ++ map (λ p. (l.sender, p)) (filter (λ p. p.target == l.d) (take l.place l.puts))
