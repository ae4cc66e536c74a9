use Rattle.std.proofs.Common.{◌≡◌, ◌++◌, ◌==◌, map, filter, take}
use Rattle.bsp_deliver.proofs.inboxes.add_sends.Given as goal

-- the messages to d so far were added
abbrev pub invariant-loop-place : goal.invariant-loop-place
invariant-loop-place l = l.list ≡ l.initial.list ++ map (λ m. (l.sender, m)) (filter (λ m. m.target == l.d) (take l.place l.sends))
