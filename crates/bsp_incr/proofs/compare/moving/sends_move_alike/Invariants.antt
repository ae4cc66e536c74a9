use Rattle.std.proofs.Common.{◌≡◌, ℕ, map, take}
use Rattle.bsp_deliver.specs.Cost.{send_transfer}
use Rattle.bsp_incr.proofs.compare.moving.sends_move_alike.Given as goal

-- the sends so far move alike
abbrev pub invariant-loop-place : goal.invariant-loop-place
invariant-loop-place l = (sender : ℕ) → map (send_transfer sender) (take l.place l.old) ≡ map (send_transfer sender) (take l.place l.new)
