use Rattle.std.proofs.Common.{◌≡◌, ℕ, map, take}
use Rattle.bsp_deliver.specs.Cost.{get_transfer}
use Rattle.bsp_incr.proofs.compare.moving.gets_move_alike.Given as goal

-- the gets so far move alike
abbrev pub invariant-loop-place : goal.invariant-loop-place
invariant-loop-place l = (sender : ℕ) → map (get_transfer sender) (take l.place l.old) ≡ map (get_transfer sender) (take l.place l.new)
