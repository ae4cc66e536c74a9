use Rattle.std.proofs.Common.{◌≡◌, ℕ, map, take}
use Rattle.bsp_deliver.specs.Cost.{put_transfer}
use Rattle.bsp_incr.proofs.compare.moving.puts_move_alike.Given as goal

-- the puts so far move alike
abbrev pub invariant-loop-place : goal.invariant-loop-place
invariant-loop-place l = (sender : ℕ) → map (put_transfer sender) (take l.place l.old) ≡ map (put_transfer sender) (take l.place l.new)
