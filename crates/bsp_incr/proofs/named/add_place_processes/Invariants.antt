use Rattle.std.proofs.Common.{◌≡◌, drop, map}
use Rattle.bsp_incr.specs.Named.{with_members}
use Rattle.bsp_incr.proofs.named.add_place_processes.Given as goal

-- the places that are left
abbrev pub invariant-loop-place : goal.invariant-loop-place
invariant-loop-place l = with_members l.processes (map (λ q. q.pid) (drop l.place-index l.places)) ≡ with_members l.initial.processes (map (λ q. q.pid) l.places)
