use Rattle.std.proofs.Common.{◌≡◌, false, take}
use Rattle.std.specs.List.{list_any}
use Rattle.bsp_causes.specs.Travel.{has_requests}
use Rattle.bsp_causes.specs.Inside.Travel.{requests_in}
use Rattle.bsp_causes.proofs.travel.any_travels.Given as goal

-- no request of the processes so far travels again
abbrev pub invariant-loop-pid : goal.invariant-loop-pid
invariant-loop-pid l = list_any has_requests (take l.pid (requests_in l.redone l.before l.after l.outcomes)) ≡ false
