use Rattle.std.proofs.Common.{◌≡◌, false, take}
use Rattle.std.specs.List.{list_any}
use Rattle.bsp_causes.specs.Inside.Travel.{is_in}
use Rattle.bsp_causes.proofs.travel.any_send_to.Given as goal

-- none of the sends so far is to one of the targets
abbrev pub invariant-loop-place : goal.invariant-loop-place
invariant-loop-place l = list_any (λ m. is_in l.targets m.target) (take l.place l.sends) ≡ false
