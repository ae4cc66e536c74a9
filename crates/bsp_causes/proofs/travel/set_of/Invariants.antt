use Rattle.std.proofs.Common.{◌≡◌, ℕ, ◌<◌, false, get_or, length, take}
use Rattle.bsp_model.specs.Limits.{most_processes}
use Rattle.bsp_causes.specs.Inside.Walk.{processes_of}
use Rattle.bsp_causes.specs.UpdateCost.{is_one_of}
use Rattle.bsp_causes.proofs.travel.set_of.Given as goal

-- the processes of the places so far are in the set
abbrev pub invariant-loop-place : goal.invariant-loop-place
invariant-loop-place l = record {
  count : length l.set ≡ most_processes;
  members : (p : ℕ) → p < most_processes → get_or l.set p false ≡ is_one_of (processes_of (take l.place-index l.places)) p;
}
