use Rattle.std.proofs.Common.{ℕ, ◌<◌}
use Rattle.bsp_step.specs.OutcomeParts.{outcome_of}
use Rattle.bsp_deliver.specs.Inside.Comparison.{HasSameParcel}
use Rattle.bsp_deliver.proofs.parcels.parcel_same.Given as goal

-- the senders so far put and send the same
abbrev pub invariant-loop-sender : goal.invariant-loop-sender
invariant-loop-sender l = (k : ℕ) → k < l.sender → HasSameParcel l.d (outcome_of l.old k) (outcome_of l.new k)
