-- What the workers of a phase make. This profile's own.
use Rattle.std.specs.Prelude.{◌≡◌, ℕ, List, Some, slice_get, All, map}

-- outputs of the inputs with these numbers, in order. outs are the outputs of all inputs
abbrev pub AreOutputs : {T : Type 0} → List T → List ℕ → List T → Type 0
AreOutputs outs numbers outputs = map (slice_get outs) numbers ≡ map Some outputs

-- inputs that a work accepts, and what it gives for them
pub record IsPhase {In Out : Type 0} (accepts : In → Type 0) (does : In → Out) (inputs : List In) (outs : List Out) : Type 0 where
  pub accepted : All accepts inputs
  pub outputs : outs ≡ map does inputs
