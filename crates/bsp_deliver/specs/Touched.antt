-- To which processes a delivery depends on something else, where outcomes have changed.
use Rattle.std.specs.Prelude.{◌≡◌, ◌<◌, ◌↔◌, ℕ, Bool, true, false, List, length, slice_index_or}
use Rattle.bsp_step.specs.OutcomeParts.{OutcomeParts, outcome_of}
use Rattle.bsp_deliver.specs.Delivery.{delivery_parts}

-- A process that has no mark has the outcome that it had.
abbrev pub AreSameUnlessMarked : List OutcomeParts → List OutcomeParts → List Bool → Type 0
AreSameUnlessMarked os us marks = (p : ℕ) → p < length us → slice_index_or marks p true ≡ false → outcome_of os p ≡ outcome_of us p

-- A mark for each process: none where the delivery to it depends on the same after the one outcomes as after the others.
pub record AreTouched (os us : List OutcomeParts) (marks : List Bool) : Type 0 where
  pub count : length marks ≡ length us
  pub each : (d : ℕ) → d < length us → (slice_index_or marks d true ≡ false) ↔ (delivery_parts os d ≡ delivery_parts us d)
