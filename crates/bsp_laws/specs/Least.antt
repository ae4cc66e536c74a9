-- Why no fewer turns can be taken again.
use Rattle.std.specs.Prelude.{◌≢◌, ℕ, Bool, List}
use Rattle.bsp_model.specs.declared.fault.End.{End}
use Rattle.bsp_step.specs.ViewParts.{ViewParts, IsView}
use Rattle.bsp_step.specs.Act.{Act}
use Rattle.bsp_step.specs.Footprint.{AreAlike, IsFootprint}
use Rattle.bsp_step.specs.Turn.{turn_of}

-- A program with this footprint whose turn at the one view ends otherwise than at the other.
pub record TellsApart (looks : ViewParts → ℕ → Bool) (v w : ViewParts) : Type 0 where
  pub acts : ViewParts → List Act
  pub ending : ViewParts → End
  pub footprint : IsFootprint acts ending looks
  pub other : (turn_of acts ending v).ended ≢ (turn_of acts ending w).ended

-- Where a turn does not serve, none may be taken over by views and footprint alone: some program with the same footprint tells the views apart.
abbrev pub NoTurnServesMore : Type 0
NoTurnServesMore =
    (acts : ViewParts → List Act) (ending : ViewParts → End) (looks : ViewParts → ℕ → Bool) → IsFootprint acts ending looks
    → (v w : ViewParts) → IsView v → IsView w → (AreAlike (looks v) v w → ⊥) → TellsApart looks v w
