-- What all processes of a superstep see alike, read off their views.
use Rattle.std.specs.Prelude.{◌≡◌, ◌<◌, ℕ, List, map, length, slice_index_or}
use Rattle.bsp_step.specs.ViewParts.{ViewParts}
use Rattle.bsp_step.specs.OutcomeParts.{OutcomeParts}
use Rattle.bsp_run.specs.declared.setting.Setting.{Setting}
use Rattle.bsp_run.specs.declared.phase.Phase.TheVariants.{Open, Turned}
use Rattle.bsp_run.specs.Run.{Run, open_views}
use Rattle.bsp_run.specs.Condition.{AreOutcomesOf, IsRun, no_view}

-- Each process sees the setting.
pub record IsSettingOf (vs : List ViewParts) (setting : Setting) : Type 0 where
  pub args : map (λ v. v.args) vs ≡ setting.args
  pub step : (p : ℕ) → p < length vs → (slice_index_or vs p no_view).step ≡ setting.step
  pub table : (p : ℕ) → p < length vs → (slice_index_or vs p no_view).table ≡ setting.table
  pub tag_size : (p : ℕ) → p < length vs → (slice_index_or vs p no_view).tag_size ≡ setting.tag_size

-- A run whose turns are taken, what the processes see in it, and the outcomes.
pub record AreTurned (r : Run) (vs : List ViewParts) (os : List OutcomeParts) : Type 0 where
  pub run : IsRun r
  pub phase : r.phase ≡ Turned
  pub views : vs ≡ open_views r
  pub outcomes : r.outcomes ≡ os

-- The open superstep of a run, in which the processes see these views, and the outcomes of its turns.
pub record HaveTurns (r : Run) (vs : List ViewParts) (os : List OutcomeParts) : Type 0 where
  pub run : IsRun r
  pub phase : r.phase ≡ Open
  pub views : vs ≡ open_views r
  pub turns : AreOutcomesOf (open_views r) os
