-- Parts of a superstep of a run, as several workers take them.
use Rattle.std.specs.Prelude.{◌≡◌, ◌<◌, ◌≤◌, ◌+◌, ℕ, Bool, true, false, List, [], ◌++◌, All, length, map}
use Rattle.bsp_model.specs.declared.input.Input.{Input}
use Rattle.bsp_model.specs.declared.request.Message.{Message}
use Rattle.bsp_step.specs.ViewParts.{ViewParts}
use Rattle.bsp_step.specs.OutcomeParts.{OutcomeParts}
use Rattle.bsp_deliver.specs.Condition.{CanDeliver}
use Rattle.bsp_run.specs.Law.{views_in}
use Rattle.bsp_run.specs.Shares.{turns_of, deliveries_to}
use Rattle.bsp_crew.specs.declared.part.Part.{Part}
use Rattle.bsp_crew.specs.declared.task.Task.{Task}
use Rattle.bsp_crew.specs.declared.task.Task.TheVariants.{Turns, Deliveries}
use Rattle.bsp_crew.specs.declared.task.Made.{Made}
use Rattle.bsp_crew.specs.declared.task.Made.TheVariants.{Taken, Delivered}

-- This turn and these views are those of the run of an input.
pub record AreOfRun (turn : ViewParts → OutcomeParts) (input : Input) (named : ViewParts → OutcomeParts) (views : ℕ → List ViewParts) : Type 0 where
  pub same_turn : named ≡ turn
  pub same_views : (step : ℕ) → views step ≡ views_in turn input step

-- Processes of a superstep are cut in two.
pub record AreParts (part rest whole : Part) : Type 0 where
  pub step : part.step ≡ whole.step
  pub step_of_rest : rest.step ≡ whole.step
  pub processes : whole.processes.now ≡ part.processes.now ++ rest.processes.now
  pub first : part.first ≡ whole.first
  pub first_of_rest : rest.first ≡ whole.first + length part.processes.now

-- Processes that stand in a row in a list of a superstep.
pub record IsWithin (part whole : Part) : Type 0 where
  pub step : part.step ≡ whole.step
  pub before : List ℕ
  pub behind : List ℕ
  pub processes : whole.processes.now ≡ before ++ (part.processes.now ++ behind)
  pub first : part.first ≡ whole.first + length before

-- A part of a superstep in which all processes see these views: turns of some processes at the views, or deliveries to some of what all turns left.
pub record IsPart (turn : ViewParts → OutcomeParts) (vs : List ViewParts) (ps : List ℕ) (task : Task) : Type 0 where
  pub turns : (seen : List ViewParts) → task ≡ Turns seen → (seen ≡ vs) × All (λ p. p < length vs) ps
  pub deliveries : (os : List OutcomeParts) → task ≡ Deliveries os → (os ≡ map turn vs) × CanDeliver os ps

-- The turns or the deliveries of such a part.
pub record IsMade (turn : ViewParts → OutcomeParts) (vs : List ViewParts) (ps : List ℕ) (made : Made) : Type 0 where
  pub taken : (rows : List OutcomeParts) → made ≡ Taken rows → rows ≡ turns_of turn vs ps
  pub delivered : (cells : List (List ℕ × List Message)) → made ≡ Delivered cells → cells ≡ deliveries_to (map turn vs) ps

-- the turns or the deliveries so far, and behind them those of such a part
abbrev pub with_part : (ViewParts → OutcomeParts) → List ViewParts → List ℕ → Made → Made
with_part turn vs ps (Taken rows) = Taken (rows ++ turns_of turn vs ps)
with_part turn vs ps (Delivered cells) = Delivered (cells ++ deliveries_to (map turn vs) ps)

abbrev pub asks_turns : Task → Bool
asks_turns (Turns seen) = true
asks_turns (Deliveries os) = false

abbrev pub has_turns : Made → Bool
has_turns (Taken rows) = true
has_turns (Delivered cells) = false

-- no turns, or no deliveries
abbrev pub nothing_of : Task → Made
nothing_of (Turns seen) = Taken []
nothing_of (Deliveries os) = Delivered []

-- The turns of the first processes of a list, or the deliveries to them, were added to those so far. The rest of the list is left.
pub record IsLeft (turn : ViewParts → OutcomeParts) (views : ℕ → List ViewParts) (list : Part) (made : Made) (rest : Part) (more : Made) : Type 0 where
  pub step : rest.step ≡ list.step
  pub few : length rest.processes.now ≤ length list.processes.now
  pub part : (task : Task) → IsPart turn (views list.step) list.processes.now task → IsPart turn (views rest.step) rest.processes.now task
  pub alike : has_turns more ≡ has_turns made
  pub all : with_part turn (views rest.step) rest.processes.now more ≡ with_part turn (views list.step) list.processes.now made
