-- The round machine: a list of phases, each a list of inputs, worked one after the other, each in a round. This profile's own.
use Rattle.std.specs.Prelude.{◌≡◌, ℕ, ◌+◌, ◌≤◌, nat_lt, if◌then◌else◌, List, [], ◌∷◌, ◌++◌, length, map, take, slice_get, slice_index_or, Option, Some, None, option_map}
use Rattle.std.specs.List.{list_all}
use Rattle.bsp_pool.specs.declared.machine.Event.{Event}
use Rattle.bsp_pool.specs.declared.machine.Event.TheVariants.{Draw, Ran, Left, Turn}
use Rattle.bsp_pool.specs.Rounds.{RoundParts, opened, after_draw, after_run, after_leave, is_gone, finished, IsRoundSound}

-- The machine: its work, all phases, the outputs committed so far, and the round of the open phase, which is the first
-- one that isn't committed
pub record Machine (Job In Out : Type 0) : Type 0 where
  pub work : Job
  pub phases : List (List In)
  pub committed : List (List Out)
  pub round : RoundParts Out

abbrev pub machine : {Job In Out : Type 0} → Job → List (List In) → List (List Out) → RoundParts Out → Machine Job In Out
machine work phases committed round = record { work = work; phases = phases; committed = committed; round = round }

-- the inputs of the open phase, none where all phases are committed
abbrev pub inputs_of : {Job In Out : Type 0} → Machine Job In Out → List In
inputs_of m = slice_index_or m.phases (length m.committed) []

-- the machine at the start
abbrev pub starting : {Job In Out : Type 0} → Job → List (List In) → ℕ → Machine Job In Out
starting work phases workers = machine work phases [] (opened (length (slice_index_or phases 0 [])) workers)

-- Turn: the outputs are committed in order, and the round of the next phase opens with all workers back
abbrev pub turned : {Job In Out : Type 0} → (In → Out) → Machine Job In Out → Machine Job In Out
turned does m = record m {
  committed = m.committed ++ finished does (inputs_of m) m.round.outputs ∷ [];
  round = opened (length (slice_index_or m.phases (length m.committed + 1) [])) (length m.round.workers);
}

abbrev pub with_round : {Job In Out : Type 0} → Machine Job In Out → RoundParts Out → Machine Job In Out
with_round m p = record m { round = p }

-- the machine after an event while a phase is open, or none where the event isn't allowed
abbrev pub round_step : {Job In Out : Type 0} → (In → Out) → Machine Job In Out → Event → Option (Machine Job In Out)
round_step does m (Draw w) = option_map (with_round m) (after_draw (length (inputs_of m)) m.round w (slice_get m.round.workers w))
round_step does m (Ran w) = option_map (with_round m) (after_run does (inputs_of m) m.round w (slice_get m.round.workers w))
round_step does m (Left w) = option_map (with_round m) (after_leave m.round w (slice_get m.round.workers w))
round_step does m Turn = if list_all is_gone m.round.workers then Some (turned does m) else None

-- the same, where nothing is allowed once all phases are committed
abbrev pub step : {Job In Out : Type 0} → (In → Out) → Machine Job In Out → Event → Option (Machine Job In Out)
step does m e = if nat_lt (length m.committed) (length m.phases) then round_step does m e else None

-- What holds after every list of events, refused ones included: the committed outputs are those of the first
-- phases, in order, and the round is sound
pub record IsSound {Job In Out : Type 0} (does : In → Out) (m : Machine Job In Out) : Type 0 where
  pub count : length m.committed ≤ length m.phases
  pub rows : m.committed ≡ map (map does) (take (length m.committed) m.phases)
  pub round : IsRoundSound does (inputs_of m) m.round
