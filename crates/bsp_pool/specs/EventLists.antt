-- Lists of events on a round machine. This profile's own.
use Rattle.std.specs.Prelude.{◌≡◌, ℕ, ◌+◌, List, [], ◌∷◌, length, Option, Some, None, unwrap_or}
use Rattle.bsp_pool.specs.declared.machine.Event.{Event}
use Rattle.bsp_pool.specs.declared.machine.Event.TheVariants.{Draw, Ran, Left, Turn}
use Rattle.bsp_pool.specs.Machine.{Machine, step, IsSound}

-- the machine after these events, one after the other. A refused event changes nothing
abbrev pub after_all : {Job In Out : Type 0} → (In → Out) → Machine Job In Out → List Event → Machine Job In Out
after_all does m [] = m
after_all does m (e ∷ es) = after_all does (unwrap_or (step does m e) m) es

-- the draws of the open round, where there were so many before this event: one more after a draw that was allowed, and none after a turn
abbrev pub draws_after : {M : Type 0} → Option M → Event → ℕ → ℕ
draws_after None e draws = draws
draws_after (Some _) (Draw w) draws = draws + 1
draws_after (Some _) (Ran w) draws = draws
draws_after (Some _) (Left w) draws = draws
draws_after (Some _) Turn draws = 0

-- the same over a list of events
abbrev pub draws_after_all : {Job In Out : Type 0} → (In → Out) → Machine Job In Out → List Event → ℕ → ℕ
draws_after_all does m [] draws = draws
draws_after_all does m (e ∷ es) draws = draws_after_all does (unwrap_or (step does m e) m) es (draws_after (step does m e) e draws)

-- What holds after a list of events, refused ones included: the machine is sound, so its committed outputs are those
-- of the first phases; and its next number is how many draws were made in the open round
pub record KeepsRounds {Job In Out : Type 0} (does : In → Out) (m : Machine Job In Out) (events : List Event) : Type 0 where
  pub sound : IsSound does (after_all does m events)
  pub next : length (after_all does m events).round.draws ≡ draws_after_all does m events (length m.round.draws)
