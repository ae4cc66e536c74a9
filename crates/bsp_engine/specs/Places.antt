-- The places of an update, as `--places` tells them (this profile).
use Rattle.std.specs.Prelude.{ℕ, ◌==◌, List, [], ◌∷◌, if◌then◌else◌}
use Rattle.std.specs.List.{flat_map}
use Rattle.bsp_incr.specs.declared.reply.Place.{Place}
use Rattle.bsp_text.specs.Lines.{line}

-- a superstep, and processes
pub record StepPids : Type 0 where
  pub step : ℕ
  pub pids : List ℕ

-- the processes of the first superstep, if it is this one
abbrev pub pids_first : ℕ → List StepPids → List ℕ
pids_first step [] = []
pids_first step (s ∷ later) = if s.step == step then s.pids else []

-- the supersteps without the first, if it is this one
abbrev pub steps_past : ℕ → List StepPids → List StepPids
steps_past step [] = []
steps_past step (s ∷ later) = if s.step == step then later else s ∷ later

-- Each superstep with its processes: places that follow one another and are of one superstep come together.
abbrev pub by_superstep : List Place → List StepPids
by_superstep [] = []
by_superstep (p ∷ ps) =
    let later = by_superstep ps in
    record { step = p.step; pids = p.pid ∷ pids_first p.step later } ∷ steps_past p.step later

-- `WORD S P P ..` for each superstep
abbrev pub step_lines : List ℕ → List StepPids → List ℕ
step_lines word steps = flat_map (λ s. line word (s.step ∷ s.pids)) steps

abbrev pub place_lines : List ℕ → List Place → List ℕ
place_lines word places = step_lines word (by_superstep places)
