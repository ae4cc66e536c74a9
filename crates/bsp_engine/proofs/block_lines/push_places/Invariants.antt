use Rattle.std.proofs.Common.{◌≡◌, ◌++◌, ◌∷◌, List, ℕ, drop}
use Rattle.bsp_incr.specs.declared.reply.Place.{Place}
use Rattle.bsp_text.specs.Lines.{fields}
use Rattle.bsp_engine.specs.Places.{pids_first, steps_past, by_superstep, step_lines, place_lines}
use Rattle.bsp_engine.proofs.block_lines.push_places.Given as goal

-- what places add after one of this superstep, the end of the last line included
abbrev rest_of : List ℕ → ℕ → List Place → List ℕ
rest_of word step ps = fields (pids_first step (by_superstep ps)) ++ 10 ∷ step_lines word (steps_past step (by_superstep ps))

abbrev pub invariant-loop-place : goal.invariant-loop-place
invariant-loop-place l = l.text.items ++ rest_of l.word l.step (drop l.place-index l.places) ≡ l.fn.text.items ++ place_lines l.word l.places
