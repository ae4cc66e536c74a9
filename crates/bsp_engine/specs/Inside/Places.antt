-- Places that private functions go over.
use Rattle.std.specs.Prelude.{ℕ, ◌==◌, List, [], ◌∷◌, ◌++◌, if◌then◌else◌}
use Rattle.bsp_incr.specs.declared.reply.Place.{Place}
use Rattle.bsp_text.specs.Lines.{field}

-- what a place adds after one of this superstep: its process, on a line of its own superstep if that is another
abbrev pub place_after : List ℕ → ℕ → Place → List ℕ
place_after word step p = (if p.step == step then [] else 10 ∷ word ++ field p.step) ++ field p.pid
