-- When the recorded turn of another run serves, as a test.
use Rattle.std.specs.Prelude.{ℕ, Bool, true, Option, None, Some, ◌==◌, ◌&&◌, not, length}
use Rattle.std.specs.Cmp.Lexicographic.{pointwise}
use Rattle.bsp_step.specs.ViewParts.{ViewParts}
use Rattle.bsp_step.specs.Footprint.{same_where_looked_at}
use Rattle.bsp_table.specs.Same.{same_table}
use Rattle.bsp_model.specs.Same.{same_message, same_words}

-- views that are the same but for the words of their memories
abbrev pub same_but_for_words : ViewParts → ViewParts → Bool
same_but_for_words v w =
    (v.nprocs == w.nprocs) && (v.pid == w.pid) && (v.step == w.step) && same_words v.args w.args && same_table v.table w.table
    && (v.tag_size == w.tag_size) && pointwise same_message v.queue w.queue && (length v.memory == length w.memory)

-- The turn of the first view serves for the second (this profile): they differ at most in words at which the program does not look.
abbrev pub serves : (ViewParts → ℕ → Bool) → ViewParts → ViewParts → Bool
serves looks v w = same_but_for_words v w && same_where_looked_at (looks v) v.memory w.memory

-- A turn has to be taken where the previous run has no view of the place, or one whose turn does not serve.
abbrev pub needs_turn : (ViewParts → ℕ → Bool) → Option ViewParts → ViewParts → Bool
needs_turn looks None w = true
needs_turn looks (Some v) w = not (serves looks v w)
