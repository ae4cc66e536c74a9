-- The memory of a process in its turn, which may still lie as it lay before.
use Rattle.std.specs.Prelude.{ℕ, List, [], length, take, if◌then◌else◌}
use Rattle.bsp_model.specs.LocalParts.{LocalParts}
use Rattle.bsp_model.specs.declared.workspace.Workspace.{Workspace}

-- Until the memory is loaded, no word is stored, and its words are those before the turn, as far as there is room for them (this profile).
abbrev pub own_memory : Workspace → List ℕ → LocalParts
own_memory w before = if w.is_loaded then w.local else record { memory = take (length w.room.items) before; stores = [] }
