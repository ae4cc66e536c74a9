-- The lines of what a process saw in a superstep (this profile).
use Rattle.std.specs.Prelude.{ℕ, List, [], ◌∷◌, ◌++◌, length, slice_get, codes, Option, None, Some}
use Rattle.std.specs.List.{flat_map}
use Rattle.bsp_model.specs.declared.request.Message.{Message}
use Rattle.bsp_table.specs.declared.area.Area.{Area}
use Rattle.bsp_step.specs.ViewParts.{ViewParts}
use Rattle.bsp_text.specs.Lines.{line, numbered}

-- `message N T .. W ..`: the number of words of the tag, the tag, and the payload
abbrev pub message_line : Message → List ℕ
message_line m = line (codes "message") (length m.tag ∷ m.tag ++ m.words)

-- `slot K START LEN`
abbrev pub area_line : ℕ → Option Area → List ℕ
area_line slot None = []
area_line slot (Some area) = line (codes "slot") (slot ∷ area.start ∷ area.len ∷ [])

-- the own area of a process in a slot
abbrev pub slot_line : ℕ → ℕ → List Area → List ℕ
slot_line pid slot areas = area_line slot (slice_get areas pid)

-- the lines of a view: arguments, memory, queue, table and tag size
abbrev pub view_lines : ViewParts → List ℕ
view_lines v =
    line (codes "args") v.args ++ line (codes "memory") v.memory ++ flat_map message_line v.queue
    ++ numbered (slot_line v.pid) 0 v.table ++ line (codes "tagsize") (v.tag_size ∷ [])

-- the same between the lines `view S P` and `end`
abbrev pub view_block : ℕ → ℕ → ViewParts → List ℕ
view_block step pid v = line (codes "view") (step ∷ pid ∷ []) ++ view_lines v ++ codes "end\n"
