-- The lines that can be typed in a live session (this profile).
use Rattle.std.specs.Prelude.{ℕ, List, ◌++◌, codes}

-- between the lines `help` and `end`
unfoldable pub help_block : List ℕ
help_block =
    codes "help\n"
    ++ codes "[EDIT, ..]  a batch of edits; an EDIT is [\"word\", pid, addr, value], [\"arg\", pid, index, value],\n"
    ++ codes "            [\"limit\", n] or [\"prices\", g, l]; a blank line is the batch without edits\n"
    ++ codes "undo        takes back the last accepted batch that still stands\n"
    ++ codes "document    writes the input as a document\n"
    ++ codes "view S P    writes what process P saw in superstep S\n"
    ++ codes "turn S P    writes what the turn of process P left in superstep S\n"
    ++ codes "help        writes these lines\n"
    ++ codes "end\n"
