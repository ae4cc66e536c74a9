-- The programs of this tool by their names.
use Rattle.std.specs.Prelude.{ℕ, List, Option, None, Some, if◌then◌else◌, codes}
use Rattle.std.specs.Str.{bytes_eq}
use Rattle.heat.specs.declared.kernel.Heat.{Heat}

abbrev pub program_named : List ℕ → Option Heat
program_named name = if bytes_eq name (codes "heat") then Some (record {}) else None
