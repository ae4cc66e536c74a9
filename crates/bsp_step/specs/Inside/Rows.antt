-- Outcomes in rows.
use Rattle.std.specs.Prelude.{List, [], Option, None, Some}
use Rattle.bsp_step.specs.OutcomeParts.{OutcomeParts}

-- the outcomes in rows; none where there is no process
abbrev pub rows_of : Option (List OutcomeParts) → List OutcomeParts
rows_of None = []
rows_of (Some rows) = rows
