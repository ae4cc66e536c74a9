-- The turns of a program.
use Rattle.bsp_step.specs.declared.program.Program.{Ghosts}
use Rattle.bsp_step.specs.ViewParts.{ViewParts}
use Rattle.bsp_step.specs.OutcomeParts.{OutcomeParts}
use Rattle.bsp_step.specs.Turn.{turn_of}

-- what a turn of a program leaves at a view
abbrev pub turn_by : {P : Type 0} → Ghosts P → P → ViewParts → OutcomeParts
turn_by laws program = turn_of (laws.acts program) (laws.ending program)
