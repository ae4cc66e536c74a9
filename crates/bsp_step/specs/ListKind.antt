-- The kinds of lists that a turn may leave. A fault and a choice of the next tag size are lists of at most one.
use Rattle.std.specs.Prelude.{◌≡◌, [], None}
use Rattle.bsp_step.specs.declared.list_kind.ListKind.{ListKind}
use Rattle.bsp_step.specs.declared.list_kind.ListKind.TheVariants.{Faults, Gets, Sends, Pops, Pushes, Tags, Lines}
use Rattle.bsp_step.specs.OutcomeParts.{OutcomeParts}

-- A turn left nothing of a kind.
abbrev pub IsWithout : ListKind → OutcomeParts → Type 0
IsWithout Faults o = o.fault ≡ None
IsWithout Gets o = o.gets ≡ []
IsWithout Sends o = o.sends ≡ []
IsWithout Pops o = o.pops ≡ []
IsWithout Pushes o = o.pushes ≡ []
IsWithout Tags o = o.tag ≡ None
IsWithout Lines o = o.lines ≡ []
