-- What the processes see, from the lists in which it lies.
use Rattle.std.specs.Prelude.{List}
use Rattle.bsp_step.specs.ViewParts.{ViewParts}
use Rattle.bsp_run.specs.declared.views.Views.TheInside.{Inside}
use Rattle.bsp_run.specs.State.{State, views_of}
use Rattle.bsp_run.specs.Inside.Opening.{CanOpen, state_of}

abbrev pub state_in : Inside → State
state_in v = state_of v.cells v.setting.table v.setting.tag_size

abbrev pub seen_in : Inside → List ViewParts
seen_in v = views_of v.setting.args v.setting.step (state_in v)

-- all is within the limits
abbrev pub IsLawful : Inside → Type 0
IsLawful v = CanOpen v.setting.args v.setting.step (state_in v)
