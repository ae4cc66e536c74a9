-- What all processes of a superstep see alike.
use Rattle.std.specs.Prelude.{◌+◌, List, length}
use Rattle.bsp_step.specs.ViewParts.{ViewParts}
use Rattle.bsp_run.specs.declared.setting.Setting.{Setting}
use Rattle.bsp_run.specs.State.{next_state, views_of}
use Rattle.bsp_run.specs.Run.{Run}

-- That of the superstep after one whose turns are taken.
abbrev pub next_setting : Run → Setting
next_setting r =
    let next = next_state r.state r.outcomes in
    record { step = length r.past + 1; args = r.args; table = next.table; tag_size = next.tag_size }

-- the views of that superstep
abbrev pub next_views : Run → List ViewParts
next_views r = views_of r.args (length r.past + 1) (next_state r.state r.outcomes)
