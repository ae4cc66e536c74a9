-- A view's parts, from its fields.
use Rattle.bsp_step.specs.declared.view.View.TheInside.{Inside}
use Rattle.bsp_step.specs.ViewParts.{ViewParts, IsView}

abbrev pub view_parts : Inside → ViewParts
view_parts v =
    record {
      nprocs = v.nprocs;
      pid = v.pid;
      step = v.step;
      args = v.args.now;
      memory = v.memory;
      table = v.table.now;
      tag_size = v.tag_size;
      queue = v.queue;
    }

abbrev pub IsLawful : Inside → Type 0
IsLawful v = IsView (view_parts v)
