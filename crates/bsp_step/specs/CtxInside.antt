-- The state of a turn, from the fields of its context.
use Rattle.std.specs.Prelude.{◌≡◌, ◌≤◌, drop, length}
use Rattle.bsp_model.specs.Limits.{most_requests, most_work}
use Rattle.bsp_model.specs.Workspace.{own_memory}
use Rattle.bsp_step.specs.declared.ctx.Ctx.TheInside.{Inside}
use Rattle.bsp_step.specs.ViewParts.{IsView, IsQueue}
use Rattle.bsp_step.specs.Context.{Context}
use Rattle.bsp_step.specs.Perform.{count_of_requests}
use Rattle.bsp_step.specs.Requests.{ArePlaced, AreAsked, AreAddressed, ArePushed}
use Rattle.bsp_step.specs.OutcomeParts.{AreLines, IsTagChoice}
use Rattle.bsp_table.specs.NextTable.{AreSlots}

abbrev pub context_of : Inside → Context
context_of c =
    record {
      view = c.view.now;
      memory = (own_memory c.workspace.value c.view.now.memory).memory;
      left = drop c.taken c.view.now.queue;
      stores = (own_memory c.workspace.value c.view.now.memory).stores;
      puts = c.rows.value.puts;
      gets = c.rows.value.gets;
      sends = c.rows.value.sends;
      pops = c.rows.value.pops;
      pushes = c.rows.value.pushes;
      tag = c.tag;
      lines = c.rows.value.lines;
      work = c.work;
      fault = c.fault;
      earlier = c.rows.value.earlier;
    }

-- What every context keeps (this profile).
pub record IsContext (c : Context) : Type 0 where
  pub view : IsView c.view
  pub memory : length c.memory ≡ length c.view.memory
  pub left : IsQueue c.left
  pub few_requests : count_of_requests c ≤ most_requests
  pub placed : ArePlaced c.view c.puts
  pub asked : AreAsked c.view c.gets
  pub addressed : AreAddressed c.view c.sends
  pub popped : AreSlots c.view.table c.pops
  pub pushed : ArePushed c.view c.pushes
  pub tag : IsTagChoice c.tag
  pub lines : AreLines c.lines
  pub little_work : c.work ≤ most_work

abbrev pub IsLawful : Inside → Type 0
IsLawful c = IsContext (context_of c)
