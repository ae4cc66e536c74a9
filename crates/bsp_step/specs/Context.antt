-- The state of a turn.
use Rattle.std.specs.Prelude.{ℕ, List, [], Option, None, ◌≡◌}
use Rattle.bsp_model.specs.declared.request.Put.{Put}
use Rattle.bsp_model.specs.declared.request.Get.{Get}
use Rattle.bsp_model.specs.declared.request.Send.{Send}
use Rattle.bsp_model.specs.declared.request.Message.{Message}
use Rattle.bsp_model.specs.declared.request.Store.{Store}
use Rattle.bsp_model.specs.declared.fault.Fault.{Fault}
use Rattle.bsp_table.specs.declared.area.Area.{Area}
use Rattle.bsp_step.specs.ViewParts.{ViewParts}
use Rattle.bsp_step.specs.OutcomeParts.{OutcomeParts}

-- A view; the memory as it is now; the messages that are left; what was issued, in order; the choice of the next tag size;
-- the work; and the fault that is kept, if there is one (Hill et al. 1998; stores, lines and faults are this profile's).
-- Beside them the outcomes of turns that were taken before and lie in the same lists. No act reads or changes them.
pub record Context : Type 0 where
  pub view : ViewParts
  pub memory : List ℕ
  pub left : List Message
  pub stores : List Store
  pub puts : List Put
  pub gets : List Get
  pub sends : List Send
  pub pops : List ℕ
  pub pushes : List Area
  pub tag : Option ℕ
  pub lines : List (List ℕ)
  pub work : ℕ
  pub fault : Option Fault
  pub earlier : List OutcomeParts

-- The state in which the turn of a view begins.
abbrev pub fresh : ViewParts → Context
fresh v =
    record {
      view = v;
      memory = v.memory;
      left = v.queue;
      stores = [];
      puts = [];
      gets = [];
      sends = [];
      pops = [];
      pushes = [];
      tag = None;
      lines = [];
      work = 0;
      fault = None;
      earlier = [];
    }

-- It is the state in which a turn begins, beside any earlier outcomes.
abbrev pub IsFresh : Context → Type 0
IsFresh c = c ≡ record (fresh c.view) { earlier = c.earlier }
