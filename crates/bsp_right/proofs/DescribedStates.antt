-- States in which the part of each process is a function of its number, and turns that leave little.
use Rattle.std.proofs.Common.{List, None, [], get_or, ℕ}
use Rattle.bsp_model.specs.declared.request.Message.{Message}
use Rattle.bsp_table.specs.declared.area.Area.{Area}
use Rattle.bsp_step.specs.OutcomeParts.{OutcomeParts}
use Rattle.bsp_step.specs.Plan.{Plan}
use Rattle.bsp_step.specs.declared.outcome.Ended.TheVariants.{Sync as Synced}
use Rattle.bsp_step.specs.ViewParts.{ViewParts}
use Rattle.bsp_step.specs.Turn.{closed}
use Rattle.bsp_step.specs.Context.{fresh}
use Rattle.bsp_step.specs.Perform.{perform_all}
use Rattle.bsp_deliver.specs.Requests.{each_below}
use Rattle.bsp_run.specs.State.{State}

-- the state whose process p has this memory and this queue
abbrev pub described : ℕ → (ℕ → List ℕ) → (ℕ → List Message) → List (List Area) → ℕ → State
described nprocs memory queue table tag_size =
    record { memories = each_below nprocs memory; queues = each_below nprocs queue; table = table; tag_size = tag_size }

-- no message for anyone
abbrev pub no_queue : ℕ → List Message
no_queue p = []

-- what process p sees of it
abbrev pub view_described : List (List ℕ) → ℕ → ℕ → (ℕ → List ℕ) → (ℕ → List Message) → List (List Area) → ℕ → ℕ → ViewParts
view_described args step nprocs memory queue table tag_size p =
    record {
      nprocs = nprocs;
      pid = p;
      step = step;
      args = get_or args p [];
      memory = memory p;
      table = table;
      tag_size = tag_size;
      queue = queue p;
    }

-- a turn that leaves a memory and nothing else, and goes on
abbrev pub quiet : List ℕ → OutcomeParts
quiet memory =
    record {
      fault = None;
      ended = Synced;
      memory = memory;
      stores = [];
      puts = [];
      gets = [];
      sends = [];
      pops = [];
      pushes = [];
      tag = None;
      lines = [];
      work = 0;
    }

-- what a plan leaves
abbrev pub of_plan : ViewParts → Plan → OutcomeParts
of_plan v plan = closed (perform_all (fresh v) plan.acts) plan.ending
