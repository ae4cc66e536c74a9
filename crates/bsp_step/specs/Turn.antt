-- A whole turn: the acts of a program at a view, and what they leave.
use Rattle.std.specs.Prelude.{◌≡◌, List, Option, None, Some}
use Rattle.bsp_model.specs.declared.fault.End.{End}
use Rattle.bsp_model.specs.declared.fault.End.TheVariants.{Sync, Halt, Abort}
use Rattle.bsp_model.specs.declared.fault.Fault.{Fault}
use Rattle.bsp_model.specs.declared.fault.Fault.TheVariants.{Abort as Aborted}
use Rattle.bsp_step.specs.declared.outcome.Ended.{Ended}
use Rattle.bsp_step.specs.declared.outcome.Ended.TheVariants.{Sync as Synced, Halt as Halted}
use Rattle.bsp_step.specs.ViewParts.{ViewParts}
use Rattle.bsp_step.specs.Context.{Context, fresh}
use Rattle.bsp_step.specs.Act.{Act}
use Rattle.bsp_step.specs.Perform.{perform_all, first_fault}
use Rattle.bsp_step.specs.OutcomeParts.{OutcomeParts}

-- an answer that is a fault by itself
abbrev pub abort_of : End → Option Fault
abort_of (Abort code) = Some (Aborted code)
abort_of Sync = None
abort_of Halt = None

-- how a turn with this fault and this answer ended
abbrev pub ended_of : Option Fault → End → Ended
ended_of (Some f) how = Halted
ended_of None Sync = Synced
ended_of None Halt = Halted
ended_of None (Abort code) = Halted

-- What a context leaves: the kept fault, else the abort's, else none; the end is halt where there is a fault (this profile).
abbrev pub closed : Context → End → OutcomeParts
closed c how =
    record {
      fault = first_fault c.fault (abort_of how);
      ended = ended_of (first_fault c.fault (abort_of how)) how;
      memory = c.memory;
      stores = c.stores;
      puts = c.puts;
      gets = c.gets;
      sends = c.sends;
      pops = c.pops;
      pushes = c.pushes;
      tag = c.tag;
      lines = c.lines;
      work = c.work;
    }

-- A program's turn at a view: its acts performed in order on the fresh context, and then closed with its ending.
abbrev pub turn_of : (ViewParts → List Act) → (ViewParts → End) → ViewParts → OutcomeParts
turn_of acts ending v = closed (perform_all (fresh v) (acts v)) (ending v)

-- A step performs the acts in order, and where no fault is kept it answers the ending.
pub record Follows (old : Context) (acts : List Act) (ending : End) (new : Context) (how : End) : Type 0 where
  pub acted : new ≡ perform_all old acts
  pub answered : new.fault ≡ None → how ≡ ending
