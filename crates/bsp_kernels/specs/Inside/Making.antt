-- What is promised of the instructions of a kernel while they are followed.
use Rattle.std.specs.Prelude.{◌≡◌, ℕ, List, Option, None, Some, Result, Ok, Err}
use Rattle.bsp_model.specs.declared.fault.End.TheVariants.{Abort as Aborted}
use Rattle.bsp_step.specs.declared.stop.Stop.TheVariants.{OutOfMemory}
use Rattle.bsp_step.specs.Context.{Context}
use Rattle.bsp_step.specs.Calls.{RunStops}
use Rattle.bsp_step.specs.Perform.{perform_all}
use Rattle.bsp_step.specs.Plan.{Plan}
use Rattle.bsp_kernels.specs.declared.exit.Exit.{Exit}
use Rattle.bsp_kernels.specs.declared.exit.Exit.TheVariants.{Ended, Stopped}
use Rattle.bsp_kernels.specs.declared.machine.Machine.{Machine}
use Rattle.bsp_kernels.specs.Machine.{State, Effect, setting_of}

-- the state of the machine in a context, at a place
abbrev pub state_at : Machine → Context → ℕ → State
state_at m c place = record { setting = setting_of m.constants.now c.view; memory = c.memory; left = c.left; taken = m.taken; place = place; registers = m.registers }

-- The acts are performed, the turn has not ended, and this is the next state; or it has ended so; or a fault is kept, or memory is wanted.
abbrev pub Makes : Context → Effect → Context → Machine → Result ℕ Exit → Type 0
Makes old e new m (Ok place) = (new ≡ perform_all old e.acts) × (e.ending ≡ None) × (state_at m new place ≡ e.next)
Makes old e new m (Err (Ended how)) = (new ≡ perform_all old e.acts) × (e.ending ≡ Some how)
Makes old e new m (Err (Stopped stop)) = RunStops old e.acts new stop

-- A block is not there, and the turn ends; or memory is wanted.
abbrev pub Lacks : Option (List ℕ) → Exit → Type 0
Lacks block (Ended how) = (block ≡ None) × (how ≡ Aborted 1)
Lacks block (Stopped stop) = stop ≡ OutOfMemory

-- The turn is over as the plan says, or a fault is kept, or memory is wanted.
abbrev pub Leaves : Context → Plan → Context → Exit → Type 0
Leaves old plan new (Ended how) = (new ≡ perform_all old plan.acts) × (how ≡ plan.ending)
Leaves old plan new (Stopped stop) = RunStops old plan.acts new stop
