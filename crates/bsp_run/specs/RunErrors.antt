-- Why a run gave nothing.
use Rattle.std.specs.Prelude.{Option, None, Some}
use Rattle.bsp_model.specs.declared.fault.InputFault.{InputFault}
use Rattle.bsp_run.specs.declared.result.RunError.{RunError}
use Rattle.bsp_run.specs.declared.result.RunError.TheVariants.{Input, OutOfMemory}

-- the input's fault, if that is the reason; want of memory comes only where there is none
abbrev pub input_fault_of : RunError → Option InputFault
input_fault_of (Input fault) = Some fault
input_fault_of OutOfMemory = None
