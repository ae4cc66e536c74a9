-- The program that a kernel is.
use Rattle.std.specs.Prelude.{ℕ, Bool, List}
use Rattle.bsp_model.specs.declared.fault.End.{End}
use Rattle.bsp_step.specs.ViewParts.{ViewParts}
use Rattle.bsp_step.specs.Act.{Act}
use Rattle.bsp_step.specs.Plan.{Plan}
use Rattle.bsp_kernels.specs.declared.kernel.Kernel.{Kernel}
use Rattle.bsp_kernels.specs.Machine.{first_state, setting_of, plan_from}
use Rattle.bsp_kernels.specs.Known.{first_known, looks_from}

-- The plan of a view's turn (this profile).
abbrev pub kernel_plan : Kernel → ViewParts → Plan
kernel_plan k v = plan_from k.code k.budget (first_state (setting_of k.constants v) v.memory v.queue)

abbrev pub kernel_acts : Kernel → ViewParts → List Act
kernel_acts k v = (kernel_plan k v).acts

abbrev pub kernel_ending : Kernel → ViewParts → End
kernel_ending k v = (kernel_plan k v).ending

-- A turn looks at the own words at which its instructions look, as far as that depends on no own word; else at every word.
abbrev pub kernel_looks : Kernel → ViewParts → ℕ → Bool
kernel_looks k v address = looks_from k.code k.looking_budget (setting_of k.constants v) (first_known v.queue) address
