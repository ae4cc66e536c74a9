use Rattle.std.proofs.Common.{◌≡◌, ◌-◌}
use Rattle.bsp_step.specs.Footprint.{same_where_looked_at}
use Rattle.bsp_kernels.specs.Inside.Showing.{known_at}
use Rattle.bsp_kernels.specs.Kernels.{kernel_looks}
use Rattle.bsp_kernels.specs.Known.{looks_from}
use Rattle.bsp_kernels.specs.Machine.{setting_of}
use Rattle.bsp_kernels.proofs.kernel.Kernel.sees_same.Given as goal

-- the memories serve where they do so at the addresses at which the turn looks from the instructions on that are left
abbrev pub invariant-loop-shown : goal.invariant-loop-shown
invariant-loop-shown l =
    same_where_looked_at (kernel_looks l.self l.view) l.view.memory l.memory
    ≡ same_where_looked_at (looks_from l.self.code (l.self.looking_budget - l.shown) (setting_of l.constants l.view) (known_at l.view.queue l.knowledge l.place)) l.view.memory l.memory
