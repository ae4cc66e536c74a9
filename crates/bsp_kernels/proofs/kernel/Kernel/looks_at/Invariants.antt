use Rattle.std.proofs.Common.{◌≡◌, ◌-◌}
use Rattle.bsp_kernels.specs.Inside.Showing.{known_at}
use Rattle.bsp_kernels.specs.Kernels.{kernel_looks}
use Rattle.bsp_kernels.specs.Known.{looks_from}
use Rattle.bsp_kernels.specs.Machine.{setting_of}
use Rattle.bsp_kernels.proofs.kernel.Kernel.looks_at.Given as goal

-- the turn looks at the address where it does so from the instructions on that are left
abbrev pub invariant-loop-shown : goal.invariant-loop-shown
invariant-loop-shown l =
    kernel_looks l.self l.view l.address ≡ looks_from l.self.code (l.self.looking_budget - l.shown) (setting_of l.constants l.view) (known_at l.view.queue l.knowledge l.place) l.address
