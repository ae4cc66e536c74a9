use Rattle.std.proofs.Common.{◌-◌}
use Rattle.bsp_kernels.specs.Inside.Making.{state_at}
use Rattle.bsp_kernels.specs.Machine.{first_state, plan_from, setting_of}
use Rattle.bsp_kernels.proofs.Continuing.{Continues}
use Rattle.bsp_kernels.proofs.kernel.Kernel.follow_all.Given as goal

-- the instructions that are not followed yet are left
abbrev pub invariant-loop-spent : goal.invariant-loop-spent
invariant-loop-spent l =
    let begun = l.initial.ctx in
    Continues begun (plan_from l.self.code l.self.budget (first_state (setting_of l.self.constants begun.view) begun.memory begun.left)) l.ctx (plan_from l.self.code (l.self.budget - l.spent) (state_at l.machine l.ctx l.place))
