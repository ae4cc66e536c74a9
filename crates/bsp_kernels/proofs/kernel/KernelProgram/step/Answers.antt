use Rattle.std.specs.Prelude.{ℕ, List}
use Rattle.bsp_model.specs.declared.request.Message.{Message}
use Rattle.bsp_step.proofs.Stepping.{step_follows}
use Rattle.bsp_kernels.specs.Machine.{first_state, plan_from, setting_of}
use Rattle.bsp_kernels.proofs.kernel.KernelProgram.step.Goals as goal

pub returns : goal.returns
returns c = λ begun.
    let k = c.args.self.now in
    let now = c.args.ctx.now in
    let plan = λ (memory : List ℕ) (left : List Message). plan_from k.code k.budget (first_state (setting_of k.constants now.view) memory left) in
    step_follows plan now c.run.new.ctx c.run.result c.settle.result c.settle.ensures begun c.run.ensures
