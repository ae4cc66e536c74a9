use Rattle.std.proofs.Common.{◌≡◌, ◌-◌}
use Rattle.std.specs.List.{range_with_len}
use Rattle.bsp_step.specs.Perform.{perform_all}
use Rattle.bsp_programs.specs.MatVec.{sends_to_all}
use Rattle.bsp_programs.proofs.matvec.send_to_all.Given as goal

abbrev pub invariant-loop-pid : goal.invariant-loop-pid
invariant-loop-pid l =
    let sends = sends_to_all l.initial.ctx.view.pid l.words in
    perform_all l.initial.ctx (sends (range_with_len 0 l.initial.ctx.view.nprocs)) ≡ perform_all l.ctx (sends (range_with_len l.pid (l.pid-end - l.pid)))
