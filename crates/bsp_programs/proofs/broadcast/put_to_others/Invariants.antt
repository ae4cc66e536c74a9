use Rattle.std.proofs.Common.{◌≡◌, ◌-◌}
use Rattle.std.specs.List.{range_with_len}
use Rattle.bsp_step.specs.Perform.{perform_all}
use Rattle.bsp_programs.specs.Broadcast.{puts_to_others}
use Rattle.bsp_programs.proofs.broadcast.put_to_others.Given as goal

abbrev pub invariant-loop-pid : goal.invariant-loop-pid
invariant-loop-pid l =
    let puts = puts_to_others l.initial.ctx.view.pid l.word in
    perform_all l.initial.ctx (puts (range_with_len 0 l.initial.ctx.view.nprocs)) ≡ perform_all l.ctx (puts (range_with_len l.pid (l.pid-end - l.pid)))
