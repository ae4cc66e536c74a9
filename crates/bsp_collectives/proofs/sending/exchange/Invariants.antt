use Rattle.std.proofs.Common.{◌≡◌, ◌-◌}
use Rattle.std.specs.List.{range_with_len}
use Rattle.bsp_step.specs.Perform.{perform_all}
use Rattle.bsp_collectives.specs.Messages.{sends}
use Rattle.bsp_collectives.specs.Halves.{block, exchange}
use Rattle.bsp_collectives.proofs.sending.exchange.Given as goal

abbrev pub invariant-loop-pid : goal.invariant-loop-pid
invariant-loop-pid l =
    let v = l.initial.ctx.view in
    record {
      left :
          perform_all l.initial.ctx (exchange v l.words l.size)
          ≡ perform_all l.ctx (sends v (block l.words l.size) (range_with_len l.pid (l.pid-end - l.pid)));
      view : l.ctx.view ≡ v;
    }
