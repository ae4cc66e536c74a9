use Rattle.std.proofs.Common.{◌≡◌, ◌-◌}
use Rattle.std.specs.List.{range_with_len}
use Rattle.bsp_step.specs.Perform.{perform_all}
use Rattle.bsp_collectives.specs.Messages.{sends}
use Rattle.bsp_collectives.proofs.sending.send_from.Given as goal

abbrev pub invariant-loop-pid : goal.invariant-loop-pid
invariant-loop-pid l =
    let v = l.initial.ctx.view in
    record {
      left :
          perform_all l.initial.ctx (sends v (λ _. l.words) (range_with_len l.first (v.nprocs - l.first)))
          ≡ perform_all l.ctx (sends v (λ _. l.words) (range_with_len l.pid (l.pid-end - l.pid)));
      view : l.ctx.view ≡ v;
    }
