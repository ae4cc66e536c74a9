use Rattle.std.proofs.Common.{◌≡◌, ◌-◌, drop, take}
use Rattle.std.specs.List.{range_with_len, sum}
use Rattle.bsp_step.specs.Perform.{perform_all}
use Rattle.bsp_collectives.specs.Messages.{sends}
use Rattle.bsp_collectives.specs.Halves.{exchange_parts, part}
use Rattle.bsp_collectives.proofs.sending.exchange_parts.Given as goal

abbrev pub invariant-loop-pid : goal.invariant-loop-pid
invariant-loop-pid l =
    let v = l.initial.ctx.view in
    record {
      acts :
          perform_all l.initial.ctx (exchange_parts v l.words l.lengths)
          ≡ perform_all l.ctx (sends v (part l.words l.lengths) (range_with_len l.pid (l.pid-end - l.pid)));
      view : l.ctx.view ≡ v;
      left : l.left ≡ drop (sum (take l.pid l.lengths)) l.words;
    }
