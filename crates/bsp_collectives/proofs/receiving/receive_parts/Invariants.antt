use Rattle.std.proofs.Common.{◌≡◌, ◌++◌, length}
use Rattle.bsp_step.specs.Perform.{perform_all}
use Rattle.bsp_collectives.specs.Messages.{apart, moves}
use Rattle.bsp_collectives.proofs.receiving.receive_parts.Given as goal

abbrev pub invariant-loop-len : goal.invariant-loop-len
invariant-loop-len l =
    record {
      acts : perform_all l.initial.ctx (moves l.initial.ctx.left) ≡ perform_all l.ctx (moves l.ctx.left);
      parts : apart l.initial.ctx.left ≡ l.parts ++ apart l.ctx.left;
      others : l.ctx ≡ record l.initial.ctx { left = l.ctx.left };
    }

-- each iteration takes a message
abbrev pub decreases-loop-len : goal.decreases-loop-len
decreases-loop-len l = length l.ctx.left
