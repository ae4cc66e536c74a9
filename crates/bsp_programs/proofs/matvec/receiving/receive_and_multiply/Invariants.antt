use Rattle.std.proofs.Common.{◌≡◌, length}
use Rattle.bsp_step.specs.Perform.{perform_all}
use Rattle.bsp_programs.specs.MatVec.{matvec_receiving}
use Rattle.bsp_programs.proofs.matvec.receiving.receive_and_multiply.Given as goal

abbrev pub invariant-loop-words : goal.invariant-loop-words
invariant-loop-words l =
    let all = matvec_receiving l.layout.nprocs l.layout.block l.initial.ctx.memory l.initial.ctx.left in
    let rest = matvec_receiving l.layout.nprocs l.layout.block l.ctx.memory l.ctx.left in
    record { acts : perform_all l.initial.ctx all.acts ≡ perform_all l.ctx rest.acts; ending : all.ending ≡ rest.ending; len : length l.words ≡ l.layout.block }

-- each iteration takes a message
abbrev pub decreases-loop-words : goal.decreases-loop-words
decreases-loop-words l = length l.ctx.left
