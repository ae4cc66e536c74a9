use Rattle.std.proofs.Common.{◌≡◌, ◌<◌, All, [], map, length, get_or}
use Rattle.bsp_model.specs.ProcessSet.{processes_in}
use Rattle.bsp_model.specs.Replaced.{replaced}
use Rattle.bsp_incr.proofs.rerun.opening.args_again.Given as goal

-- the arguments that are put, and those that are left
abbrev pub invariant-loop-process : goal.invariant-loop-process
invariant-loop-process l = record {
  rest : replaced l.all.items l.process-iterator (map (λ p. get_or l.input p []) l.process-iterator)
      ≡ replaced l.initial.all.items (processes_in l.others) (map (λ p. get_or l.input p []) (processes_in l.others));
  count : length l.all.items ≡ length l.old;
  known : All (λ p. p < length l.input) l.process-iterator;
}
