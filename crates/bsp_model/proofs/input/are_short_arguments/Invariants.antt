use Rattle.std.proofs.Common.{◌≡◌, length, take, true}
use Rattle.std.specs.Prelude.{nat_le}
use Rattle.std.specs.List.{list_all}
use Rattle.bsp_model.specs.Limits.{most_arguments}
use Rattle.bsp_model.proofs.input.are_short_arguments.Given as goal

abbrev pub invariant-loop-words : goal.invariant-loop-words
invariant-loop-words l = list_all (λ ws. nat_le (length ws) most_arguments) (take l.words-index l.args) ≡ true
