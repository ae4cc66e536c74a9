use Rattle.std.proofs.Common.{All, List, get_or, subst, ℕ, ◌<◌, ◌^◌}
use Rattle.bsp_right.proofs.PrefixRun.{prefix_sums}
use Rattle.bsp_right.proofs.programs.PrefixComputes.law.Goals as goal

pub returns : goal.returns
returns c = λ _.
    prefix_sums c.args.input.now (subst (λ (memories : List (List ℕ)). All (λ memory. get_or memory 0 0 < 2 ^ 64) memories) c.as_slice.ensures c.read_first_words.ensures)
