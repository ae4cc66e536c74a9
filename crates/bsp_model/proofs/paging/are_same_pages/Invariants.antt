use Rattle.std.proofs.Common.{◌≡◌, ℕ, ◌*◌, ◌<◌}
use Rattle.bsp_model.specs.Inside.Pages.{paged_word}
use Rattle.bsp_model.proofs.paging.are_same_pages.Given as goal

abbrev pub invariant-loop-k : goal.invariant-loop-k
invariant-loop-k l = (i : ℕ) → i < 64 * l.k → paged_word l.pages i ≡ paged_word l.others i
