use Rattle.std.proofs.Common.{◌≡◌, ℕ, ◌+◌, ◌*◌, ◌<◌, ◌≤◌, length, vec_capacity}
use Rattle.bsp_model.specs.Inside.Pages.{paged_word, word_after}
use Rattle.bsp_model.proofs.paging.new_pages.Given as goal

abbrev pub invariant-loop-k : goal.invariant-loop-k
invariant-loop-k l = record {
  count : length l.new.items ≡ l.k;
  room : l.count ≤ vec_capacity l.new;
  words : (i : ℕ) → i < 64 * l.k → paged_word l.new.items i ≡ word_after (λ j. paged_word l.pages (64 * l.first + j)) l.start l.words i;
}
