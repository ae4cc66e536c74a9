use Rattle.std.proofs.Common.{◌≡◌, ◌≤◌, ◌<◌, ℕ, get_or}
use Rattle.std.specs.Prelude.{false, slice_index_or}
use Rattle.bsp_model.specs.declared.block.PutHead.{PutHead}
use Rattle.bsp_model.proofs.columns.blocks.head_to.Given as goal

-- The heads so far are of puts to none of the processes.
abbrev pub invariant-loop-place : goal.invariant-loop-place
invariant-loop-place l = (k : ℕ) (head : PutHead × ℕ) → l.from ≤ k → k < l.place
    → slice_index_or l.targets (get_or l.heads k head).0.target false ≡ false
