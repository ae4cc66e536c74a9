use Rattle.std.proofs.Common.{◌≡◌, ◌++◌, take}
use Rattle.bsp_model.proofs.columns.open_blocks.OpenBlocks.extend.Given as goal

-- the blocks so far stand at the end of the open row
abbrev pub invariant-loop-place : goal.invariant-loop-place
invariant-loop-place g l = l.self ≡ record l.initial.self { last = l.initial.self.last ++ take l.place l.more }
