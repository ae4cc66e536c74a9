use Rattle.std.proofs.Common.{◌≡◌, ◌++◌, drop, map, option_map}
use Rattle.bsp_engine.specs.Blocks.{blocks_after, text_of}
use Rattle.bsp_engine.specs.Told.{alone}
use Rattle.bsp_engine.proofs.blocks.push_report.Given as goal

-- the replies that are left, and their blocks
abbrev pub invariant-loop-number : goal.invariant-loop-number
invariant-loop-number l =
    l.text.items ++ blocks_after l.detail l.number (option_map (λ r. r.now) l.before) (map alone (drop l.number l.replies)) ≡ l.initial.text.items ++ text_of l.detail (map alone l.replies)
