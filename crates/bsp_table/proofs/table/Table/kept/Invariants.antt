use Rattle.std.proofs.Common.{◌≡◌, map, filter, not, [], get_or, ◌∷◌}
use Rattle.std.specs.List.{range_with_len}
use Rattle.bsp_table.specs.NextTable.{is_popped}
use Rattle.bsp_table.proofs.table.Table.kept.Given as goal

-- those of the slots so far that are not popped
abbrev pub invariant-loop-slot : goal.invariant-loop-slot
invariant-loop-slot l = l.kept ≡ map (λ slot. get_or l.slots slot []) (filter (λ slot. not (is_popped (l.popped ∷ []) slot)) (range_with_len 0 l.slot-counter))
