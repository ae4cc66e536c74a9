-- Whether no number at the keys that every document may have is negative.
use Rattle.std.specs.Prelude.{Bool, ◌&&◌, codes, not}
use Rattle.std.specs.List.{list_all}
use Rattle.toml.specs.Data.{Data, Members, get_member}
use Rattle.bsp_engine.specs.Keys.{passes}
use Rattle.bsp_engine.specs.Tree.{elements, is_negative}

-- no integer of the row is negative
abbrev pub row_fits : Data → Bool
row_fits d = list_all (λ w. not (is_negative w)) (elements d)

abbrev pub rows_fit : Data → Bool
rows_fit d = list_all row_fits (elements d)

abbrev pub batches_fit : Data → Bool
batches_fit d = list_all rows_fit (elements d)

abbrev pub has_no_sign : Members → Bool
has_no_sign t =
    passes rows_fit (get_member (codes "memory") t) && passes rows_fit (get_member (codes "args") t)
    && passes batches_fit (get_member (codes "batches") t)
