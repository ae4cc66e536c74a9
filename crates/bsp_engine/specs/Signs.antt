-- Whether a number of a document is negative: J7 (this profile).
use Rattle.std.specs.Prelude.{Bool, ◌||◌, codes}
use Rattle.std.specs.List.{list_any}
use Rattle.toml.specs.Data.{Data, Members}
use Rattle.bsp_engine.specs.Catalogue.{Meaning}
use Rattle.bsp_engine.specs.Tree.{elements, elements_at, is_negative}

-- an element is negative: of a row, or of an edit
abbrev pub has_negative : Data → Bool
has_negative d = list_any is_negative (elements d)

-- an element of an edit of the batch is negative
abbrev pub has_negative_edit : Data → Bool
has_negative_edit d = list_any has_negative (elements d)

-- an integer in what the catalogue reads, in `memory`, `args` or `batches` is negative
abbrev pub has_negative_word : {P : Type 0} → Meaning P → Members → Bool
has_negative_word meaning t =
    meaning.has_negative_word t || list_any has_negative (elements_at (codes "memory") t) || list_any has_negative (elements_at (codes "args") t)
    || list_any has_negative_edit (elements_at (codes "batches") t)
