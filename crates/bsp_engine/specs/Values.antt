-- The input and the batches of edits that a document describes (this profile). They are of use only where it has no fault.
use Rattle.std.specs.Prelude.{ℕ, List, [], map, codes, Option, None, Some, if◌then◌else◌}
use Rattle.toml.specs.Data.{Data, Members, get_member, as_integer}
use Rattle.bsp_model.specs.declared.input.Input.{Input}
use Rattle.bsp_incr.specs.declared.edit.Edit.{Edit}
use Rattle.bsp_incr.specs.declared.edit.Edit.TheVariants.{Word, Arg, Limit, Prices}
use Rattle.bsp_engine.specs.Tree.{elements, elements_at, integer_at, begins_with, natural_of, number_at}

abbrev pub word_of : Data → ℕ
word_of d = natural_of (as_integer d)

-- the words of an array
abbrev pub row_of : Data → List ℕ
row_of d = map word_of (elements d)

-- the argument lists; where the key is absent, an empty one for each memory
abbrev pub args_of : Option Data → List (List ℕ) → List (List ℕ)
args_of None memories = map (λ m. []) memories
args_of (Some d) memories = map row_of (elements d)

abbrev pub input_of : Members → Input
input_of t =
    let memories = map row_of (elements_at (codes "memory") t) in
    record {
      mems = memories;
      args = args_of (get_member (codes "args") t) memories;
      limit = natural_of (integer_at (codes "limit") t);
      g = natural_of (integer_at (codes "g") t);
      l = natural_of (integer_at (codes "l") t);
    }

-- An edit's word stands at place 0: `["word", pid, addr, value]`, `["arg", pid, index, value]`, `["limit", n]` or `["prices", g, l]`
abbrev pub edit_of : List Data → Edit
edit_of ds =
    if begins_with (codes "word") ds then Word (number_at 1 ds) (number_at 2 ds) (number_at 3 ds)
    else (if begins_with (codes "arg") ds then Arg (number_at 1 ds) (number_at 2 ds) (number_at 3 ds)
    else (if begins_with (codes "limit") ds then Limit (number_at 1 ds)
    else Prices (number_at 1 ds) (number_at 2 ds)))

-- the edits of a batch, in their order
abbrev pub batch_of : Data → List Edit
batch_of d = map (λ e. edit_of (elements e)) (elements d)

-- the batches in their order; none where the key is absent
abbrev pub batches_of : Members → List (List Edit)
batches_of t = map batch_of (elements_at (codes "batches") t)
