-- The processes that edits name, and sets to which such processes are added.
use Rattle.std.specs.Prelude.{ℕ, Bool, true, List, [], ◌∷◌, map}
use Rattle.bsp_model.specs.Replaced.{replaced}
use Rattle.bsp_incr.specs.declared.edit.Edit.{Edit}
use Rattle.bsp_incr.specs.declared.edit.Edit.TheVariants.{Word, Arg, Limit, Prices}

-- the process of which an edit changes a word
abbrev pub word_pids : Edit → List ℕ
word_pids (Word pid addr value) = pid ∷ []
word_pids (Arg pid index value) = []
word_pids (Limit n) = []
word_pids (Prices g l) = []

-- the process of which an edit changes an argument
abbrev pub arg_pids : Edit → List ℕ
arg_pids (Word pid addr value) = []
arg_pids (Arg pid index value) = pid ∷ []
arg_pids (Limit n) = []
arg_pids (Prices g l) = []

-- the set with these members too; a number of no process is passed over
abbrev pub with_members : List Bool → List ℕ → List Bool
with_members set ps = replaced set ps (map (λ _. true) ps)
