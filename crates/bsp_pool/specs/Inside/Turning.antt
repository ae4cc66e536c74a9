-- How the outputs of a phase are put together at a Turn, so that want of memory leaves the kept ones where they are.
use Rattle.std.specs.Prelude.{List, [], ◌∷◌, ◌++◌, Option, Some, None, option_to_list}

-- the output, if none was kept
abbrev pub made_unless : {Out : Type 0} → Option Out → Out → Option Out
made_unless None out = Some out
made_unless (Some _) out = None

-- the output of each input for which none was kept
abbrev pub missing_of : {In Out : Type 0} → (In → Out) → List In → List (Option Out) → List (Option Out)
missing_of does [] kept = []
missing_of does (x ∷ xs) [] = Some (does x) ∷ missing_of does xs []
missing_of does (x ∷ xs) (o ∷ os) = made_unless o (does x) ∷ missing_of does xs os

-- the first of two that is there
abbrev pub either_of : {T : Type 0} → Option T → Option T → Option T
either_of None m = m
either_of (Some o) m = Some o

-- what was kept, and what was made where none was kept
abbrev pub merged_of : {T : Type 0} → List (Option T) → List (Option T) → List T
merged_of [] made = []
merged_of (o ∷ os) [] = option_to_list o ++ merged_of os []
merged_of (o ∷ os) (m ∷ ms) = option_to_list (either_of o m) ++ merged_of os ms
