-- What a program does in a turn, and how it answers.
use Rattle.std.specs.Prelude.{ℕ, List, [], Option, None, Some, ◌++◌}
use Rattle.bsp_model.specs.declared.fault.End.{End}
use Rattle.bsp_model.specs.declared.fault.End.TheVariants.{Abort}
use Rattle.bsp_step.specs.Act.{Act}

-- The acts of a turn, in order, and its answer where none of them faults (this profile).
pub record Plan : Type 0 where
  pub acts : List Act
  pub ending : End

abbrev pub does : List Act → End → Plan
does acts ending = record { acts = acts; ending = ending }

-- these acts first, and then the plan
abbrev pub after : List Act → Plan → Plan
after acts plan = record { acts = acts ++ plan.acts; ending = plan.ending }

-- A missing argument ends the turn by Abort(2) (this profile).
abbrev pub given_argument : Option ℕ → (ℕ → Plan) → Plan
given_argument None plan = does [] (Abort 2)
given_argument (Some word) plan = plan word

-- A load that finds no word ends the turn by Abort(1) (this profile).
abbrev pub given_word : Option ℕ → (ℕ → Plan) → Plan
given_word None plan = does [] (Abort 1)
given_word (Some word) plan = plan word
