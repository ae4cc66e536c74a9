-- What is due for lines to come (this profile).
use Rattle.std.specs.Prelude.{ℕ, ◌+◌, ◌++◌, Bool, List}
use Rattle.bsp_model.specs.declared.fault.End.{End}
use Rattle.bsp_step.specs.ViewParts.{ViewParts}
use Rattle.bsp_step.specs.Act.{Act}
use Rattle.bsp_engine.specs.declared.conversation.Attendant.{Attendant}
use Rattle.bsp_engine.specs.Live.{blocks}
use Rattle.bsp_engine.specs.Talk.{Due}
use Rattle.bsp_engine.specs.Inside.LiveReplies.{live_replying}

-- where an open session is
unfoldable pub due_at : {P : Type 0} → (P → ViewParts → List Act) → (P → ViewParts → End) → (P → ViewParts → ℕ → Bool) → Attendant P → List (List ℕ) → List ℕ
due_at acts ending looks a lines = blocks acts ending (live_replying acts ending looks) a.own.items (a.last + 1) a.live lines

-- the same after what is to be said next
abbrev pub due_from : {P : Type 0} → (P → ViewParts → List Act) → (P → ViewParts → End) → (P → ViewParts → ℕ → Bool) → Attendant P → Due
due_from acts ending looks a = λ lines. a.text.items ++ due_at acts ending looks a lines
