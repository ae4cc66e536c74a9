-- What is promised of what an instruction shows.
use Rattle.std.specs.Prelude.{◌≡◌, ℕ, zero, suc, List, [], drop, Option, None, Some}
use Rattle.bsp_model.specs.declared.request.Message.{Message}
use Rattle.bsp_step.specs.Queue.{first_words}
use Rattle.bsp_kernels.specs.declared.looking.Knowledge.{Knowledge}
use Rattle.bsp_kernels.specs.declared.looking.Shown.{Shown}
use Rattle.bsp_kernels.specs.declared.looking.Shown.TheVariants.{Everywhere, Over, Reads}
use Rattle.bsp_kernels.specs.Known.{Known, Sight, everywhere, over, reads}

-- the words of the message that was taken last, of so many
abbrev pub taken_words : List Message → ℕ → List ℕ
taken_words queue zero = []
taken_words queue (suc n) = first_words (drop n queue)

-- what the code knows of a queue at a place
abbrev pub known_at : List Message → Knowledge → ℕ → Known
known_at queue k place = record { left = drop k.taken queue; taken = taken_words queue k.taken; place = place; registers = k.registers; known = k.known }

-- the code shows the same, with the same known behind the instruction
abbrev pub Shows : Sight → Shown → List Message → Knowledge → Type 0
Shows everywhere shown queue after = shown ≡ Everywhere
Shows over shown queue after = shown ≡ Over
Shows (reads from len k) shown queue after = (shown ≡ Reads from len k.place) × (known_at queue after k.place ≡ k)

-- what an instruction shows that reads a block
abbrev pub block_shown : Option ℕ → Option ℕ → ℕ → Shown
block_shown None len next = Everywhere
block_shown (Some from) None next = Everywhere
block_shown (Some from) (Some len) next = Reads from len next
