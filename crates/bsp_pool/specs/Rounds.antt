-- A round: the inputs of one phase, whose numbers the workers draw. This profile's own.
use Rattle.std.specs.Prelude.{◌≡◌, ℕ, ◌<◌, ◌≤◌, nat_lt, Bool, true, false, if◌then◌else◌, List, [], ◌∷◌, ◌++◌, length, map, replicate, slice_get, slice_set, Option, Some, None, IsSome, unwrap_or, option_map, Result, Ok, Err}
use Rattle.bsp_pool.specs.declared.machine.CoreRefusal.{CoreRefusal}
use Rattle.bsp_pool.specs.declared.machine.CoreRefusal.TheVariants.{NotNow, OutOfMemory}
use Rattle.bsp_pool.specs.declared.round.Worker.{Worker}
use Rattle.bsp_pool.specs.declared.round.Worker.TheVariants.{Ready, Holding, PastEnd, Gone}

-- A round so far: who drew each number, in order; what each worker is at; and the outputs kept, by number.
-- The number that is drawn next is how many draws were made.
pub record RoundParts (Out : Type 0) : Type 0 where
  pub draws : List ℕ
  pub workers : List Worker
  pub outputs : List (Option Out)

-- a round of so many inputs that opens, with so many workers, all of them ready
abbrev pub opened : {Out : Type 0} → ℕ → ℕ → RoundParts Out
opened inputs workers = record { draws = []; workers = replicate workers Ready; outputs = replicate inputs None }

-- Draw: a ready worker takes the next number. Below the number of inputs it holds it, else it has drawn past the end
abbrev pub after_draw : {Out : Type 0} → ℕ → RoundParts Out → ℕ → Option Worker → Option (RoundParts Out)
after_draw inputs p w (Some Ready) =
    let number = length p.draws in
    Some record p { draws = p.draws ++ w ∷ []; workers = slice_set p.workers w (if nat_lt number inputs then Holding number else PastEnd) }
after_draw inputs p w _ = None

-- the worker is ready, and this is the output of that number
abbrev pub with_output : {Out : Type 0} → RoundParts Out → ℕ → ℕ → Option Out → RoundParts Out
with_output p w number out = record p { workers = slice_set p.workers w Ready; outputs = slice_set p.outputs number out }

-- Ran: a worker that holds a number keeps the output of that input, and is ready
abbrev pub after_run : {In Out : Type 0} → (In → Out) → List In → RoundParts Out → ℕ → Option Worker → Option (RoundParts Out)
after_run does inputs p w (Some (Holding number)) =
    Some (with_output p w number (option_map does (slice_get inputs number)))
after_run does inputs p w _ = None

-- Left: a worker that hasn't left leaves. A number that it held is given up
abbrev pub after_leave : {Out : Type 0} → RoundParts Out → ℕ → Option Worker → Option (RoundParts Out)
after_leave p w None = None
after_leave p w (Some Gone) = None
after_leave p w (Some _) = Some record p { workers = slice_set p.workers w Gone }

abbrev pub is_gone : Worker → Bool
is_gone Gone = true
is_gone _ = false

-- the output of each input: the one that was kept, or else the one that is worked now
abbrev pub finished : {In Out : Type 0} → (In → Out) → List In → List (Option Out) → List Out
finished does [] kept = []
finished does (x ∷ xs) [] = does x ∷ finished does xs []
finished does (x ∷ xs) (o ∷ os) = unwrap_or o (does x) ∷ finished does xs os

-- An answer to an event: it was allowed and made, it was not allowed, or it was allowed and memory was refused.
-- A refused event changes nothing.
abbrev pub Applies : {S U : Type 0} → Option S → S → Result U CoreRefusal → S → Type 0
Applies next old (Ok _) new = next ≡ Some new
Applies next old (Err NotNow) new = (next ≡ None) × (new ≡ old)
Applies next old (Err OutOfMemory) new = IsSome next × (new ≡ old)

-- What holds of a round. Each kept output is that of the input with its number. Each number is drawn once:
-- who holds a number made the draw of that number, and neither it nor a number that is yet to be drawn has an output.
pub record IsRoundSound {In Out : Type 0} (does : In → Out) (inputs : List In) (p : RoundParts Out) : Type 0 where
  pub places : length p.outputs ≡ length inputs
  pub kept : (number : ℕ) (out : Out) → slice_get p.outputs number ≡ Some (Some out) → slice_get (map does inputs) number ≡ Some out
  pub held : (w number : ℕ) → slice_get p.workers w ≡ Some (Holding number) → (slice_get p.draws number ≡ Some w) × (slice_get p.outputs number ≡ Some None)
  pub undrawn : (number : ℕ) → length p.draws ≤ number → number < length p.outputs → slice_get p.outputs number ≡ Some None
