-- Programs that make a collective call by which words are combined (this profile).
use Rattle.std.specs.Prelude.{ℕ, Bool, ◌==◌, ◌&&◌, if◌then◌else◌, List, [], ◌∷◌, Option, None, Some, slice_get}
use Rattle.bsp_model.specs.declared.fault.End.TheVariants.{Sync, Halt, Abort}
use Rattle.bsp_model.specs.declared.request.Message.{Message}
use Rattle.bsp_step.specs.ViewParts.{ViewParts}
use Rattle.bsp_step.specs.Act.{Act, store, print}
use Rattle.bsp_step.specs.Plan.{Plan, after, does, given_argument, given_word}
use Rattle.bsp_collectives.specs.declared.operation.Operation.{Operation as Operations}
use Rattle.bsp_collectives.specs.declared.operation.Operation.TheVariants.{Sum, Least, Greatest, Or, And}
use Rattle.bsp_collectives.specs.Messages.{joined, moves}
use Rattle.bsp_collectives.specs.Operation.{combined}
use Rattle.bsp_collectives.specs.Halves.{all_reduce, reduce, scan}
use Rattle.collectives.specs.Root.{root_of}
use Rattle.collectives.specs.declared.combining.Combining.{Combining as Combinings}
use Rattle.collectives.specs.declared.combining.Combining.TheVariants.{Reduce, AllReduce, Scan}

-- the operation with this number
abbrev pub operation_of : ℕ → Option Operations
operation_of code =
    if code == 0 then Some Sum
    else (if code == 1 then Some Least
    else (if code == 2 then Some Greatest
    else (if code == 3 then Some Or
    else (if code == 4 then Some And
    else None))))

-- The number of no operation ends the turn by Abort(3).
abbrev pub given_operation : Option Operations → (Operations → Plan) → Plan
given_operation None plan = does [] (Abort 3)
given_operation (Some operation) plan = plan operation

-- The first half, of this word. Where there is a root, it is argument 1, or process 0.
abbrev pub half : Combinings → ViewParts → ℕ → List Act
half Reduce v word = reduce v (root_of v) word
half AllReduce v word = all_reduce v word
half Scan v word = scan v word

-- what is made of the words that came is stored as word 1, and printed
abbrev pub telling : ℕ → Plan
telling made = does (store 1 made ∷ print (made ∷ []) ∷ []) Halt

abbrev pub answering : Operations → List Message → Plan
answering operation queue = after (moves queue) (telling (combined operation (joined queue)))

-- Argument 0 is the number of the operation. Superstep 0 makes the first half of word 0, and the next one answers.
abbrev pub combining_plan : Combinings → ViewParts → List ℕ → List Message → Plan
combining_plan call v memory queue =
    given_argument (slice_get v.args 0) (λ code. given_operation (operation_of code) (λ operation.
    if v.step == 0 then given_word (slice_get memory 0) (λ word. does (half call v word) Sync)
    else answering operation queue))

-- It looks at word 0 in superstep 0.
abbrev pub combining_looks : ViewParts → ℕ → Bool
combining_looks v address = (v.step == 0) && (address == 0)
