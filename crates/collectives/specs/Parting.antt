-- A program that deals its words in parts of any lengths (this profile).
use Rattle.std.specs.Prelude.{ℕ, Bool, false, ◌+◌, ◌==◌, ◌&&◌, ◌++◌, nat_lt, if◌then◌else◌, List, Option, None, Some, map, slice_get, unwrap_or}
use Rattle.std.specs.List.{range_with_len}
use Rattle.bsp_model.specs.declared.fault.End.TheVariants.{Sync, Halt}
use Rattle.bsp_model.specs.declared.request.Message.{Message}
use Rattle.bsp_step.specs.ViewParts.{ViewParts}
use Rattle.bsp_step.specs.Act.{print}
use Rattle.bsp_step.specs.Blocks.{words_at}
use Rattle.bsp_step.specs.Plan.{Plan, does, given_argument}
use Rattle.bsp_programs.specs.MatVec.{given_words}
use Rattle.bsp_collectives.specs.Messages.{apart, moves}
use Rattle.bsp_collectives.specs.Halves.{exchange_parts}

-- Argument d + 1 is the length of the part for process d, or 0 where it is missing.
abbrev pub length_for : List ℕ → ℕ → ℕ
length_for args pid = unwrap_or (slice_get args (pid + 1)) 0

abbrev pub lengths : List ℕ → ℕ → List ℕ
lengths args nprocs = map (length_for args) (range_with_len 0 nprocs)

-- Superstep 0 deals the own words: so many, from word 0 on.
abbrev pub dealing : ViewParts → ℕ → List ℕ → Plan
dealing v count memory = given_words (words_at memory 0 count) (λ words. does (exchange_parts v words (lengths v.args v.nprocs)) Sync)

-- Superstep 1 takes the parts that came, and prints each.
abbrev pub printing : List Message → Plan
printing queue = does (moves queue ++ map print (apart queue)) Halt

-- Argument 0 is the number of own words.
abbrev pub parting_plan : ViewParts → List ℕ → List Message → Plan
parting_plan v memory queue = given_argument (slice_get v.args 0) (λ count. if v.step == 0 then dealing v count memory else printing queue)

abbrev pub parting_looks_with : ViewParts → Option ℕ → ℕ → Bool
parting_looks_with v None address = false
parting_looks_with v (Some count) address = (v.step == 0) && nat_lt address count

-- It looks at the own words in superstep 0.
abbrev pub parting_looks : ViewParts → ℕ → Bool
parting_looks v address = parting_looks_with v (slice_get v.args 0) address
