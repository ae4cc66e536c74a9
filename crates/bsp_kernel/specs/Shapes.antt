-- Which values are instructions: J3 for any other; and which have a negative number: J7 (this profile).
use Rattle.std.specs.Prelude.{ℕ, Bool, true, false, ◌&&◌, List, [], ◌∷◌, drop, length, ◌-◌, ◌^◌, min, nat_le, Option, None, Some, is_some, option_and_then, slice_get}
use Rattle.std.specs.List.{list_all, list_any}
use Rattle.toml.specs.Data.{Data, as_array, as_integer, as_str}
use Rattle.bsp_engine.specs.Tree.{elements, is_negative, natural_of}
use Rattle.bsp_engine.specs.Keys.{is_integer}
use Rattle.bsp_kernels.specs.declared.source.Source.{Source}
use Rattle.bsp_kernels.specs.declared.source.Source.TheVariants.{FirstTag, Taken, Argument, Constant}
use Rattle.bsp_kernels.specs.declared.call.Call.{Call}
use Rattle.bsp_kernels.specs.declared.call.Call.TheVariants.{Charge, PushReg, PopReg, SetTagsize, Print, PrintBlock, Take, StoreTaken}
use Rattle.bsp_kernels.specs.declared.instruction.Instruction.{Instruction}
use Rattle.bsp_kernels.specs.declared.instruction.Instruction.TheVariants.{Number as Numbers, Copy, Add, Compute, Read, Load, LoadAt, Store, Jump, Unless, UnlessLess, Call as Calls, Sync, Halt, Abort}
use Rattle.bsp_kernel.specs.declared.operands.Kind.{Kind}
use Rattle.bsp_kernel.specs.declared.operands.Kind.TheVariants.{Register, Number, Place}
use Rattle.bsp_kernel.specs.Names.{template_named}

-- the text that the values begin with
abbrev pub name_in : List Data → Option (List ℕ)
name_in ds = option_and_then as_str (slice_get ds 0)

-- the instruction whose name the values begin with
abbrev pub template_in : List Data → Option Instruction
template_in ds = option_and_then template_named (name_in ds)

abbrev pub source_kinds : Source → List Kind
source_kinds (FirstTag a) = Register ∷ Register ∷ []
source_kinds (Taken a) = Register ∷ Register ∷ []
source_kinds (Argument a) = Register ∷ Register ∷ []
source_kinds (Constant a) = Register ∷ Register ∷ []
source_kinds source = Register ∷ []

abbrev pub call_kinds : Call → List Kind
call_kinds (Charge a) = Register ∷ []
call_kinds (PopReg a) = Register ∷ []
call_kinds (Take a) = Register ∷ []
call_kinds (PushReg a b) = Register ∷ Register ∷ []
call_kinds (SetTagsize a b) = Register ∷ Register ∷ []
call_kinds (Print a b) = Register ∷ Register ∷ []
call_kinds (PrintBlock a b) = Register ∷ Register ∷ []
call_kinds (StoreTaken a b) = Register ∷ Register ∷ []
call_kinds call = Register ∷ Register ∷ Register ∷ Register ∷ Register ∷ []

-- the operands of each instruction
abbrev pub kinds_of : Instruction → List Kind
kinds_of (Numbers a n) = Register ∷ Number ∷ []
kinds_of (Copy a b) = Register ∷ Register ∷ []
kinds_of (Add a b c) = Register ∷ Register ∷ Register ∷ []
kinds_of (Compute o a b c) = Register ∷ Register ∷ Register ∷ []
kinds_of (Read a s) = source_kinds s
kinds_of (Load a b) = Register ∷ Register ∷ []
kinds_of (LoadAt a b c) = Register ∷ Register ∷ Register ∷ []
kinds_of (Store a b) = Register ∷ Register ∷ []
kinds_of (Jump to) = Place ∷ []
kinds_of (Unless a to) = Register ∷ Place ∷ []
kinds_of (UnlessLess a b to) = Register ∷ Register ∷ Place ∷ []
kinds_of (Calls c) = call_kinds c
kinds_of Sync = []
kinds_of Halt = []
kinds_of (Abort a) = Register ∷ []

-- the greatest number that such an operand may be, in a code of so many instructions
abbrev pub most_of : Kind → ℕ → ℕ
most_of Register places = 255
most_of Number places = 2 ^ 32 - 1
most_of Place places = min places (2 ^ 32 - 1)

-- a negative integer passes here, as 0, and is J7
abbrev pub is_of_kind : Kind → ℕ → Data → Bool
is_of_kind kind places d = is_integer d && nat_le (natural_of (as_integer d)) (most_of kind places)

-- as many values as kinds, each of its kind
abbrev pub are_of_kinds : List Kind → ℕ → List Data → Bool
are_of_kinds [] places [] = true
are_of_kinds [] places (d ∷ ds) = false
are_of_kinds (kind ∷ kinds) places [] = false
are_of_kinds (kind ∷ kinds) places (d ∷ ds) = is_of_kind kind places d && are_of_kinds kinds places ds

abbrev pub has_operands : Option Instruction → ℕ → List Data → Bool
has_operands None places ds = false
has_operands (Some template) places ds = are_of_kinds (kinds_of template) places ds

-- an array of an instruction's name and its operands
abbrev pub is_instruction : ℕ → Data → Bool
is_instruction places d = has_operands (template_in (elements d)) places (drop 1 (elements d))

-- an array of instructions, whose jumps stay within it or go to its end
abbrev pub is_code : Data → Bool
is_code d = is_some (as_array d) && list_all (is_instruction (length (elements d))) (elements d)

-- an element of an instruction is negative
abbrev pub has_negative_number : Data → Bool
has_negative_number instruction = list_any is_negative (elements instruction)
