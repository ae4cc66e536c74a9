-- The names of instructions (this profile).
use Rattle.std.specs.Prelude.{ℕ, List, Option, None, Some, codes, if◌then◌else◌}
use Rattle.std.specs.Str.{bytes_eq}
use Rattle.bsp_kernels.specs.declared.operator.Operator.{Operator}
use Rattle.bsp_kernels.specs.declared.operator.Operator.TheVariants as operator
use Rattle.bsp_kernels.specs.declared.source.Source.{Source}
use Rattle.bsp_kernels.specs.declared.source.Source.TheVariants as source
use Rattle.bsp_kernels.specs.declared.call.Call.{Call}
use Rattle.bsp_kernels.specs.declared.call.Call.TheVariants as call
use Rattle.bsp_kernels.specs.declared.instruction.Instruction.{Instruction}
use Rattle.bsp_kernels.specs.declared.instruction.Instruction.TheVariants as instruction

abbrev pub operator_named : List ℕ → Option Operator
operator_named text =
    if bytes_eq text (codes "sub") then Some operator.Sub
    else (if bytes_eq text (codes "mul") then Some operator.Mul
    else (if bytes_eq text (codes "div") then Some operator.Div
    else (if bytes_eq text (codes "rem") then Some operator.Rem
    else (if bytes_eq text (codes "and") then Some operator.And
    else (if bytes_eq text (codes "or") then Some operator.Or
    else (if bytes_eq text (codes "xor") then Some operator.Xor
    else (if bytes_eq text (codes "shl") then Some operator.Shl
    else (if bytes_eq text (codes "shr") then Some operator.Shr
    else (if bytes_eq text (codes "eq") then Some operator.Eq
    else (if bytes_eq text (codes "ne") then Some operator.Ne
    else (if bytes_eq text (codes "lt") then Some operator.Lt
    else (if bytes_eq text (codes "le") then Some operator.Le
    else None))))))))))))

-- a source, with 0 for its operand
abbrev pub source_named : List ℕ → Option Source
source_named text =
    if bytes_eq text (codes "nprocs") then Some source.Nprocs
    else (if bytes_eq text (codes "pid") then Some source.Pid
    else (if bytes_eq text (codes "step") then Some source.Step
    else (if bytes_eq text (codes "memory_len") then Some source.MemoryLen
    else (if bytes_eq text (codes "tag_size") then Some source.TagSize
    else (if bytes_eq text (codes "messages_left") then Some source.MessagesLeft
    else (if bytes_eq text (codes "words_left") then Some source.WordsLeft
    else (if bytes_eq text (codes "first_len") then Some source.FirstLen
    else (if bytes_eq text (codes "first_tag_len") then Some source.FirstTagLen
    else (if bytes_eq text (codes "first_tag") then Some (source.FirstTag 0)
    else (if bytes_eq text (codes "taken") then Some (source.Taken 0)
    else (if bytes_eq text (codes "argument") then Some (source.Argument 0)
    else (if bytes_eq text (codes "constant") then Some (source.Constant 0)
    else None))))))))))))

-- a call, with 0 for each operand
abbrev pub call_named : List ℕ → Option Call
call_named text =
    if bytes_eq text (codes "charge") then Some (call.Charge 0)
    else (if bytes_eq text (codes "put") then Some (call.Put 0 0 0 0 0)
    else (if bytes_eq text (codes "put_block") then Some (call.PutBlock 0 0 0 0 0)
    else (if bytes_eq text (codes "put_constants") then Some (call.PutConstants 0 0 0 0 0)
    else (if bytes_eq text (codes "get") then Some (call.Get 0 0 0 0 0)
    else (if bytes_eq text (codes "send") then Some (call.Send 0 0 0 0 0)
    else (if bytes_eq text (codes "send_block") then Some (call.SendBlock 0 0 0 0 0)
    else (if bytes_eq text (codes "send_constants") then Some (call.SendConstants 0 0 0 0 0)
    else (if bytes_eq text (codes "push_reg") then Some (call.PushReg 0 0)
    else (if bytes_eq text (codes "pop_reg") then Some (call.PopReg 0)
    else (if bytes_eq text (codes "set_tagsize") then Some (call.SetTagsize 0 0)
    else (if bytes_eq text (codes "print") then Some (call.Print 0 0)
    else (if bytes_eq text (codes "print_block") then Some (call.PrintBlock 0 0)
    else (if bytes_eq text (codes "take") then Some (call.Take 0)
    else (if bytes_eq text (codes "store_taken") then Some (call.StoreTaken 0 0)
    else None))))))))))))))

-- the instructions that neither compute, read a source nor make a call, with 0 for each operand
abbrev pub plain_named : List ℕ → Option Instruction
plain_named text =
    if bytes_eq text (codes "number") then Some (instruction.Number 0 0)
    else (if bytes_eq text (codes "copy") then Some (instruction.Copy 0 0)
    else (if bytes_eq text (codes "add") then Some (instruction.Add 0 0 0)
    else (if bytes_eq text (codes "load") then Some (instruction.Load 0 0)
    else (if bytes_eq text (codes "load_at") then Some (instruction.LoadAt 0 0 0)
    else (if bytes_eq text (codes "store") then Some (instruction.Store 0 0)
    else (if bytes_eq text (codes "jump") then Some (instruction.Jump 0)
    else (if bytes_eq text (codes "unless") then Some (instruction.Unless 0 0)
    else (if bytes_eq text (codes "unless_lt") then Some (instruction.UnlessLess 0 0 0)
    else (if bytes_eq text (codes "sync") then Some instruction.Sync
    else (if bytes_eq text (codes "halt") then Some instruction.Halt
    else (if bytes_eq text (codes "abort") then Some (instruction.Abort 0)
    else None)))))))))))

abbrev pub unless_call : Option Call → Option Instruction → Option Instruction
unless_call (Some c) other = Some (instruction.Call c)
unless_call None other = other

abbrev pub unless_source : Option Source → Option Instruction → Option Instruction
unless_source (Some s) other = Some (instruction.Read 0 s)
unless_source None other = other

abbrev pub unless_operator : Option Operator → Option Instruction → Option Instruction
unless_operator (Some o) other = Some (instruction.Compute o 0 0 0)
unless_operator None other = other

-- the instruction with this name, if there is one, with 0 for each operand
abbrev pub template_named : List ℕ → Option Instruction
template_named text =
    unless_operator (operator_named text) (unless_source (source_named text) (unless_call (call_named text) (plain_named text)))
