-- The operands of instructions (this profile).
use Rattle.std.specs.Prelude.{ℕ, List, ◌-◌, ◌^◌, min}
use Rattle.toml.specs.Data.{Data}
use Rattle.bsp_engine.specs.Tree.{number_at}
use Rattle.bsp_kernels.specs.declared.source.Source.{Source}
use Rattle.bsp_kernels.specs.declared.source.Source.TheVariants.{Nprocs, Pid, Step, MemoryLen, TagSize, MessagesLeft, WordsLeft, FirstLen, FirstTagLen, FirstTag, Taken, Argument, Constant}
use Rattle.bsp_kernels.specs.declared.call.Call.{Call}
use Rattle.bsp_kernels.specs.declared.call.Call.TheVariants.{Charge, Put, PutBlock, PutConstants, Get, Send, SendBlock, SendConstants, PushReg, PopReg, SetTagsize, Print, PrintBlock, Take, StoreTaken}
use Rattle.bsp_kernels.specs.declared.instruction.Instruction.{Instruction}
use Rattle.bsp_kernels.specs.declared.instruction.Instruction.TheVariants.{Number, Copy, Add, Compute, Read, Load, LoadAt, Store, Jump, Unless, UnlessLess, Call as Calls, Sync, Halt, Abort}

-- the register at a place of an instruction; its name stands at place 0
abbrev pub register_in : ℕ → List Data → ℕ
register_in place ds = min (number_at place ds) 255

abbrev pub number_in : ℕ → List Data → ℕ
number_in place ds = min (number_at place ds) (2 ^ 32 - 1)

abbrev pub filled_source : Source → List Data → Source
filled_source Nprocs ds = Nprocs
filled_source Pid ds = Pid
filled_source Step ds = Step
filled_source MemoryLen ds = MemoryLen
filled_source TagSize ds = TagSize
filled_source MessagesLeft ds = MessagesLeft
filled_source WordsLeft ds = WordsLeft
filled_source FirstLen ds = FirstLen
filled_source FirstTagLen ds = FirstTagLen
filled_source (FirstTag a) ds = FirstTag (register_in 2 ds)
filled_source (Taken a) ds = Taken (register_in 2 ds)
filled_source (Argument a) ds = Argument (register_in 2 ds)
filled_source (Constant a) ds = Constant (register_in 2 ds)

abbrev pub filled_call : Call → List Data → Call
filled_call (Charge a) ds = Charge (register_in 1 ds)
filled_call (Put a b c d e) ds = Put (register_in 1 ds) (register_in 2 ds) (register_in 3 ds) (register_in 4 ds) (register_in 5 ds)
filled_call (PutBlock a b c d e) ds = PutBlock (register_in 1 ds) (register_in 2 ds) (register_in 3 ds) (register_in 4 ds) (register_in 5 ds)
filled_call (PutConstants a b c d e) ds = PutConstants (register_in 1 ds) (register_in 2 ds) (register_in 3 ds) (register_in 4 ds) (register_in 5 ds)
filled_call (Get a b c d e) ds = Get (register_in 1 ds) (register_in 2 ds) (register_in 3 ds) (register_in 4 ds) (register_in 5 ds)
filled_call (Send a b c d e) ds = Send (register_in 1 ds) (register_in 2 ds) (register_in 3 ds) (register_in 4 ds) (register_in 5 ds)
filled_call (SendBlock a b c d e) ds = SendBlock (register_in 1 ds) (register_in 2 ds) (register_in 3 ds) (register_in 4 ds) (register_in 5 ds)
filled_call (SendConstants a b c d e) ds = SendConstants (register_in 1 ds) (register_in 2 ds) (register_in 3 ds) (register_in 4 ds) (register_in 5 ds)
filled_call (PushReg a b) ds = PushReg (register_in 1 ds) (register_in 2 ds)
filled_call (PopReg a) ds = PopReg (register_in 1 ds)
filled_call (SetTagsize a b) ds = SetTagsize (register_in 1 ds) (register_in 2 ds)
filled_call (Print a b) ds = Print (register_in 1 ds) (register_in 2 ds)
filled_call (PrintBlock a b) ds = PrintBlock (register_in 1 ds) (register_in 2 ds)
filled_call (Take a) ds = Take (register_in 1 ds)
filled_call (StoreTaken a b) ds = StoreTaken (register_in 1 ds) (register_in 2 ds)

-- the instruction with the operands that stand behind its name
abbrev pub filled : Instruction → List Data → Instruction
filled (Number a n) ds = Number (register_in 1 ds) (number_in 2 ds)
filled (Copy a b) ds = Copy (register_in 1 ds) (register_in 2 ds)
filled (Add a b c) ds = Add (register_in 1 ds) (register_in 2 ds) (register_in 3 ds)
filled (Compute o a b c) ds = Compute o (register_in 1 ds) (register_in 2 ds) (register_in 3 ds)
filled (Read a s) ds = Read (register_in 1 ds) (filled_source s ds)
filled (Load a b) ds = Load (register_in 1 ds) (register_in 2 ds)
filled (LoadAt a b c) ds = LoadAt (register_in 1 ds) (register_in 2 ds) (register_in 3 ds)
filled (Store a b) ds = Store (register_in 1 ds) (register_in 2 ds)
filled (Jump to) ds = Jump (number_in 1 ds)
filled (Unless a to) ds = Unless (register_in 1 ds) (number_in 2 ds)
filled (UnlessLess a b to) ds = UnlessLess (register_in 1 ds) (register_in 2 ds) (number_in 3 ds)
filled (Calls c) ds = Calls (filled_call c ds)
filled Sync ds = Sync
filled Halt ds = Halt
filled (Abort a) ds = Abort (register_in 1 ds)
