-- The machine that follows the instructions of a kernel.
use Rattle.std.specs.Prelude.{ℕ, zero, suc, List, [], ◌∷◌, ◌+◌, ◌==◌, Option, None, Some, length, take, drop, sum_by, nat_lt, slice_get, slice_index, slice_set, replicate, if◌then◌else◌}
use Rattle.bsp_model.specs.declared.fault.End.{End}
use Rattle.bsp_model.specs.declared.fault.End.TheVariants.{Sync as Synced, Halt as Halted, Abort as Aborted}
use Rattle.bsp_model.specs.declared.request.Message.{Message}
use Rattle.bsp_step.specs.ViewParts.{ViewParts}
use Rattle.bsp_step.specs.Queue.{first_words}
use Rattle.bsp_step.specs.Act as act
use Rattle.bsp_step.specs.Act.{Act}
use Rattle.bsp_step.specs.Blocks.{words_at, stores, stored}
use Rattle.bsp_step.specs.Plan.{Plan, does, after}
use Rattle.bsp_kernels.specs.declared.source.Source.{Source}
use Rattle.bsp_kernels.specs.declared.source.Source.TheVariants.{Nprocs, Pid, Step, MemoryLen, TagSize, MessagesLeft, WordsLeft, FirstLen, FirstTagLen, FirstTag, Taken, Argument, Constant}
use Rattle.bsp_kernels.specs.declared.call.Call.{Call}
use Rattle.bsp_kernels.specs.declared.call.Call.TheVariants.{Charge, Put, PutBlock, PutConstants, Get, Send, SendBlock, SendConstants, PushReg, PopReg, SetTagsize, Print, PrintBlock, Take, StoreTaken}
use Rattle.bsp_kernels.specs.declared.instruction.Instruction.{Instruction}
use Rattle.bsp_kernels.specs.declared.instruction.Instruction.TheVariants.{Number, Copy, Add, Compute, Read, Load, LoadAt, Store, Jump, Unless, UnlessLess, Call as Calls, Sync, Halt, Abort}
use Rattle.bsp_kernels.specs.Operators.{applied, sum_of, truth}

-- what stays the same in a turn: the constants of the kernel, and the view without the words of its memory
pub record Setting : Type 0 where
  pub constants : List ℕ
  pub nprocs : ℕ
  pub pid : ℕ
  pub step : ℕ
  pub args : List ℕ
  pub memory_len : ℕ
  pub tag_size : ℕ

abbrev pub setting_of : List ℕ → ViewParts → Setting
setting_of constants v = record { constants = constants; nprocs = v.nprocs; pid = v.pid; step = v.step; args = v.args; memory_len = length v.memory; tag_size = v.tag_size }

-- The state of the machine in a turn: the memory as it is now, the messages that are left, the words of the message that was taken last,
-- the place of the next instruction, and the registers.
pub record State : Type 0 where
  pub setting : Setting
  pub memory : List ℕ
  pub left : List Message
  pub taken : List ℕ
  pub place : ℕ
  pub registers : List ℕ

-- what an instruction does: its acts, how it ends the turn, if it does, and the state that it leaves
pub record Effect : Type 0 where
  pub acts : List Act
  pub ending : Option End
  pub next : State

-- the word of a register
abbrev pub word : State → ℕ → ℕ
word s r = slice_index s.registers r

-- the words of so many registers in a row
abbrev pub words : State → ℕ → ℕ → List ℕ
words s first count = take count (drop first s.registers)

-- the block of own words, or of constants, whose start and length are in registers
abbrev pub own_block : State → ℕ → ℕ → Option (List ℕ)
own_block s from len = words_at s.memory (word s from) (word s len)

abbrev pub constant_block : State → ℕ → ℕ → Option (List ℕ)
constant_block s from len = words_at s.setting.constants (word s from) (word s len)

-- the tag of the first message that is left
abbrev pub first_tag : List Message → List ℕ
first_tag [] = []
first_tag (m ∷ later) = m.tag

-- what a source gives, if it gives a word
abbrev pub source_word : State → Source → Option ℕ
source_word s Nprocs = Some s.setting.nprocs
source_word s Pid = Some s.setting.pid
source_word s Step = Some s.setting.step
source_word s MemoryLen = Some s.setting.memory_len
source_word s TagSize = Some s.setting.tag_size
source_word s MessagesLeft = Some (length s.left)
source_word s WordsLeft = Some (sum_by (λ m. length m.words) s.left)
source_word s FirstLen = Some (length (first_words s.left))
source_word s FirstTagLen = Some (length (first_tag s.left))
source_word s (FirstTag a) = slice_get (first_tag s.left) (word s a)
source_word s (Taken a) = slice_get s.taken (word s a)
source_word s (Argument a) = slice_get s.setting.args (word s a)
source_word s (Constant a) = slice_get s.setting.constants (word s a)

-- the code of the abort that ends a turn where a source gives no word
abbrev pub code_without : Source → ℕ
code_without (Argument a) = 2
code_without source = 1

-- the state behind the instruction
abbrev pub behind : State → State
behind s = record s { place = s.place + 1 }

-- the state behind it, with a word in a register
abbrev pub with_word : State → ℕ → ℕ → State
with_word s r w = record s { place = s.place + 1; registers = slice_set s.registers r w }

abbrev pub goes : State → Effect
goes next = record { acts = []; ending = None; next = next }

abbrev pub ends : State → End → Effect
ends s how = record { acts = []; ending = Some how; next = s }

abbrev pub makes : State → Act → Effect
makes s a = record { acts = a ∷ []; ending = None; next = behind s }

-- a word that is not there ends the turn by an abort with this code
abbrev pub sets : State → ℕ → ℕ → Option ℕ → Effect
sets s r code None = ends s (Aborted code)
sets s r code (Some w) = goes (with_word s r w)

-- so does a block of words that is not there
abbrev pub makes_with : State → Option (List ℕ) → (List ℕ → Act) → Effect
makes_with s None a = ends s (Aborted 1)
makes_with s (Some ws) a = makes s (a ws)

-- an act whose answer a register is set to
abbrev pub answers : State → Act → ℕ → ℕ → Effect
answers s a r w = record { acts = a ∷ []; ending = None; next = with_word s r w }

-- the turn goes on at a place where a word is 0
abbrev pub unless : State → ℕ → ℕ → Effect
unless s w to = goes (record s { place = if w == 0 then to else s.place + 1 })

abbrev pub stores_word : State → ℕ → ℕ → Effect
stores_word s a w = record { acts = act.store a w ∷ []; ending = None; next = record (behind s) { memory = slice_set s.memory a w } }

abbrev pub stores_words : State → ℕ → List ℕ → Effect
stores_words s into ws = record { acts = stores into ws; ending = None; next = record (behind s) { memory = stored s.memory into ws } }

abbrev pub takes : State → ℕ → Effect
takes s r =
    record {
      acts = act.move_into (length (first_words s.left)) ∷ [];
      ending = None;
      next = record (with_word s r (length (first_words s.left))) { left = drop 1 s.left; taken = first_words s.left };
    }

-- What a call does in a state (this profile).
abbrev pub call_effect : State → Call → Effect
call_effect s (Charge n) = makes s (act.charge (word s n))
call_effect s (Put pid first count area offset) = makes s (act.put (word s pid) (words s first count) (word s area) (word s offset))
call_effect s (PutBlock pid from len area offset) = makes_with s (own_block s from len) (λ ws. act.put (word s pid) ws (word s area) (word s offset))
call_effect s (PutConstants pid from len area offset) = makes_with s (constant_block s from len) (λ ws. act.put (word s pid) ws (word s area) (word s offset))
call_effect s (Get pid area offset into len) = makes s (act.get (word s pid) (word s area) (word s offset) (word s into) (word s len))
call_effect s (Send pid tag tag_len first count) = makes s (act.send (word s pid) (words s tag tag_len) (words s first count))
call_effect s (SendBlock pid tag tag_len from len) = makes_with s (own_block s from len) (λ ws. act.send (word s pid) (words s tag tag_len) ws)
call_effect s (SendConstants pid tag tag_len from len) = makes_with s (constant_block s from len) (λ ws. act.send (word s pid) (words s tag tag_len) ws)
call_effect s (PushReg start len) = makes s (act.push_reg (word s start) (word s len))
call_effect s (PopReg start) = makes s (act.pop_reg (word s start))
call_effect s (SetTagsize r size) = answers s (act.set_tagsize (word s size)) r s.setting.tag_size
call_effect s (Print first count) = makes s (act.print (words s first count))
call_effect s (PrintBlock from len) = makes_with s (own_block s from len) act.print
call_effect s (Take r) = takes s r
call_effect s (StoreTaken into count) = stores_words s (word s into) (take (word s count) s.taken)

-- What an instruction does in a state (this profile). Behind the last instruction the turn ends by sync.
abbrev pub effect : State → Option Instruction → Effect
effect s None = ends s Synced
effect s (Some (Number r n)) = goes (with_word s r n)
effect s (Some (Copy r a)) = goes (with_word s r (word s a))
effect s (Some (Add r a b)) = goes (with_word s r (sum_of (word s a) (word s b)))
effect s (Some (Compute how r a b)) = sets s r 5 (applied how (word s a) (word s b))
effect s (Some (Read r source)) = sets s r (code_without source) (source_word s source)
effect s (Some (Load r a)) = sets s r 1 (slice_get s.memory (word s a))
effect s (Some (LoadAt r a b)) = sets s r 1 (slice_get s.memory (sum_of (word s a) (word s b)))
effect s (Some (Store a w)) = stores_word s (word s a) (word s w)
effect s (Some (Jump to)) = goes (record s { place = to })
effect s (Some (Unless a to)) = unless s (word s a) to
effect s (Some (UnlessLess a b to)) = unless s (truth (nat_lt (word s a) (word s b))) to
effect s (Some (Calls call)) = call_effect s call
effect s (Some Sync) = ends s Synced
effect s (Some Halt) = ends s Halted
effect s (Some (Abort code)) = ends s (Aborted (word s code))

-- the state in which a turn begins: at place 0, with 0 in each register
abbrev pub first_state : Setting → List ℕ → List Message → State
first_state g memory left = record { setting = g; memory = memory; left = left; taken = []; place = 0; registers = replicate 256 0 }

-- these acts, and then the rest, unless the turn has ended
abbrev pub followed : List Act → Option End → Plan → Plan
followed acts (Some how) rest = does acts how
followed acts None rest = after acts rest

-- What is done from a state on, in so many instructions. Where they do not end the turn, it ends by Abort(6).
-- The machine has a memory and a queue of its own. Behind a fault they may differ from the context's, which nobody sees.
abbrev pub plan_from : List Instruction → ℕ → State → Plan
plan_from code zero s = does [] (Aborted 6)
plan_from code (suc n) s =
    let e = effect s (slice_get code s.place) in
    followed e.acts e.ending (plan_from code n e.next)
