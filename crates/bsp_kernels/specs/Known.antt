-- What can be known of a turn without the words of its memory.
use Rattle.std.specs.Prelude.{ℕ, zero, suc, Bool, true, false, List, [], replicate, ◌+◌, ◌==◌, ◌&&◌, ◌||◌, Option, None, Some, length, drop, unwrap_or, nat_le, nat_lt, slice_get, slice_index, slice_index_or, slice_set, is_some, if◌then◌else◌}
use Rattle.bsp_model.specs.declared.request.Message.{Message}
use Rattle.bsp_step.specs.Queue.{first_words}
use Rattle.bsp_kernels.specs.declared.source.Source.{Source}
use Rattle.bsp_kernels.specs.declared.source.Source.TheVariants.{Nprocs, Pid, Step, MemoryLen, TagSize, MessagesLeft, WordsLeft, FirstLen, FirstTagLen, FirstTag, Taken, Argument, Constant}
use Rattle.bsp_kernels.specs.declared.call.Call.{Call}
use Rattle.bsp_kernels.specs.declared.call.Call.TheVariants.{Charge, Put, PutBlock, PutConstants, Get, Send, SendBlock, SendConstants, PushReg, PopReg, SetTagsize, Print, PrintBlock, Take, StoreTaken}
use Rattle.bsp_kernels.specs.declared.instruction.Instruction.{Instruction}
use Rattle.bsp_kernels.specs.declared.instruction.Instruction.TheVariants.{Number, Copy, Add, Compute, Read, Load, LoadAt, Store, Jump, Unless, UnlessLess, Call as Calls, Sync, Halt, Abort}
use Rattle.bsp_kernels.specs.Operators.{applied, sum_of, truth}
use Rattle.bsp_kernels.specs.Machine.{Setting, first_tag}

-- The messages that are left, the words of the message taken last, the place, the registers, and which of these are known: they do not depend on a word of the memory.
pub record Known : Type 0 where
  pub left : List Message
  pub taken : List ℕ
  pub place : ℕ
  pub registers : List ℕ
  pub known : List Bool

-- At which own words an instruction looks, and what is known behind it. Or it depends on words where the turn goes on, or at which words it looks.
pub data Sight : Type 0 where
  everywhere : Sight
  over : Sight
  reads : (from len : ℕ) → Known → Sight

abbrev pub known_word : Known → ℕ → Option ℕ
known_word k r = if slice_index_or k.known r false then Some (slice_index k.registers r) else None

-- a register is set to a word, or to one that is not known
abbrev pub learn : Known → ℕ → Option ℕ → Known
learn k r o = record k { place = k.place + 1; registers = slice_set k.registers r (unwrap_or o 0); known = slice_set k.known r (is_some o) }

abbrev pub both : (ℕ → ℕ → Option ℕ) → Option ℕ → Option ℕ → Option ℕ
both f None o = None
both f (Some x) None = None
both f (Some x) (Some y) = f x y

-- what may be known of a sum, and of a comparison
abbrev pub added : ℕ → ℕ → Option ℕ
added x y = Some (sum_of x y)

abbrev pub less : ℕ → ℕ → Option ℕ
less x y = Some (truth (nat_lt x y))

-- the word at a known index, if there is one
abbrev pub at_known : List ℕ → Option ℕ → Option ℕ
at_known ws None = None
at_known ws (Some i) = slice_get ws i

-- no word of the memory is read
abbrev pub goes_on : Known → Sight
goes_on k = reads 0 0 k

abbrev pub behind_known : Known → Known
behind_known k = record k { place = k.place + 1 }

-- the first message is taken
abbrev pub takes_known : Known → ℕ → Known
takes_known k r = record k { left = drop 1 k.left; taken = first_words k.left; registers = slice_set k.registers r (length (first_words k.left)); known = slice_set k.known r true }

abbrev pub reads_word : Known → ℕ → Option ℕ → Sight
reads_word k r None = everywhere
reads_word k r (Some a) = reads a 1 (learn k r None)

abbrev pub reads_block : Known → Option ℕ → Option ℕ → Sight
reads_block k None len = everywhere
reads_block k (Some from) None = everywhere
reads_block k (Some from) (Some len) = reads from len (behind_known k)

abbrev pub branches : Known → ℕ → Option ℕ → Sight
branches k to None = everywhere
branches k to (Some w) = goes_on (record k { place = if w == 0 then to else k.place + 1 })

-- each source but the count of the words left is known where its operand is
abbrev pub shown_source : Setting → Known → Source → Option ℕ
shown_source g k Nprocs = Some g.nprocs
shown_source g k Pid = Some g.pid
shown_source g k Step = Some g.step
shown_source g k MemoryLen = Some g.memory_len
shown_source g k TagSize = Some g.tag_size
shown_source g k MessagesLeft = Some (length k.left)
shown_source g k WordsLeft = None
shown_source g k FirstLen = Some (length (first_words k.left))
shown_source g k FirstTagLen = Some (length (first_tag k.left))
shown_source g k (FirstTag a) = at_known (first_tag k.left) (known_word k a)
shown_source g k (Taken a) = at_known k.taken (known_word k a)
shown_source g k (Argument a) = at_known g.args (known_word k a)
shown_source g k (Constant a) = at_known g.constants (known_word k a)

-- What a call shows (this profile).
abbrev pub call_sight : Setting → Known → Call → Sight
call_sight g k (Charge n) = goes_on (behind_known k)
call_sight g k (Put pid first count area offset) = goes_on (behind_known k)
call_sight g k (PutBlock pid from len area offset) = reads_block k (known_word k from) (known_word k len)
call_sight g k (PutConstants pid from len area offset) = goes_on (behind_known k)
call_sight g k (Get pid area offset into len) = goes_on (behind_known k)
call_sight g k (Send pid tag tag_len first count) = goes_on (behind_known k)
call_sight g k (SendBlock pid tag tag_len from len) = reads_block k (known_word k from) (known_word k len)
call_sight g k (SendConstants pid tag tag_len from len) = goes_on (behind_known k)
call_sight g k (PushReg start len) = goes_on (behind_known k)
call_sight g k (PopReg start) = goes_on (behind_known k)
call_sight g k (SetTagsize r size) = goes_on (learn k r (Some g.tag_size))
call_sight g k (Print first count) = goes_on (behind_known k)
call_sight g k (PrintBlock from len) = reads_block k (known_word k from) (known_word k len)
call_sight g k (Take r) = goes_on (takes_known (behind_known k) r)
call_sight g k (StoreTaken into count) = goes_on (behind_known k)

-- What an instruction shows (this profile).
abbrev pub sight : Setting → Known → Option Instruction → Sight
sight g k None = over
sight g k (Some (Number r n)) = goes_on (learn k r (Some n))
sight g k (Some (Copy r a)) = goes_on (learn k r (known_word k a))
sight g k (Some (Add r a b)) = goes_on (learn k r (both added (known_word k a) (known_word k b)))
sight g k (Some (Compute how r a b)) = goes_on (learn k r (both (applied how) (known_word k a) (known_word k b)))
sight g k (Some (Read r source)) = goes_on (learn k r (shown_source g k source))
sight g k (Some (Load r a)) = reads_word k r (known_word k a)
sight g k (Some (LoadAt r a b)) = reads_word k r (both added (known_word k a) (known_word k b))
sight g k (Some (Store a w)) = goes_on (behind_known k)
sight g k (Some (Jump to)) = goes_on (record k { place = to })
sight g k (Some (Unless a to)) = branches k to (known_word k a)
sight g k (Some (UnlessLess a b to)) = branches k to (both less (known_word k a) (known_word k b))
sight g k (Some (Calls call)) = call_sight g k call
sight g k (Some Sync) = over
sight g k (Some Halt) = over
sight g k (Some (Abort code)) = over

-- at first each register is known
abbrev pub first_known : List Message → Known
first_known left = record { left = left; taken = []; place = 0; registers = replicate 256 0; known = replicate 256 true }

abbrev pub within : ℕ → ℕ → ℕ → Bool
within from len address = nat_le from address && nat_lt address (from + len)

-- whether an instruction looks at an address, or the turn does so from what is known behind it
abbrev pub looked : Sight → ℕ → (Known → Bool) → Bool
looked everywhere address later = true
looked over address later = false
looked (reads from len k) address later = within from len address || later k

-- Whether the turn looks at an address from what is known on. Past so many instructions it looks at every word.
abbrev pub looks_from : List Instruction → ℕ → Setting → Known → ℕ → Bool
looks_from code zero g k address = true
looks_from code (suc n) g k address = looked (sight g k (slice_get code k.place)) address (λ next. looks_from code n g next address)
