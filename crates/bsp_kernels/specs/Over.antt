-- What a kernel does over another memory that agrees with the first where it looks.
use Rattle.std.proofs.Common.{◌≡◌, ◌≤◌, ◌<◌, ℕ, zero, suc, ◌+◌, Bool, true, List, [], ◌∷◌, Option, None, Some, length, take, refl, sym, ap, subst, ◌∙◌, arith}
use Rattle.std.specs.Prelude.{slice_get, slice_set, nat_le, nat_lt}
use Rattle.std.proofs.Math.ListN.{length-set}
use Rattle.std.proofs.lemmas.Bool.{and_from, le-leb, lt-ltb, or_left, or_right}
use Rattle.bsp_model.specs.declared.fault.End.{End}
use Rattle.bsp_step.specs.Act as act
use Rattle.bsp_step.specs.Act.{Act}
use Rattle.bsp_step.specs.Blocks.{words_at, stored}
use Rattle.bsp_step.specs.Footprints.{slice_get-set_alike}
use Rattle.bsp_step.specs.LooksEverywhere.{same_memories}
use Rattle.bsp_step.specs.Plan.{Plan, after}
use Rattle.bsp_step.specs.Reads.{words_at-alike, stored-alike}
use Rattle.bsp_kernels.specs.declared.source.Source.{Source}
use Rattle.bsp_kernels.specs.declared.source.Source.TheVariants.{Nprocs, Pid, Step, MemoryLen, TagSize, MessagesLeft, WordsLeft, FirstLen, FirstTagLen, FirstTag, Taken, Argument, Constant}
use Rattle.bsp_kernels.specs.declared.call.Call.{Call}
use Rattle.bsp_kernels.specs.declared.call.Call.TheVariants.{Charge, Put, PutBlock, PutConstants, Get, Send, SendBlock, SendConstants, PushReg, PopReg, SetTagsize, Print, PrintBlock, Take, StoreTaken}
use Rattle.bsp_kernels.specs.declared.instruction.Instruction.{Instruction}
use Rattle.bsp_kernels.specs.declared.instruction.Instruction.TheVariants.{Number, Copy, Add, Compute, Read, Load, LoadAt, Store, Jump, Unless, UnlessLess, Call as Calls, Sync, Halt, Abort}
use Rattle.bsp_kernels.specs.Operators.{applied, sum_of}
use Rattle.bsp_kernels.specs.Machine.{Setting, State, Effect, source_word, code_without, word, words, own_block, constant_block, call_effect, effect, sets, makes_with, followed, plan_from}
use Rattle.bsp_kernels.specs.Known.{Known, Sight, everywhere, over, reads, both, added, known_word, reads_word, reads_block, call_sight, sight, within, looked, looks_from}
use Rattle.bsp_kernels.specs.Knowing.{Agrees, IsSeen, word-known, sum-known, sight-seen}

-- a memory of the same length with equal words at each address that is looked at
pub record IsAlike (looks : ℕ → Bool) (old new : List ℕ) : Type 0 where
  pub count : length old ≡ length new
  pub words : (a : ℕ) → looks a ≡ true → slice_get old a ≡ slice_get new a

IsAlike-set : (looks : ℕ → Bool) (old new : List ℕ) (i y : ℕ) → IsAlike looks old new → IsAlike looks (slice_set old i y) (slice_set new i y)
IsAlike-set looks old new i y h =
    record {
      count = length-set old i y ∙ h.count ∙ sym (length-set new i y);
      words = λ a look. slice_get-set_alike old new i y a (h.words a look);
    }

length-stored : (memory : List ℕ) (start : ℕ) (ws : List ℕ) → length (stored memory start ws) ≡ length memory
length-stored memory start [] = refl
length-stored memory start (w ∷ ws) = length-stored (slice_set memory start w) (start + 1) ws ∙ length-set memory start w

IsAlike-stored : (looks : ℕ → Bool) (old new : List ℕ) (start : ℕ) (ws : List ℕ) → IsAlike looks old new → IsAlike looks (stored old start ws) (stored new start ws)
IsAlike-stored looks old new start ws h =
    record {
      count = length-stored old start ws ∙ h.count ∙ sym (length-stored new start ws);
      words = λ a look. stored-alike old new start ws a (h.words a look);
    }

-- memories that are alike everywhere are equal
all_alike : (looks : ℕ → Bool) (old new : List ℕ) → ((a : ℕ) → looks a ≡ true) → IsAlike looks old new → old ≡ new
all_alike looks old new all h = same_memories old new h.count (λ a _. h.words a (all a))

abbrev pub with_memory : State → List ℕ → State
with_memory s m = record s { memory = m }

-- an effect over another memory: the same acts and ending, and the same next state but for its memory, which is alike
pub record IsSame (looks : ℕ → Bool) (e f : Effect) : Type 0 where
  pub acts : f.acts ≡ e.acts
  pub ending : f.ending ≡ e.ending
  pub memory : List ℕ
  pub next : f.next ≡ with_memory e.next memory
  pub alike : IsAlike looks e.next.memory memory

-- the addresses at which an instruction looks are looked at
abbrev pub IsCovered : (ℕ → Bool) → Sight → Type 0
IsCovered looks everywhere = (a : ℕ) → looks a ≡ true
IsCovered looks over = Unit {0}
IsCovered looks (reads from len k) = (a : ℕ) → within from len a ≡ true → looks a ≡ true

within-is : (from len a : ℕ) → from ≤ a → a < from + len → within from len a ≡ true
within-is from len a above below = and_from (nat_le from a) (nat_lt a (from + len)) (le-leb from a above) (lt-ltb a (from + len) below)

sets-same : (looks : ℕ → Bool) (s : State) (m : List ℕ) (r code : ℕ) (o : Option ℕ) → IsAlike looks s.memory m → IsSame looks (sets s r code o) (sets (with_memory s m) r code o)
sets-same looks s m r code None h = record { acts = refl; ending = refl; memory = m; next = refl; alike = h }
sets-same looks s m r code (Some w) h = record { acts = refl; ending = refl; memory = m; next = refl; alike = h }

made-same : (looks : ℕ → Bool) (s : State) (m : List ℕ) (o : Option (List ℕ)) (a : List ℕ → Act) → IsAlike looks s.memory m → IsSame looks (makes_with s o a) (makes_with (with_memory s m) o a)
made-same looks s m None a h = record { acts = refl; ending = refl; memory = m; next = refl; alike = h }
made-same looks s m (Some ws) a h = record { acts = refl; ending = refl; memory = m; next = refl; alike = h }

word-same : (looks : ℕ → Bool) (k : Known) (old new : List ℕ) (d w : ℕ) (o : Option ℕ) → ((x : ℕ) → o ≡ Some x → w ≡ x) → IsCovered looks (reads_word k d o) → IsAlike looks old new → slice_get old w ≡ slice_get new w
word-same looks k old new d w None is covered h = h.words w (covered w)
word-same looks k old new d w (Some x) is covered h =
    let here : w ≡ x = is x refl in
    h.words w (covered w (within-is x 1 w (omega arith) (omega arith)))

block-same : (looks : ℕ → Bool) (k : Known) (old new : List ℕ) (from len : ℕ) (o p : Option ℕ) → ((x : ℕ) → o ≡ Some x → from ≡ x) → ((x : ℕ) → p ≡ Some x → len ≡ x) → IsCovered looks (reads_block k o p) → IsAlike looks old new → words_at old from len ≡ words_at new from len
block-same looks k old new from len None p is_from is_len covered h = words_at-alike old new from len h.count (λ a _ _. h.words a (covered a))
block-same looks k old new from len (Some x) None is_from is_len covered h = words_at-alike old new from len h.count (λ a _ _. h.words a (covered a))
block-same looks k old new from len (Some x) (Some y) is_from is_len covered h =
    let first : from ≡ x = is_from x refl in
    let count : len ≡ y = is_len y refl in
    words_at-alike old new from len h.count (λ a above below. h.words a (covered a (within-is x y a (omega arith) (omega arith))))

-- no source is a word of the memory
source-reads : (s : State) (m : List ℕ) (source : Source) → source_word (with_memory s m) source ≡ source_word s source
source-reads s m Nprocs = refl
source-reads s m Pid = refl
source-reads s m Step = refl
source-reads s m MemoryLen = refl
source-reads s m TagSize = refl
source-reads s m MessagesLeft = refl
source-reads s m WordsLeft = refl
source-reads s m FirstLen = refl
source-reads s m FirstTagLen = refl
source-reads s m (FirstTag a) = refl
source-reads s m (Taken a) = refl
source-reads s m (Argument a) = refl
source-reads s m (Constant a) = refl

source-same : (looks : ℕ → Bool) (s : State) (m : List ℕ) (r : ℕ) (source : Source) → IsAlike looks s.memory m → IsSame looks (effect s (Some (Read r source))) (effect (with_memory s m) (Some (Read r source)))
source-same looks s m r source h =
    subst (λ o. IsSame looks (sets s r (code_without source) (source_word s source)) (sets (with_memory s m) r (code_without source) o))
    (sym (source-reads s m source))
    (sets-same looks s m r (code_without source) (source_word s source) h)

-- a call does the same over a memory that is alike where it looks
call-same : (looks : ℕ → Bool) (g : Setting) (k : Known) (s : State) (m : List ℕ) (call : Call) → Agrees g k s → IsCovered looks (call_sight g k call) → IsAlike looks s.memory m → IsSame looks (call_effect s call) (call_effect (with_memory s m) call)
call-same looks g k s m (Charge n) agrees covered h = record { acts = refl; ending = refl; memory = m; next = refl; alike = h }
call-same looks g k s m (Put pid first count area offset) agrees covered h = record { acts = refl; ending = refl; memory = m; next = refl; alike = h }
call-same looks g k s m (PutBlock pid from len area offset) agrees covered h =
    let a = λ (ws : List ℕ). act.put (word s pid) ws (word s area) (word s offset) in
    subst (λ o. IsSame looks (makes_with s (own_block s from len) a) (makes_with (with_memory s m) o a))
    (block-same looks k s.memory m (word s from) (word s len) (known_word k from) (known_word k len) (λ x known. word-known g k s from x agrees known) (λ x known. word-known g k s len x agrees known) covered h)
    (made-same looks s m (own_block s from len) a h)
call-same looks g k s m (PutConstants pid from len area offset) agrees covered h = made-same looks s m (constant_block s from len) (λ (ws : List ℕ). act.put (word s pid) ws (word s area) (word s offset)) h
call-same looks g k s m (Get pid area offset into len) agrees covered h = record { acts = refl; ending = refl; memory = m; next = refl; alike = h }
call-same looks g k s m (Send pid tag tag_len first count) agrees covered h = record { acts = refl; ending = refl; memory = m; next = refl; alike = h }
call-same looks g k s m (SendBlock pid tag tag_len from len) agrees covered h =
    let a = λ (ws : List ℕ). act.send (word s pid) (words s tag tag_len) ws in
    subst (λ o. IsSame looks (makes_with s (own_block s from len) a) (makes_with (with_memory s m) o a))
    (block-same looks k s.memory m (word s from) (word s len) (known_word k from) (known_word k len) (λ x known. word-known g k s from x agrees known) (λ x known. word-known g k s len x agrees known) covered h)
    (made-same looks s m (own_block s from len) a h)
call-same looks g k s m (SendConstants pid tag tag_len from len) agrees covered h = made-same looks s m (constant_block s from len) (λ (ws : List ℕ). act.send (word s pid) (words s tag tag_len) ws) h
call-same looks g k s m (PushReg start len) agrees covered h = record { acts = refl; ending = refl; memory = m; next = refl; alike = h }
call-same looks g k s m (PopReg start) agrees covered h = record { acts = refl; ending = refl; memory = m; next = refl; alike = h }
call-same looks g k s m (SetTagsize r size) agrees covered h = record { acts = refl; ending = refl; memory = m; next = refl; alike = h }
call-same looks g k s m (Print first count) agrees covered h = record { acts = refl; ending = refl; memory = m; next = refl; alike = h }
call-same looks g k s m (PrintBlock from len) agrees covered h =
    subst (λ o. IsSame looks (makes_with s (own_block s from len) act.print) (makes_with (with_memory s m) o act.print))
    (block-same looks k s.memory m (word s from) (word s len) (known_word k from) (known_word k len) (λ x known. word-known g k s from x agrees known) (λ x known. word-known g k s len x agrees known) covered h)
    (made-same looks s m (own_block s from len) act.print h)
call-same looks g k s m (Take r) agrees covered h = record { acts = refl; ending = refl; memory = m; next = refl; alike = h }
call-same looks g k s m (StoreTaken into count) agrees covered h =
    let ws = take (word s count) s.taken in
    record { acts = refl; ending = refl; memory = stored m (word s into) ws; next = refl; alike = IsAlike-stored looks s.memory m (word s into) ws h }

-- an instruction does the same over a memory that is alike where it looks
effect-same : (looks : ℕ → Bool) (g : Setting) (k : Known) (s : State) (m : List ℕ) (i : Option Instruction) → Agrees g k s → IsCovered looks (sight g k i) → IsAlike looks s.memory m → IsSame looks (effect s i) (effect (with_memory s m) i)
effect-same looks g k s m None agrees covered h = record { acts = refl; ending = refl; memory = m; next = refl; alike = h }
effect-same looks g k s m (Some (Number r n)) agrees covered h = record { acts = refl; ending = refl; memory = m; next = refl; alike = h }
effect-same looks g k s m (Some (Copy r a)) agrees covered h = record { acts = refl; ending = refl; memory = m; next = refl; alike = h }
effect-same looks g k s m (Some (Add r a b)) agrees covered h = record { acts = refl; ending = refl; memory = m; next = refl; alike = h }
effect-same looks g k s m (Some (Compute how r a b)) agrees covered h = sets-same looks s m r 5 (applied how (word s a) (word s b)) h
effect-same looks g k s m (Some (Read r source)) agrees covered h = source-same looks s m r source h
effect-same looks g k s m (Some (Load r a)) agrees covered h =
    subst (λ o. IsSame looks (sets s r 1 (slice_get s.memory (word s a))) (sets (with_memory s m) r 1 o))
    (word-same looks k s.memory m r (word s a) (known_word k a) (λ x known. word-known g k s a x agrees known) covered h)
    (sets-same looks s m r 1 (slice_get s.memory (word s a)) h)
effect-same looks g k s m (Some (LoadAt r a b)) agrees covered h =
    let address = sum_of (word s a) (word s b) in
    subst (λ o. IsSame looks (sets s r 1 (slice_get s.memory address)) (sets (with_memory s m) r 1 o))
    (word-same looks k s.memory m r address (both added (known_word k a) (known_word k b)) (λ x known. sum-known g k s a b x agrees known) covered h)
    (sets-same looks s m r 1 (slice_get s.memory address) h)
effect-same looks g k s m (Some (Store a w)) agrees covered h = record { acts = refl; ending = refl; memory = slice_set m (word s a) (word s w); next = refl; alike = IsAlike-set looks s.memory m (word s a) (word s w) h }
effect-same looks g k s m (Some (Jump to)) agrees covered h = record { acts = refl; ending = refl; memory = m; next = refl; alike = h }
effect-same looks g k s m (Some (Unless a to)) agrees covered h = record { acts = refl; ending = refl; memory = m; next = refl; alike = h }
effect-same looks g k s m (Some (UnlessLess a b to)) agrees covered h = record { acts = refl; ending = refl; memory = m; next = refl; alike = h }
effect-same looks g k s m (Some (Calls call)) agrees covered h = call-same looks g k s m call agrees covered h
effect-same looks g k s m (Some Sync) agrees covered h = record { acts = refl; ending = refl; memory = m; next = refl; alike = h }
effect-same looks g k s m (Some Halt) agrees covered h = record { acts = refl; ending = refl; memory = m; next = refl; alike = h }
effect-same looks g k s m (Some (Abort code)) agrees covered h = record { acts = refl; ending = refl; memory = m; next = refl; alike = h }

-- all addresses at which the turn looks, from an instruction with this sight on, are looked at
abbrev AreLooked : (ℕ → Bool) → List Instruction → ℕ → Setting → Sight → Type 0
AreLooked looks code n g v = (a : ℕ) → looked v a (λ next. looks_from code n g next a) ≡ true → looks a ≡ true

covered-looked : (looks : ℕ → Bool) (code : List Instruction) (n : ℕ) (g : Setting) (v : Sight) → AreLooked looks code n g v → IsCovered looks v
covered-looked looks code n g everywhere h = λ a. h a refl
covered-looked looks code n g over h = tt
covered-looked looks code n g (reads from len k) h = λ a is. h a (or_left (within from len a) (looks_from code n g k a) is)

-- from a state on, in at most n instructions, the plan is the same over a memory that is alike where the turn looks, as far as l instructions show it
abbrev AreSame : (ℕ → Bool) → List Instruction → ℕ → ℕ → Setting → Type 0
AreSame looks code n l g = (k : Known) (s : State) (m : List ℕ) → Agrees g k s → IsAlike looks s.memory m → ((a : ℕ) → looks_from code l g k a ≡ true → looks a ≡ true) → plan_from code n s ≡ plan_from code n (with_memory s m)

rest-same : (looks : ℕ → Bool) (code : List Instruction) (n l : ℕ) (g : Setting) (v : Sight) (e : Effect) (m : List ℕ) → AreSame looks code n l g → AreLooked looks code l g v → IsSeen g v e → e.ending ≡ None → IsAlike looks e.next.memory m → plan_from code n e.next ≡ plan_from code n (with_memory e.next m)
rest-same looks code n l g everywhere e m same h seen goes alike =
    ap (λ x. plan_from code n (with_memory e.next x)) (all_alike looks e.next.memory m (λ a. h a refl) alike)
rest-same looks code n l g over e m same h seen goes alike = absurd (seen goes)
rest-same looks code n l g (reads from len k) e m same h seen goes alike =
    same k e.next m (seen goes) alike (λ a is. h a (or_right (within from len a) (looks_from code l g k a) is))

followed-same : (acts : List Act) (ending : Option End) (p q : Plan) → (ending ≡ None → p ≡ q) → followed acts ending p ≡ followed acts ending q
followed-same acts (Some how) p q h = refl
followed-same acts None p q h = ap (after acts) (h refl)

step-same : (looks : ℕ → Bool) (code : List Instruction) (n l : ℕ) (g : Setting) (k : Known) (s : State) (m : List ℕ) (i : Option Instruction) → AreSame looks code n l g → Agrees g k s → IsAlike looks s.memory m → AreLooked looks code l g (sight g k i) → followed (effect s i).acts (effect s i).ending (plan_from code n (effect s i).next) ≡ followed (effect (with_memory s m) i).acts (effect (with_memory s m) i).ending (plan_from code n (effect (with_memory s m) i).next)
step-same looks code n l g k s m i same agrees alike h =
    let e = effect s i in
    let one = effect-same looks g k s m i agrees (covered-looked looks code l g (sight g k i) h) alike in
    followed-same e.acts e.ending (plan_from code n e.next) (plan_from code n (with_memory e.next one.memory)) (λ goes. rest-same looks code n l g (sight g k i) e one.memory same h (sight-seen g k s i agrees) goes one.alike)
    ∙ sym (λ j. followed (one.acts j) (one.ending j) (plan_from code n (one.next j)))

pub plans-same : (looks : ℕ → Bool) (code : List Instruction) (n l : ℕ) (g : Setting) → AreSame looks code n l g
plans-same looks code zero l g k s m agrees alike h = refl
plans-same looks code (suc n) zero g k s m agrees alike h =
    ap (λ x. plan_from code (suc n) (with_memory s x)) (all_alike looks s.memory m (λ a. h a refl) alike)
plans-same looks code (suc n) (suc l) g k s m agrees alike h =
    step-same looks code n l g k s m (slice_get code s.place) (plans-same looks code n l g) agrees alike
    (λ a is. h a (subst (λ p. looked (sight g k (slice_get code p)) a (λ next. looks_from code l g next a) ≡ true) agrees.place is))
