-- What is known of a turn is so: registers that are known have their words.
use Rattle.std.proofs.Common.{◌≡◌, ℕ, zero, suc, ◌+◌, Bool, true, false, cond, List, [], ◌∷◌, Option, None, Some, drop, length, get_or, set, refl, sym, ap, ◌∙◌}
use Rattle.std.specs.Prelude.{slice_get, slice_index, slice_index_or, nat_lt, ◌==◌}
use Rattle.bsp_step.specs.Act as act
use Rattle.bsp_step.specs.Act.{Act}
use Rattle.bsp_model.specs.declared.request.Message.{Message}
use Rattle.bsp_step.specs.Queue.{first_words}
use Rattle.bsp_kernels.specs.declared.source.Source.{Source}
use Rattle.bsp_kernels.specs.declared.source.Source.TheVariants.{Nprocs, Pid, Step, MemoryLen, TagSize, MessagesLeft, WordsLeft, FirstLen, FirstTagLen, FirstTag, Taken, Argument, Constant}
use Rattle.bsp_kernels.specs.declared.call.Call.{Call}
use Rattle.bsp_kernels.specs.declared.call.Call.TheVariants.{Charge, Put, PutBlock, PutConstants, Get, Send, SendBlock, SendConstants, PushReg, PopReg, SetTagsize, Print, PrintBlock, Take, StoreTaken}
use Rattle.bsp_kernels.specs.declared.instruction.Instruction.{Instruction}
use Rattle.bsp_kernels.specs.declared.instruction.Instruction.TheVariants.{Number, Copy, Add, Compute, Read, Load, LoadAt, Store, Jump, Unless, UnlessLess, Call as Calls, Sync, Halt, Abort}
use Rattle.bsp_kernels.specs.Operators.{applied, sum_of, truth}
use Rattle.bsp_kernels.specs.Machine.{Setting, State, Effect, source_word, code_without, first_tag, word, own_block, constant_block, behind, with_word, call_effect, effect, sets, makes_with, unless}
use Rattle.bsp_kernels.specs.Known.{Known, Sight, everywhere, over, reads, known_word, learn, behind_known, takes_known, shown_source, both, added, less, at_known, reads_word, reads_block, branches, call_sight, sight}

-- each register that is known has its word
abbrev pub AreKnown : List Bool → List ℕ → List ℕ → Type 0
AreKnown [] xs ys = Unit {0}
AreKnown (b ∷ bs) [] [] = Unit {0}
AreKnown (b ∷ bs) [] (y ∷ ys) = ⊥
AreKnown (b ∷ bs) (x ∷ xs) [] = ⊥
AreKnown (b ∷ bs) (x ∷ xs) (y ∷ ys) = (b ≡ true → y ≡ x) × AreKnown bs xs ys

pub AreKnown-same : (bs : List Bool) (xs : List ℕ) → AreKnown bs xs xs
AreKnown-same [] xs = tt
AreKnown-same (b ∷ bs) [] = tt
AreKnown-same (b ∷ bs) (x ∷ xs) = (λ _. refl, AreKnown-same bs xs)

AreKnown-set : (bs : List Bool) (xs ys : List ℕ) (r : ℕ) (b : Bool) (x y : ℕ) → (b ≡ true → y ≡ x) → AreKnown bs xs ys → AreKnown (set bs r b) (set xs r x) (set ys r y)
AreKnown-set [] xs ys r b x y is h = tt
AreKnown-set (c ∷ bs) [] [] zero b x y is h = tt
AreKnown-set (c ∷ bs) [] [] (suc r) b x y is h = tt
AreKnown-set (c ∷ bs) [] (v ∷ ys) r b x y is h = absurd h
AreKnown-set (c ∷ bs) (u ∷ xs) [] r b x y is h = absurd h
AreKnown-set (c ∷ bs) (u ∷ xs) (v ∷ ys) zero b x y is h = (is, h.1)
AreKnown-set (c ∷ bs) (u ∷ xs) (v ∷ ys) (suc r) b x y is h = (h.0, AreKnown-set bs xs ys r b x y is h.1)

AreKnown-at : (bs : List Bool) (xs ys : List ℕ) (r : ℕ) → AreKnown bs xs ys → get_or bs r false ≡ true → get_or ys r 0 ≡ get_or xs r 0
AreKnown-at [] xs ys r h known = let no : ⊥ = cc in absurd no
AreKnown-at (b ∷ bs) [] [] r h known = refl
AreKnown-at (b ∷ bs) [] (y ∷ ys) r h known = absurd h
AreKnown-at (b ∷ bs) (x ∷ xs) [] r h known = absurd h
AreKnown-at (b ∷ bs) (x ∷ xs) (y ∷ ys) zero h known = h.0 known
AreKnown-at (b ∷ bs) (x ∷ xs) (y ∷ ys) (suc r) h known = AreKnown-at bs xs ys r h.1 known

-- what is known of a state is so
pub record Agrees (g : Setting) (k : Known) (s : State) : Type 0 where
  pub setting : s.setting ≡ g
  pub left : s.left ≡ k.left
  pub taken : s.taken ≡ k.taken
  pub place : s.place ≡ k.place
  pub registers : AreKnown k.known k.registers s.registers

chosen : (b : Bool) (x : ℕ) (w : ℕ) → cond b (Some x) None ≡ Some w → (b ≡ true) × (x ≡ w)
chosen true x w e = let same : x ≡ w = cc in (refl, same)
chosen false x w e = let no : ⊥ = cc in absurd no

pub word-known : (g : Setting) (k : Known) (s : State) (r w : ℕ) → Agrees g k s → known_word k r ≡ Some w → word s r ≡ w
word-known g k s r w h known =
    let c = chosen (slice_index_or k.known r false) (slice_index k.registers r) w known in
    AreKnown-at k.known k.registers s.registers r h.registers c.0 ∙ c.1

learns : (g : Setting) (k : Known) (s : State) (r : ℕ) (o : Option ℕ) (w : ℕ) → Agrees g k s → ((x : ℕ) → o ≡ Some x → w ≡ x) → Agrees g (learn k r o) (with_word s r w)
learns g k s r None w h is =
    record {
      setting = h.setting;
      left = h.left;
      taken = h.taken;
      place = ap (λ p. p + 1) h.place;
      registers = AreKnown-set k.known k.registers s.registers r false 0 w (λ e. let no : ⊥ = cc in absurd no) h.registers;
    }
learns g k s r (Some x) w h is =
    record {
      setting = h.setting;
      left = h.left;
      taken = h.taken;
      place = ap (λ p. p + 1) h.place;
      registers = AreKnown-set k.known k.registers s.registers r true x w (λ _. is x refl) h.registers;
    }

some-is : (x y : ℕ) → Some x ≡ Some y → x ≡ y
some-is x y e = cc

at_known-some : (ws : List ℕ) (o : Option ℕ) (x : ℕ) → at_known ws o ≡ Some x → (a : ℕ) × (o ≡ Some a) × (slice_get ws a ≡ Some x)
at_known-some ws None x e = let no : ⊥ = cc in absurd no
at_known-some ws (Some a) x e = (a, refl, e)

at-known : (g : Setting) (k : Known) (s : State) (ws vs : List ℕ) (r x : ℕ) → Agrees g k s → vs ≡ ws → at_known ws (known_word k r) ≡ Some x → slice_get vs (word s r) ≡ Some x
at-known g k s ws vs r x h same found =
    let parts = at_known-some ws (known_word k r) x found in
    (λ i. slice_get (same i) (word-known g k s r parts.0 h parts.1 i)) ∙ parts.2

-- what is known of a source is so
shown-is : (g : Setting) (k : Known) (s : State) (source : Source) (x : ℕ) → Agrees g k s → shown_source g k source ≡ Some x → source_word s source ≡ Some x
shown-is g k s Nprocs x h e = (λ i. Some (h.setting i).nprocs) ∙ e
shown-is g k s Pid x h e = (λ i. Some (h.setting i).pid) ∙ e
shown-is g k s Step x h e = (λ i. Some (h.setting i).step) ∙ e
shown-is g k s MemoryLen x h e = (λ i. Some (h.setting i).memory_len) ∙ e
shown-is g k s TagSize x h e = (λ i. Some (h.setting i).tag_size) ∙ e
shown-is g k s MessagesLeft x h e = (λ i. Some (length (h.left i))) ∙ e
shown-is g k s WordsLeft x h e = let no : ⊥ = cc in absurd no
shown-is g k s FirstLen x h e = (λ i. Some (length (first_words (h.left i)))) ∙ e
shown-is g k s FirstTagLen x h e = (λ i. Some (length (first_tag (h.left i)))) ∙ e
shown-is g k s (FirstTag a) x h e = at-known g k s (first_tag k.left) (first_tag s.left) a x h (ap first_tag h.left) e
shown-is g k s (Taken a) x h e = at-known g k s k.taken s.taken a x h h.taken e
shown-is g k s (Argument a) x h e = at-known g k s g.args s.setting.args a x h (ap (λ (c : Setting). c.args) h.setting) e
shown-is g k s (Constant a) x h e = at-known g k s g.constants s.setting.constants a x h (ap (λ (c : Setting). c.constants) h.setting) e

-- where the turn goes on, what is known behind an instruction is so
abbrev pub IsSeen : Setting → Sight → Effect → Type 0
IsSeen g everywhere e = Unit {0}
IsSeen g over e = e.ending ≡ None → ⊥
IsSeen g (reads from len k) e = e.ending ≡ None → Agrees g k e.next

sets-seen : (g : Setting) (k : Known) (s : State) (r code : ℕ) (o p : Option ℕ) → Agrees g k s → ((x w : ℕ) → o ≡ Some x → p ≡ Some w → w ≡ x) → (sets s r code p).ending ≡ None → Agrees g (learn k r o) (sets s r code p).next
sets-seen g k s r code o None h is goes = let no : ⊥ = cc in absurd no
sets-seen g k s r code o (Some w) h is goes = learns g k s r o w h (λ x known. is x w known refl)

both-some : (f : ℕ → ℕ → Option ℕ) (o p : Option ℕ) (x : ℕ) → both f o p ≡ Some x → (a : ℕ) × (b : ℕ) × (o ≡ Some a) × (p ≡ Some b) × (f a b ≡ Some x)
both-some f None p x e = let no : ⊥ = cc in absurd no
both-some f (Some a) None x e = let no : ⊥ = cc in absurd no
both-some f (Some a) (Some b) x e = (a, b, refl, refl, e)

behind-known : (g : Setting) (k : Known) (s : State) → Agrees g k s → Agrees g (behind_known k) (behind s)
behind-known g k s h = record { setting = h.setting; left = h.left; taken = h.taken; place = ap (λ p. p + 1) h.place; registers = h.registers }

word-seen : (g : Setting) (k : Known) (s : State) (r : ℕ) (o p : Option ℕ) → Agrees g k s → IsSeen g (reads_word k r o) (sets s r 1 p)
word-seen g k s r None p h = tt
word-seen g k s r (Some a) p h = sets-seen g k s r 1 None p h (λ x w known found. let no : ⊥ = cc in absurd no)

made-seen : (g : Setting) (k : Known) (s : State) (ws : Option (List ℕ)) (a : List ℕ → Act) → Agrees g k s → (makes_with s ws a).ending ≡ None → Agrees g (behind_known k) (makes_with s ws a).next
made-seen g k s None a h goes = let no : ⊥ = cc in absurd no
made-seen g k s (Some ws) a h goes = behind-known g k s h

block-seen : (g : Setting) (k : Known) (s : State) (o p : Option ℕ) (ws : Option (List ℕ)) (a : List ℕ → Act) → Agrees g k s → IsSeen g (reads_block k o p) (makes_with s ws a)
block-seen g k s None p ws a h = tt
block-seen g k s (Some from) None ws a h = tt
block-seen g k s (Some from) (Some len) ws a h = made-seen g k s ws a h

branch-seen : (g : Setting) (k : Known) (s : State) (v to : ℕ) (o : Option ℕ) → Agrees g k s → ((x : ℕ) → o ≡ Some x → v ≡ x) → IsSeen g (branches k to o) (unless s v to)
branch-seen g k s v to None h is = tt
branch-seen g k s v to (Some w) h is =
    λ goes. record {
      setting = h.setting;
      left = h.left;
      taken = h.taken;
      place = (λ i. cond (is w refl i == 0) to (h.place i + 1));
      registers = h.registers;
    }

takes-seen : (g : Setting) (k : Known) (s : State) (r : ℕ) → Agrees g k s → Agrees g (takes_known (behind_known k) r) (effect s (Some (Calls (Take r)))).next
takes-seen g k s r h =
    record {
      setting = h.setting;
      left = ap (drop 1) h.left;
      taken = ap first_words h.left;
      place = ap (λ p. p + 1) h.place;
      registers = AreKnown-set k.known k.registers s.registers r true (length (first_words k.left)) (length (first_words s.left)) (λ _. ap (λ (left : List Message). length (first_words left)) h.left) h.registers;
    }

-- what a call shows is so
call-seen : (g : Setting) (k : Known) (s : State) (call : Call) → Agrees g k s → IsSeen g (call_sight g k call) (call_effect s call)
call-seen g k s (Charge n) h = λ goes. behind-known g k s h
call-seen g k s (Put pid first count area offset) h = λ goes. behind-known g k s h
call-seen g k s (PutBlock pid from len area offset) h = block-seen g k s (known_word k from) (known_word k len) (own_block s from len) _ h
call-seen g k s (PutConstants pid from len area offset) h = made-seen g k s (constant_block s from len) _ h
call-seen g k s (Get pid area offset into len) h = λ goes. behind-known g k s h
call-seen g k s (Send pid tag tag_len first count) h = λ goes. behind-known g k s h
call-seen g k s (SendBlock pid tag tag_len from len) h = block-seen g k s (known_word k from) (known_word k len) (own_block s from len) _ h
call-seen g k s (SendConstants pid tag tag_len from len) h = made-seen g k s (constant_block s from len) _ h
call-seen g k s (PushReg start len) h = λ goes. behind-known g k s h
call-seen g k s (PopReg start) h = λ goes. behind-known g k s h
call-seen g k s (SetTagsize r size) h = λ goes. learns g k s r (Some g.tag_size) s.setting.tag_size h (λ x known. (λ i. (h.setting i).tag_size) ∙ some-is g.tag_size x known)
call-seen g k s (Print first count) h = λ goes. behind-known g k s h
call-seen g k s (PrintBlock from len) h = block-seen g k s (known_word k from) (known_word k len) (own_block s from len) act.print h
call-seen g k s (Take r) h = λ goes. takes-seen g k s r h
call-seen g k s (StoreTaken into count) h = λ goes. record { setting = h.setting; left = h.left; taken = h.taken; place = ap (λ p. p + 1) h.place; registers = h.registers }

-- what is known of two words together is so
pub both-known : (f : ℕ → ℕ → Option ℕ) (g : Setting) (k : Known) (s : State) (a b x : ℕ) → Agrees g k s → both f (known_word k a) (known_word k b) ≡ Some x → f (word s a) (word s b) ≡ Some x
both-known f g k s a b x h known =
    let parts = both-some f (known_word k a) (known_word k b) x known in
    let first : word s a ≡ parts.0 = word-known g k s a parts.0 h parts.2 in
    let second : word s b ≡ parts.1 = word-known g k s b parts.1 h parts.3 in
    (λ i. f (first i) (second i)) ∙ parts.4

pub sum-known : (g : Setting) (k : Known) (s : State) (a b x : ℕ) → Agrees g k s → both added (known_word k a) (known_word k b) ≡ Some x → sum_of (word s a) (word s b) ≡ x
sum-known g k s a b x h known = some-is (sum_of (word s a) (word s b)) x (both-known added g k s a b x h known)

-- what an instruction shows is so
pub sight-seen : (g : Setting) (k : Known) (s : State) (i : Option Instruction) → Agrees g k s → IsSeen g (sight g k i) (effect s i)
sight-seen g k s None h = λ goes. cc
sight-seen g k s (Some (Number r n)) h = λ goes. learns g k s r (Some n) n h (λ x known. some-is n x known)
sight-seen g k s (Some (Copy r a)) h = λ goes. learns g k s r (known_word k a) (word s a) h (λ x known. word-known g k s a x h known)
sight-seen g k s (Some (Add r a b)) h = λ goes. learns g k s r (both added (known_word k a) (known_word k b)) (sum_of (word s a) (word s b)) h (λ x known. sum-known g k s a b x h known)
sight-seen g k s (Some (Compute how r a b)) h =
    sets-seen g k s r 5 (both (applied how) (known_word k a) (known_word k b)) (applied how (word s a) (word s b)) h (λ x w known found. some-is w x (sym found ∙ both-known (applied how) g k s a b x h known))
sight-seen g k s (Some (Read r source)) h =
    sets-seen g k s r (code_without source) (shown_source g k source) (source_word s source) h (λ x w known found.
    let same : Some w ≡ Some x = sym found ∙ shown-is g k s source x h known in
    cc)
sight-seen g k s (Some (Load r a)) h = word-seen g k s r (known_word k a) (slice_get s.memory (word s a)) h
sight-seen g k s (Some (LoadAt r a b)) h = word-seen g k s r (both added (known_word k a) (known_word k b)) (slice_get s.memory (sum_of (word s a) (word s b))) h
sight-seen g k s (Some (Store a w)) h = λ goes. record { setting = h.setting; left = h.left; taken = h.taken; place = ap (λ p. p + 1) h.place; registers = h.registers }
sight-seen g k s (Some (Jump to)) h = λ goes. record { setting = h.setting; left = h.left; taken = h.taken; place = refl; registers = h.registers }
sight-seen g k s (Some (Unless a to)) h = branch-seen g k s (word s a) to (known_word k a) h (λ x known. word-known g k s a x h known)
sight-seen g k s (Some (UnlessLess a b to)) h =
    let w = truth (nat_lt (word s a) (word s b)) in
    branch-seen g k s w to (both less (known_word k a) (known_word k b)) h (λ x known. some-is w x (both-known less g k s a b x h known))
sight-seen g k s (Some (Calls call)) h = call-seen g k s call h
sight-seen g k s (Some Sync) h = λ goes. cc
sight-seen g k s (Some Halt) h = λ goes. cc
sight-seen g k s (Some (Abort code)) h = λ goes. cc
