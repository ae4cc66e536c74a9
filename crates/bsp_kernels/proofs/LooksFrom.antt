-- Laws of what instructions show, for the loop that looks for an address.
use Rattle.std.proofs.Common.{◌≡◌, ◌<◌, ◌≤◌, ℕ, length, arith, zero, suc, ◌+◌, Bool, true, false, List, [], ◌∷◌, None, Some, Option, drop, refl, ap, sym, ◌∙◌, add-one}
use Rattle.std.specs.Prelude.{slice_get, slice_set, ◌||◌}
use Rattle.std.proofs.lemmas.Option.{slice_get_past}
use Rattle.bsp_model.specs.declared.request.Message.{Message}
use Rattle.bsp_step.specs.Queue.{first_words}
use Rattle.bsp_kernels.specs.declared.instruction.Instruction.{Instruction}
use Rattle.bsp_kernels.specs.declared.looking.Knowledge.{Knowledge}
use Rattle.bsp_kernels.specs.declared.looking.Shown.TheVariants.{Everywhere, Over, Reads}
use Rattle.bsp_kernels.specs.Inside.Showing.{Shows, block_shown, known_at, taken_words}
use Rattle.bsp_kernels.specs.Known.{Known, Sight, everywhere, over, reads, reads_block, sight, takes_known, within, looked, looks_from}
use Rattle.bsp_kernels.specs.Machine.{Setting}

-- the instruction at a place of the code
at_place : (code xs : List Instruction) (place : ℕ) (i : Instruction) → xs ≡ code → slice_get xs place ≡ Some i → slice_get code place ≡ Some i
at_place code xs place i same is = ap (λ (ys : List Instruction). slice_get ys place) (sym same) ∙ is

-- where at least one more instruction is followed
looks_from-more : (code : List Instruction) (n m : ℕ) (g : Setting) (k : Known) (a : ℕ) (here : Option Instruction) → n ≡ suc m → slice_get code k.place ≡ here → looks_from code n g k a ≡ looked (sight g k here) a (λ next. looks_from code m g next a)
looks_from-more code n m g k a here count is =
    ap (λ l. looks_from code l g k a) count ∙ ap (λ (o : Option Instruction). looked (sight g k o) a (λ next. looks_from code m g next a)) is

shows-everywhere : (v : Sight) (queue : List Message) (after : Knowledge) (a : ℕ) (later : Known → Bool) → Shows v Everywhere queue after → looked v a later ≡ true
shows-everywhere everywhere queue after a later h = refl
shows-everywhere over queue after a later h = let no : ⊥ = cc in absurd no
shows-everywhere (reads from len k) queue after a later h = let e = h.0 in let no : ⊥ = cc in absurd no

shows-over : (v : Sight) (queue : List Message) (after : Knowledge) (a : ℕ) (later : Known → Bool) → Shows v Over queue after → looked v a later ≡ false
shows-over everywhere queue after a later h = let no : ⊥ = cc in absurd no
shows-over over queue after a later h = refl
shows-over (reads from len k) queue after a later h = let e = h.0 in let no : ⊥ = cc in absurd no

-- an instruction that goes on shows so many words, and all that is shown behind it
shows-reads : (v : Sight) (from len next : ℕ) (queue : List Message) (after : Knowledge) (a : ℕ) (later : Known → Bool) → Shows v (Reads from len next) queue after → looked v a later ≡ (within from len a || later (known_at queue after next))
shows-reads everywhere from len next queue after a later h = let no : ⊥ = cc in absurd no
shows-reads over from len next queue after a later h = let no : ⊥ = cc in absurd no
shows-reads (reads f l k) from len next queue after a later h =
    let e = h.0 in
    let first : from ≡ f = cc in
    let count : len ≡ l = cc in
    let place : k.place ≡ next = cc in
    let on : k ≡ known_at queue after next = sym h.1 ∙ ap (known_at queue after) place in
    λ i. within (sym first i) (sym count i) a || later (on i)

-- At which addresses a turn looks from an instruction on, where at least one more is followed: by what the code knows there, and by what it shows.

pub past-from : (code xs : List Instruction) (n m : ℕ) (g : Setting) (k : Known) → n ≡ suc m → xs ≡ code → length xs ≤ k.place → (a : ℕ) → looks_from code n g k a ≡ false
past-from code xs n m g k count same past a =
    looks_from-more code n m g k a None count (ap (λ (ys : List Instruction). slice_get ys k.place) (sym same) ∙ slice_get_past xs k.place past)

pub everywhere-from : (code xs : List Instruction) (n m : ℕ) (g : Setting) (k : Known) (i : Instruction) (queue : List Message) (after : Knowledge) → n ≡ suc m → xs ≡ code → slice_get xs k.place ≡ Some i → Shows (sight g k (Some i)) Everywhere queue after → (a : ℕ) → looks_from code n g k a ≡ true
everywhere-from code xs n m g k i queue after count same is h a =
    looks_from-more code n m g k a (Some i) count (at_place code xs k.place i same is) ∙ shows-everywhere (sight g k (Some i)) queue after a (λ next. looks_from code m g next a) h

pub over-from : (code xs : List Instruction) (n m : ℕ) (g : Setting) (k : Known) (i : Instruction) (queue : List Message) (after : Knowledge) → n ≡ suc m → xs ≡ code → slice_get xs k.place ≡ Some i → Shows (sight g k (Some i)) Over queue after → (a : ℕ) → looks_from code n g k a ≡ false
over-from code xs n m g k i queue after count same is h a =
    looks_from-more code n m g k a (Some i) count (at_place code xs k.place i same is) ∙ shows-over (sight g k (Some i)) queue after a (λ next. looks_from code m g next a) h

pub reads-from : (code xs : List Instruction) (n m : ℕ) (g : Setting) (k : Known) (i : Instruction) (from len next : ℕ) (queue : List Message) (after : Knowledge) → n ≡ suc m → xs ≡ code → slice_get xs k.place ≡ Some i → Shows (sight g k (Some i)) (Reads from len next) queue after → (a : ℕ) → looks_from code n g k a ≡ (within from len a || looks_from code m g (known_at queue after next) a)
reads-from code xs n m g k i from len next queue after count same is h a =
    looks_from-more code n m g k a (Some i) count (at_place code xs k.place i same is) ∙ shows-reads (sight g k (Some i)) from len next queue after a (λ later. looks_from code m g later a) h

pub or_false : (x y : Bool) → x ≡ false → (x || y) ≡ y
or_false true y e = let no : ⊥ = cc in absurd no
or_false false y e = refl

pub block-shows : (queue : List Message) (k : Knowledge) (place : ℕ) (from len : Option ℕ) → Shows (reads_block (known_at queue k place) from len) (block_shown from len (place + 1)) queue k
block-shows queue k place None len = refl
block-shows queue k place (Some from) None = refl
block-shows queue k place (Some from) (Some len) = (refl, refl)

drop_one : (n : ℕ) (xs : List Message) → drop 1 (drop n xs) ≡ drop (suc n) xs
drop_one zero xs = refl
drop_one (suc n) [] = refl
drop_one (suc n) (x ∷ xs) = drop_one n xs

pub drop-more : (n : ℕ) (xs : List Message) → drop 1 (drop n xs) ≡ drop (n + 1) xs
drop-more n xs = drop_one n xs ∙ ap (λ k. drop k xs) (sym (add-one n))

-- one more message is taken
pub taken-more : (n : ℕ) (queue : List Message) → taken_words queue (n + 1) ≡ first_words (drop n queue)
taken-more n queue = ap (taken_words queue) (add-one n)

none-left : (n : ℕ) (queue : List Message) → length queue ≤ n → drop n queue ≡ []
none-left zero [] few = refl
none-left zero (m ∷ queue) few = absurd (omega arith)
none-left (suc n) [] few = refl
none-left (suc n) (m ∷ queue) few = none-left n queue (omega arith)

-- no further message is taken where none is left
pub drop-past : (n : ℕ) (queue : List Message) → length queue < n → drop 1 (drop n queue) ≡ drop n queue
drop-past zero queue past = absurd (omega arith)
drop-past (suc n) [] past = refl
drop-past (suc n) (m ∷ queue) past = drop-past n queue (omega arith)

pub taken-past : (n : ℕ) (queue : List Message) → length queue < n → taken_words queue n ≡ first_words (drop n queue)
taken-past zero queue past = absurd (omega arith)
taken-past (suc n) queue past = ap first_words (none-left n queue (omega arith) ∙ sym (none-left (suc n) queue (omega arith)))

-- the first message that is left is taken
pub takes-shown : (queue : List Message) (old mid new : Knowledge) (len r place : ℕ) → new ≡ record mid { registers = slice_set mid.registers r len; known = slice_set mid.known r true } → mid.registers ≡ old.registers → mid.known ≡ old.known → drop mid.taken queue ≡ drop 1 (drop old.taken queue) → taken_words queue mid.taken ≡ first_words (drop old.taken queue) → len ≡ length (first_words (drop old.taken queue)) → known_at queue new place ≡ takes_known (known_at queue old place) r
takes-shown queue old mid new len r place is registers known left taken count =
    ap (λ (k : Knowledge). known_at queue k place) is
    ∙ (λ i. record { left = left i; taken = taken i; place = place; registers = slice_set (registers i) r (count i); known = slice_set (known i) r true })
