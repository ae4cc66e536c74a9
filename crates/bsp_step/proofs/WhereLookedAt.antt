-- Two memories at the addresses that are looked at.
use Rattle.std.proofs.Common.{◌≡◌, ℕ, ◌<◌, Bool, true, false, List, Some, All, length, get_or, drop, min, ◌+◌, ◌-◌, ◌%◌, ◌≤◌, arith, length-take, length-drop, ◌==◌, ◌&&◌, ◌||◌, ◌⊎◌, not, refl, sym, ap, ◌∙◌, subst}
use Rattle.std.specs.Bool.{Decides}
use Rattle.std.proofs.lemmas.Bool.{false≢true, cases_lt, or_left, or_right}
use Rattle.std.proofs.lemmas.List.{get_or-take, get_or-drop}
use mathlib.Core.Logic.{inl, inr}
use Rattle.std.specs.List.{list_all, range_with_len}
use Rattle.std.proofs.lemmas.Bool.Decides.{Decides-and, Decides-eqb, Decides-like, Decides-by_and, not_from_Decides, same_from_decides}
use Rattle.std.proofs.lemmas.Grind.{same_number_lists}
use Rattle.std.proofs.lemmas.List.FromFn.{length-range_with_len, get_or-range_with_len}
use Rattle.bsp_model.specs.Memory.{rest_of_page}
use Rattle.bsp_step.specs.Footprint.{same_where_looked_at}

one_word : (looked same : Bool) {P : Type 0} → Decides same P → Decides (not looked || same) (looked ≡ true → P)
one_word true same h = (λ e _. h.0 e, λ k. h.1 (k refl))
one_word false same h = (λ _ e. cc, λ _. refl)

-- the words are equal at each address that is looked at
pub Decides-where_looked_at : (looks : ℕ → Bool) (m n : List ℕ) → Decides (same_where_looked_at looks m n) ((a : ℕ) → a < length m → looks a ≡ true → get_or m a 0 ≡ get_or n a 0)
Decides-where_looked_at looks m n =
    let test : ℕ → Bool = λ a. not (looks a) || (get_or m a 0 == get_or n a 0) in
    let fact : ℕ → Type 0 = λ a. looks a ≡ true → get_or m a 0 ≡ get_or n a 0 in
    let range = range_with_len 0 (length m) in
    let long : length range ≡ length m = length-range_with_len 0 (length m) in
    Decides-like (list_all test range)
    (λ (h : All fact range). λ a l. let at : get_or range a 0 ≡ a = get_or-range_with_len 0 (length m) a 0 l ∙ omega arith in subst fact at (h a 0 (omega arith)))
    (λ (h : (a : ℕ) → a < length m → fact a). λ k d l. let here : k < length m = omega arith in let at : get_or range k d ≡ k = get_or-range_with_len 0 (length m) k d here ∙ omega arith in subst fact (sym at) (h k here))
    (Decides-by_and test fact (list_all test) (λ a. one_word (looks a) (get_or m a 0 == get_or n a 0) (Decides-eqb (get_or m a 0) (get_or n a 0))) refl (λ _ _. refl) range)

-- the same test, made of the words wherever they lie
pub all_looked_at : (looks : ℕ → Bool) (m n before after : List ℕ) (same : Bool) → before ≡ m → after ≡ n → Decides same ((i : ℕ) → i < length before → looks (0 + i) ≡ true → get_or before i 0 ≡ get_or after i 0) → same ≡ same_where_looked_at looks m n
all_looked_at looks m n before after same is_m is_n decides =
    let at : (i : ℕ) → 0 + i ≡ i = λ i. omega arith in
    subst (λ ys. same ≡ same_where_looked_at looks m ys) is_n
    (subst (λ xs. same ≡ same_where_looked_at looks xs after) is_m
    (same_from_decides same (same_where_looked_at looks before after)
    (λ t i l k. decides.0 t i l (ap looks (at i) ∙ k), λ h. decides.1 (λ i l k. h i l (ap looks (sym (at i)) ∙ k)))
    (Decides-where_looked_at looks before after)))

-- equal memories are the same wherever they are looked at
pub where-same : (looks : ℕ → Bool) (m n : List ℕ) → m ≡ n → same_where_looked_at looks m n ≡ true
where-same looks m n e = (Decides-where_looked_at looks m n).1 (λ a l k. ap (λ (ws : List ℕ). get_or ws a 0) e)

-- so are memories that are looked at nowhere
pub where-none : (looks : ℕ → Bool) (m n : List ℕ) → ((a : ℕ) → looks a ≡ false) → same_where_looked_at looks m n ≡ true
where-none looks m n none = (Decides-where_looked_at looks m n).1 (λ a l k. absurd (false≢true (sym (none a) ∙ k)))

false_if : {P : Type 0} → (b : Bool) → Decides b P → (P → ⊥) → b ≡ false
false_if true decides none = absurd (none (decides.0 refl))
false_if false decides none = refl

-- different memories that are looked at everywhere are not
pub where-everywhere : (looks : ℕ → Bool) (m n : List ℕ) → ((a : ℕ) → looks a ≡ true) → length m ≡ length n → (m ≡ n → ⊥) → same_where_looked_at looks m n ≡ false
where-everywhere looks m n every long differ =
    false_if (same_where_looked_at looks m n) (Decides-where_looked_at looks m n) (λ h. differ (same_number_lists m n long (λ a l. h a l (every a))))

either : (x y : Bool) → (x || y) ≡ true → (x ≡ true) ⊎ (y ≡ true)
either true y e = inl refl
either false y e = inr e

-- two kinds of addresses that are looked at
pub where-either : (p q looks : ℕ → Bool) (m n : List ℕ) → ((a : ℕ) → looks a ≡ (p a || q a)) → same_where_looked_at looks m n ≡ (same_where_looked_at p m n && same_where_looked_at q m n)
where-either p q looks m n each =
    let same : ℕ → Type 0 = λ a. get_or m a 0 ≡ get_or n a 0 in
    same_from_decides (same_where_looked_at looks m n) (same_where_looked_at p m n && same_where_looked_at q m n)
    (Decides-where_looked_at looks m n)
    (Decides-like (same_where_looked_at p m n && same_where_looked_at q m n)
    (λ (e : ((a : ℕ) → a < length m → p a ≡ true → same a) × ((a : ℕ) → a < length m → q a ≡ true → same a)). λ (a : ℕ) (l : a < length m) (k : looks a ≡ true).
    elim (either (p a) (q a) (sym (each a) ∙ k)) as (λ _. same a) [ inl here ↦ e.0 a l here | inr there ↦ e.1 a l there ])
    (λ (h : (a : ℕ) → a < length m → looks a ≡ true → same a). (λ a l k. h a l (each a ∙ or_left (p a) (q a) k), λ a l k. h a l (each a ∙ or_right (p a) (q a) k)))
    (Decides-and (same_where_looked_at p m n) (same_where_looked_at q m n) (Decides-where_looked_at p m n) (Decides-where_looked_at q m n)))

-- pages of the memories, from an address on

pub length_page : (m rest : List ℕ) (a : ℕ) → rest ≡ rest_of_page m a → length rest ≡ min (64 - a % 64) (length m - a)
length_page m rest a e = ap length e ∙ length-take (64 - a % 64) (drop a m) ∙ ap (λ (k : ℕ). min (64 - a % 64) k) (length-drop a m)

word_of_page : (m rest : List ℕ) (a i : ℕ) → rest ≡ rest_of_page m a → i < length rest → get_or rest i 0 ≡ get_or m (a + i) 0
word_of_page m rest a i e l =
    let long = length_page m rest a e in
    ap (λ (ws : List ℕ). get_or ws i 0) e ∙ get_or-take (64 - a % 64) (drop a m) i 0 (omega arith) ∙ get_or-drop a m i 0

-- at least one word, where the address is inside the memory, and none past its end
pub inside_page : (m rest : List ℕ) (a : ℕ) → rest ≡ rest_of_page m a → a < length m → (0 < length rest) × (a + length rest ≤ length m)
inside_page m rest a e l = let long = length_page m rest a e in (omega arith, omega arith)

same_length_page : (m n before after : List ℕ) (a : ℕ) → before ≡ rest_of_page m a → after ≡ rest_of_page n a → length m ≡ length n → length before ≡ length after
same_length_page m n before after a e f long = length_page m before a e ∙ ap (λ (k : ℕ). min (64 - a % 64) (k - a)) long ∙ sym (length_page n after a f)

-- words that are equal where they are looked at, as far as the end of a page
pub alike_more : (looks : ℕ → Bool) (m n before after : List ℕ) (a next : ℕ) → before ≡ rest_of_page m a → after ≡ rest_of_page n a → length m ≡ length n → next ≡ a + length before → ((b : ℕ) → b < a → looks b ≡ true → get_or m b 0 ≡ get_or n b 0) → ((i : ℕ) → i < length before → looks (a + i) ≡ true → get_or before i 0 ≡ get_or after i 0) → (b : ℕ) → b < next → looks b ≡ true → get_or m b 0 ≡ get_or n b 0
alike_more looks m n before after a next e f long end so_far page b l k =
    elim (cases_lt b a) as (λ _. get_or m b 0 ≡ get_or n b 0) [
      | inl low ↦ so_far b low k
      | inr from ↦
          let i = b - a in
          let at : a + i ≡ b = omega arith in
          let here : i < length before = omega arith in
          let there : i < length after = omega (arith, same_length_page m n before after a e f long) in
          ap (λ (c : ℕ). get_or m c 0) (sym at)
          ∙ sym (word_of_page m before a i e here)
          ∙ page i here (ap looks at ∙ k)
          ∙ word_of_page n after a i f there
          ∙ ap (λ (c : ℕ). get_or n c 0) at
    ]

-- what fails at a page fails
pub not_where_looked_at : (looks : ℕ → Bool) (m n before after : List ℕ) (a : ℕ) (same : Bool) → before ≡ rest_of_page m a → after ≡ rest_of_page n a → length m ≡ length n → a < length m → Decides same ((i : ℕ) → i < length before → looks (a + i) ≡ true → get_or before i 0 ≡ get_or after i 0) → same ≡ false → false ≡ same_where_looked_at looks m n
not_where_looked_at looks m n before after a same e f long l d fails =
    let inside = inside_page m before a e l in
    let many = same_length_page m n before after a e f long in
    same_from_decides false (same_where_looked_at looks m n) (
      λ (t : false ≡ true). absurd (false≢true t),
      λ (h : (b : ℕ) → b < length m → looks b ≡ true → get_or m b 0 ≡ get_or n b 0).
          absurd (not_from_Decides same d fails (λ i here k. word_of_page m before a i e here ∙ h (a + i) (omega (arith, inside.1, here)) k ∙ sym (word_of_page n after a i f (omega arith)))),
    )
    (Decides-where_looked_at looks m n)
