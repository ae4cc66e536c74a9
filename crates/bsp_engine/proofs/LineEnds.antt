-- Texts that begin alike: a word ends where a space stands, and a line where LF does.
use Rattle.std.proofs.Common.{◌≡◌, ◌<◌, ◌≤◌, ◌/◌, ◌%◌, ◌+◌, ◌==◌, ℕ, zero, suc, true, false, cond, List, [], ◌∷◌, ◌++◌, decimal, nat_le, nat_lt, refl, sym, ◌∙◌, subst, arith, append_assoc}
use Rattle.std.specs.Prelude.{⊤}
use Rattle.std.specs.List.{list_all}
use Rattle.std.specs.Fmt.{digits, digits_onto, digit_glyph}
use Rattle.std.proofs.lemmas.Bool.{and_parts}
use Rattle.std.proofs.lemmas.Bool.Decides.{nat_tests}
use Rattle.std.proofs.lemmas.List.{append_cancel_left}
use Rattle.bsp_text.specs.Lines.{fields, line}

-- all characters are this large
abbrev pub AreFrom : ℕ → List ℕ → Type 0
AreFrom least [] = ⊤
AreFrom least (c ∷ cs) = (least ≤ c) × AreFrom least cs

-- the first character, if there is one, is less
abbrev pub EndsBelow : ℕ → List ℕ → Type 0
EndsBelow least [] = ⊤
EndsBelow least (c ∷ cs) = c < least

pub AreFrom-test : (least : ℕ) (cs : List ℕ) → list_all (nat_le least) cs ≡ true → AreFrom least cs
AreFrom-test least [] e = tt
AreFrom-test least (c ∷ cs) e =
    let (here, more) = and_parts (nat_le least c) (list_all (nat_le least) cs) e in
    let low : least ≤ c = grind (arith, nat_tests) in
    (low, AreFrom-test least cs more)

pub AreFrom-append : (least : ℕ) (cs ds : List ℕ) → AreFrom least cs → AreFrom least ds → AreFrom least (cs ++ ds)
AreFrom-append least [] ds a b = b
AreFrom-append least (c ∷ cs) ds a b = (a.0, AreFrom-append least cs ds a.1 b)

AreFrom-less : (least less : ℕ) (cs : List ℕ) → less ≤ least → AreFrom least cs → AreFrom less cs
AreFrom-less least less [] l a = tt
AreFrom-less least less (c ∷ cs) l a = let low : less ≤ c = omega (arith, a.0) in (low, AreFrom-less least less cs l a.1)

-- where one text goes on in two ways, the parts before and behind are the same
pub same_parts : (least : ℕ) (a b x y : List ℕ) → AreFrom least a → AreFrom least b → EndsBelow least x → EndsBelow least y → a ++ x ≡ b ++ y → (a ≡ b) × (x ≡ y)
same_parts least [] [] x y f g p q e = (refl, e)
same_parts least [] (d ∷ b) x y f g p q e = let low : d < least = subst (EndsBelow least) e p in absurd (omega (arith, g.0))
same_parts least (c ∷ a) [] x y f g p q e = let low : c < least = subst (EndsBelow least) (sym e) q in absurd (omega (arith, f.0))
same_parts least (c ∷ a) (d ∷ b) x y f g p q e =
    let first : c ≡ d = cc in
    let more : a ++ x ≡ b ++ y = cc in
    let rest = same_parts least a b x y f.1 g.1 p q more in
    (λ k. first k ∷ rest.0 k, rest.1)

glyph_from : (d : ℕ) → 48 ≤ digit_glyph false d
glyph_from d = elim (nat_lt d 10) as (λ b. 48 ≤ cond b (48 + d) (87 + d)) [ true ↦ omega arith | false ↦ omega arith ]

digits_from : (k n : ℕ) (acc : List ℕ) → AreFrom 48 acc → AreFrom 48 (digits_onto k 10 false n acc)
digits_from zero n acc f = f
digits_from (suc k) n acc f =
    let more : AreFrom 48 (digit_glyph false (n % 10) ∷ acc) = (glyph_from (n % 10), f) in
    elim (n / 10 == 0) as (λ b. AreFrom 48 (cond b (digit_glyph false (n % 10) ∷ acc) (digits_onto k 10 false (n / 10) (digit_glyph false (n % 10) ∷ acc)))) [
      | true ↦ more
      | false ↦ digits_from k (n / 10) (digit_glyph false (n % 10) ∷ acc) more
    ]

pub decimal_from : (n : ℕ) → AreFrom 48 (decimal n)
unfolding digits
decimal_from n = digits_from 64 n [] tt

pub fields_from : (numbers : List ℕ) → AreFrom 11 (fields numbers)
fields_from [] = tt
fields_from (n ∷ ns) =
    let space : 11 ≤ 32 = omega arith in
    (space, AreFrom-append 11 (decimal n) (fields ns) (AreFrom-less 48 11 (decimal n) (omega arith) (decimal_from n)) (fields_from ns))

fields_end : (numbers : List ℕ) → EndsBelow 48 (fields numbers)
fields_end [] = tt
fields_end (n ∷ ns) = omega arith

-- the first number, and those behind it
pub same_numbers : (n m : ℕ) (ns ms : List ℕ) → fields (n ∷ ns) ≡ fields (m ∷ ms) → (decimal n ≡ decimal m) × (fields ns ≡ fields ms)
same_numbers n m ns ms e =
    let behind : decimal n ++ fields ns ≡ decimal m ++ fields ms = cc in
    same_parts 48 (decimal n) (decimal m) (fields ns) (fields ms) (decimal_from n) (decimal_from m) (fields_end ns) (fields_end ms) behind

-- the first line, and what is behind it
pub same_line : (a b x y : List ℕ) → AreFrom 11 a → AreFrom 11 b → (a ++ 10 ∷ []) ++ x ≡ (b ++ 10 ∷ []) ++ y → (a ≡ b) × (x ≡ y)
same_line a b x y f g e =
    let end : 10 < 11 = omega arith in
    let cut = same_parts 11 a b (10 ∷ x) (10 ∷ y) f g end end (sym (append_assoc a (10 ∷ []) x) ∙ e ∙ append_assoc b (10 ∷ []) y) in
    let behind : x ≡ y = let both = cut.1 in cc in
    (cut.0, behind)

-- two lines with the same word
pub same_fields : (word : List ℕ) (ns ms x y : List ℕ) → AreFrom 11 word → line word ns ++ x ≡ line word ms ++ y → (fields ns ≡ fields ms) × (x ≡ y)
same_fields word ns ms x y f e =
    let cut = same_line (word ++ fields ns) (word ++ fields ms) x y (AreFrom-append 11 word (fields ns) f (fields_from ns)) (AreFrom-append 11 word (fields ms) f (fields_from ms)) e in
    (append_cancel_left word (fields ns) (fields ms) cut.0, cut.1)
