-- The ranges in which stores are kept.
use Rattle.std.proofs.Common.{◌≡◌, ◌≢◌, ◌≤◌, ◌<◌, ◌+◌, ℕ, true, false, List, [], ◌∷◌, ◌++◌, length, get_or, take, drop, set, refl, sym, ap, ◌∙◌, subst, arith, suc, zero, add-zero, append_assoc, append-nil}
use Rattle.std.specs.Prelude.{◌==◌, if◌then◌else◌}
use Rattle.std.proofs.lemmas.Bool.Decides.{nat_tests}
use Rattle.std.proofs.lemmas.List.{take_all, take-append-le, drop-append-le, nil_from_length, length-append, length-drop}
use Rattle.bsp_model.specs.declared.request.Store.{Store}
use Rattle.bsp_model.specs.declared.range.Range.{Range}
use Rattle.bsp_model.specs.Stores.{records}
use Rattle.bsp_model.specs.Inside.Ranges.{stores_of, IsApart, AreRanges, longer, last_len}

pub length-records : (start : ℕ) (words : List ℕ) → length (records start words) ≡ length words
length-records start [] = refl
length-records start (word ∷ words) = ap suc (length-records (start + 1) words)

pub records-append : (start : ℕ) (xs ys : List ℕ) → records start (xs ++ ys) ≡ records start xs ++ records (start + length xs) ys
records-append start [] ys = ap (λ k. records k ys) (sym (add-zero start))
records-append start (x ∷ xs) ys =
    let next : start + 1 + length xs ≡ start + length (x ∷ xs) = omega arith in
    ap (λ (later : List Store). record { addr = start; value = x } ∷ later) (records-append (start + 1) xs ys ∙ ap (λ k. records (start + 1) xs ++ records k ys) next)

-- the last range where the words go on behind it
last_longer : (start len : ℕ) (values words : List ℕ) → length (drop len values) ≡ 0 → len ≤ length values
    → records start (take (len + length words) (values ++ words)) ++ [] ≡ (records start (take len values) ++ []) ++ records (start + len) words
last_longer start len values words none within =
    let whole : take (len + length words) (values ++ words) ≡ values ++ words = take_all _ _ (omega (arith, length-append values words, length-drop len values)) in
    let front : take len values ≡ values = take_all _ _ (omega (arith, length-drop len values)) in
    let long : length values ≡ len = omega (arith, length-drop len values) in
    append-nil _
    ∙ ap (records start) whole
    ∙ records-append start values words
    ∙ ap (λ (n : ℕ). records start values ++ records (start + n) words) long
    ∙ ap (λ (ws : List ℕ). records start ws ++ records (start + len) words) (sym front)
    ∙ ap (λ (ss : List Store). ss ++ records (start + len) words) (sym (append-nil (records start (take len values))))

-- a range of its own behind the last one
last_apart : (r : Range) (start : ℕ) (values words : List ℕ) → length (drop r.len values) ≡ 0 → r.len ≤ length values
    → records r.start (take r.len (values ++ words)) ++ (records start (take (length words) (drop r.len (values ++ words))) ++ []) ≡ (records r.start (take r.len values) ++ []) ++ records start words
last_apart r start values words none within =
    let front : take r.len (values ++ words) ≡ take r.len values = take-append-le r.len values words within in
    let left : drop r.len (values ++ words) ≡ words = drop-append-le r.len values words within ∙ ap (λ (ws : List ℕ). ws ++ words) (nil_from_length _ none) in
    let back : take (length words) (drop r.len (values ++ words)) ≡ words = ap (take (length words)) left ∙ take_all _ _ (omega arith) in
    ap (λ (ws : List ℕ). records r.start ws ++ (records start (take (length words) (drop r.len (values ++ words))) ++ [])) front
    ∙ ap (λ (ws : List ℕ). records r.start (take r.len values) ++ (records start ws ++ [])) back
    ∙ ap (λ (ss : List Store). records r.start (take r.len values) ++ ss) (append-nil (records start words))
    ∙ ap (λ (ss : List Store). ss ++ records start words) (sym (append-nil (records r.start (take r.len values))))

-- what is kept once more words are stored
pub stores_of-longer : (ranges : List Range) (values words : List ℕ) (start : ℕ) → AreRanges ranges values → stores_of (longer ranges start (length words)) (values ++ words) ≡ stores_of ranges values ++ records start words
unfolding stores_of
stores_of-longer [] values words start are =
    append-nil _ ∙ ap (λ (vs : List ℕ). records start (take (length words) (vs ++ words))) (nil_from_length values are) ∙ ap (records start) (take_all (length words) words (omega arith))
stores_of-longer (r ∷ []) values words start are =
    elim (start == r.start + r.len) as (λ b. (start == r.start + r.len) ≡ b → stores_of (if b then record { start = r.start; len = r.len + length words } ∷ [] else r ∷ record { start = start; len = length words } ∷ []) (values ++ words) ≡ stores_of (r ∷ []) values ++ records start words) [
      | true ↦ λ test.
          let at : start ≡ r.start + r.len = grind (arith, nat_tests) in
          last_longer r.start r.len values words are.3 are.1 ∙ ap (λ (n : ℕ). (records r.start (take r.len values) ++ []) ++ records n words) (sym at)
      | false ↦ λ test. last_apart r start values words are.3 are.1
    ] refl
stores_of-longer (r ∷ next ∷ later) values words start are =
    let front : take r.len (values ++ words) ≡ take r.len values = take-append-le r.len values words are.1 in
    let left : drop r.len (values ++ words) ≡ drop r.len values ++ words = drop-append-le r.len values words are.1 in
    ap (λ (ws : List ℕ). records r.start ws ++ stores_of (longer (next ∷ later) start (length words)) (drop r.len (values ++ words))) front
    ∙ ap (λ (ws : List ℕ). records r.start (take r.len values) ++ stores_of (longer (next ∷ later) start (length words)) ws) left
    ∙ ap (λ (ss : List Store). records r.start (take r.len values) ++ ss) (stores_of-longer (next ∷ later) (drop r.len values) words start are.3)
    ∙ sym (append_assoc (records r.start (take r.len values)) (stores_of (next ∷ later) (drop r.len values)) (records start words))

-- they are ranges again

IsApart-longer : (r next : Range) (later : List Range) (start len : ℕ) → IsApart r (next ∷ later) → IsApart r (longer (next ∷ later) start len)
IsApart-longer r next [] start len apart = elim (start == next.start + next.len) as (λ b. IsApart r (if b then record { start = next.start; len = next.len + len } ∷ [] else next ∷ record { start = start; len = len } ∷ [])) [ true ↦ apart | false ↦ apart ]
IsApart-longer r next (behind ∷ later) start len apart = apart

pub AreRanges-longer : (ranges : List Range) (values words : List ℕ) (start : ℕ) → 0 < length words → AreRanges ranges values → AreRanges (longer ranges start (length words)) (values ++ words)
AreRanges-longer [] values words start some are =
    (some, omega (arith, length-append values words), tt, omega (arith, length-append values words, length-drop (length words) (values ++ words)))
AreRanges-longer (r ∷ []) values words start some are =
    let long : length (values ++ words) ≡ r.len + length words = omega (arith, are.1, are.3, length-append values words, length-drop r.len values) in
    elim (start == r.start + r.len) as (λ b. (start == r.start + r.len) ≡ b → AreRanges (if b then record { start = r.start; len = r.len + length words } ∷ [] else r ∷ record { start = start; len = length words } ∷ []) (values ++ words)) [
      | true ↦ λ test. (omega (arith, are.0), omega (arith, long), tt, omega (arith, long, length-drop (r.len + length words) (values ++ words)))
      | false ↦ λ test.
          let apart : start ≢ r.start + r.len = λ e. grind (arith, nat_tests) in
          (are.0, omega (arith, long), apart, (some, omega (arith, long, length-drop r.len (values ++ words)), tt, omega (arith, long, length-drop r.len (values ++ words), length-drop (length words) (drop r.len (values ++ words)))))
    ] refl
AreRanges-longer (r ∷ next ∷ later) values words start some are =
    let left : drop r.len (values ++ words) ≡ drop r.len values ++ words = drop-append-le r.len values words are.1 in
    let behind = AreRanges-longer (next ∷ later) (drop r.len values) words start some are.3 in
    (are.0, omega (arith, are.1, length-append values words), IsApart-longer r next later start (length words) are.2, subst (AreRanges (longer (next ∷ later) start (length words))) (sym left) behind)

pub last_len-within : (ranges : List Range) (values : List ℕ) → AreRanges ranges values → last_len ranges ≤ length values
last_len-within [] values are = omega arith
last_len-within (r ∷ []) values are = are.1
last_len-within (r ∷ next ∷ later) values are = omega (arith, last_len-within (next ∷ later) (drop r.len values) are.3, length-drop r.len values)

-- the last range, by its place

pub last_len-is : (ranges : List Range) (i : ℕ) (d : Range) → length ranges ≡ i + 1 → (get_or ranges i d).len ≡ last_len ranges
last_len-is [] i d e = absurd (omega arith)
last_len-is (r ∷ []) zero d e = refl
last_len-is (r ∷ []) (suc i) d e = absurd (omega arith)
last_len-is (r ∷ next ∷ later) zero d e = absurd (omega arith)
last_len-is (r ∷ next ∷ later) (suc i) d e = last_len-is (next ∷ later) i d (omega arith)

-- behind it, words are added to it
pub longer-on : (ranges : List Range) (i : ℕ) (d : Range) (start len : ℕ) → length ranges ≡ i + 1 → start ≡ (get_or ranges i d).start + (get_or ranges i d).len
    → set ranges i record { start = (get_or ranges i d).start; len = (get_or ranges i d).len + len } ≡ longer ranges start len
longer-on [] i d start len e on = absurd (omega arith)
longer-on (r ∷ []) zero d start len e on = let test : (start == r.start + r.len) ≡ true = grind (arith, nat_tests) in rw test refl
longer-on (r ∷ []) (suc i) d start len e on = absurd (omega arith)
longer-on (r ∷ next ∷ later) zero d start len e on = absurd (omega arith)
longer-on (r ∷ next ∷ later) (suc i) d start len e on = ap (λ (rs : List Range). r ∷ rs) (longer-on (next ∷ later) i d start len (omega arith) on)

-- elsewhere, they are a range of their own
pub longer-apart : (ranges : List Range) (i : ℕ) (d : Range) (start len : ℕ) → length ranges ≡ i + 1 → start ≢ (get_or ranges i d).start + (get_or ranges i d).len
    → ranges ++ record { start = start; len = len } ∷ [] ≡ longer ranges start len
longer-apart [] i d start len e apart = absurd (omega arith)
longer-apart (r ∷ []) zero d start len e apart = let test : (start == r.start + r.len) ≡ false = grind (arith, nat_tests) in rw test refl
longer-apart (r ∷ []) (suc i) d start len e apart = absurd (omega arith)
longer-apart (r ∷ next ∷ later) zero d start len e apart = absurd (omega arith)
longer-apart (r ∷ next ∷ later) (suc i) d start len e apart = ap (λ (rs : List Range). r ∷ rs) (longer-apart (next ∷ later) i d start len (omega arith) apart)
