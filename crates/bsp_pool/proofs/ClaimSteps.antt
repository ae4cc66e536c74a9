-- Each kind of step keeps the rule of the claim word.
use Rattle.std.proofs.Common.{◌≡◌, ◌≢◌, ℕ, zero, suc, ◌+◌, ◌*◌, ◌%◌, ◌<◌, ◌≤◌, List, [], ◌∷◌, ◌++◌, length, set, sym, refl, ap, ◌∙◌, subst, ⊎_elim, arith, length-append}
use Rattle.std.specs.Prelude.{All, slice_index}
use Rattle.std.proofs.lemmas.Bool.Decides.{nat_tests}
use Rattle.std.proofs.lemmas.List.{get_or-set_same, set-get_or}
use Rattle.std.proofs.Math.ListN.{length-set}
use mathlib.Core.Option.{some, some-injective, some-ne-none}
use lib.ListN.{get_elem?}
use Rattle.atomic_table.proofs.Lists.{at_set, at_snoc, set_again}
use Rattle.atomic_table.specs.Table.{State, Final, Seen}
use Rattle.bsp_pool.specs.Inside.Views.{View}
use Rattle.bsp_pool.specs.Numbers.{occurrences, units_kept, units_given}
use Rattle.bsp_pool.specs.Inside.Claim.{view_of, total, once_below, IsClaimed, Looks, kept_view, given_view, joined_view}

-- a sum after a change of one view
total_set : (f : View → ℕ) (views : List View) (seat : ℕ) (v w : View) → get_elem? views seat ≡ some v → total f (set views seat w) + f v ≡ total f views + f w
total_set f [] seat v w e = absurd (some-ne-none v (sym e))
total_set f (x ∷ xs) zero v w e = let same : f x ≡ f v = ap f (some-injective x v e) in omega arith
total_set f (x ∷ xs) (suc seat) v w e = let h = total_set f xs seat v w e in omega arith

total_snoc : (f : View → ℕ) (views : List View) (w : View) → total f (views ++ w ∷ []) ≡ total f views + f w
total_snoc f [] w = omega arith
total_snoc f (x ∷ xs) w = let h = total_snoc f xs w in omega arith

-- one view's part is at most the sum
total_part : (f : View → ℕ) (views : List View) (seat : ℕ) (v : View) → get_elem? views seat ≡ some v → f v ≤ total f views
total_part f [] seat v e = absurd (some-ne-none v (sym e))
total_part f (x ∷ xs) zero v e = let same : f x ≡ f v = ap f (some-injective x v e) in omega arith
total_part f (x ∷ xs) (suc seat) v e = let h = total_part f xs seat v e in omega arith

-- what holds of each view adds up
total_room : (views : List View) → ((seat : ℕ) (v : View) → get_elem? views seat ≡ some v → length v.numbers ≤ v.units * 4294967296) → total (λ v. length v.numbers) views ≤ total (λ v. v.units) views * 4294967296
total_room [] h = omega arith
total_room (x ∷ xs) h =
    let here = h zero x refl in
    let more = total_room xs (λ seat v e. h (suc seat) v e) in
    omega arith

-- where f is 0 of each view with no g, and one view has all of g, that view has all of f
total_none : (f g : View → ℕ) (views : List View) → total g views ≡ 0 → ((seat : ℕ) (u : View) → get_elem? views seat ≡ some u → g u ≡ 0 → f u ≡ 0) → total f views ≡ 0
total_none f g [] z h = refl
total_none f g (x ∷ xs) z h =
    let zx : g x ≡ 0 = omega arith in
    let zs : total g xs ≡ 0 = omega arith in
    let here = h zero x refl zx in
    let more = total_none f g xs zs (λ seat u e. h (suc seat) u e) in
    omega arith

total_whole : (f g : View → ℕ) (views : List View) (seat : ℕ) (v : View) → get_elem? views seat ≡ some v → total g views ≡ g v → ((seat : ℕ) (u : View) → get_elem? views seat ≡ some u → g u ≡ 0 → f u ≡ 0) → total f views ≡ f v
total_whole f g [] seat v e all h = absurd (some-ne-none v (sym e))
total_whole f g (x ∷ xs) zero v e all h =
    let same : f x ≡ f v = ap f (some-injective x v e) in
    let same' : g x ≡ g v = ap g (some-injective x v e) in
    let rest = total_none f g xs (omega arith) (λ seat u e. h (suc seat) u e) in
    omega arith
total_whole f g (x ∷ xs) (suc seat) v e all h =
    let part = total_part g xs seat v e in
    let none = h zero x refl (omega arith) in
    let rest = total_whole f g xs seat v e (omega arith) (λ seat u e. h (suc seat) u e) in
    omega arith

pub occurrences-append : (x : ℕ) (xs ys : List ℕ) → occurrences x (xs ++ ys) ≡ occurrences x xs + occurrences x ys
occurrences-append x [] ys = omega arith
occurrences-append x (z ∷ xs) ys = let h = occurrences-append x xs ys in omega arith

occurrences_none : (x : ℕ) (xs : List ℕ) → length xs ≡ 0 → occurrences x xs ≡ 0
occurrences_none x [] e = refl
occurrences_none x (y ∷ ys) e = absurd (omega arith)

once_more : (x n : ℕ) → once_below x (n + 1) ≡ once_below x n + occurrences x (n ∷ [])
once_more x n = grind (arith, nat_tests)

once_then : (x n : ℕ) → 0 < once_below x n → x < n
once_then x n h = grind (arith, nat_tests)

pub stands : (x : ℕ) (ys : List ℕ) → 0 < occurrences x (x ∷ ys)
stands x ys = grind (arith, nat_tests)

pub all_below : (n : ℕ) (xs : List ℕ) → ((x : ℕ) → 0 < occurrences x xs → x < n) → All (λ x. x < n) xs
all_below n [] h k d lt = absurd (omega arith)
all_below n (y ∷ ys) h zero d lt = h y (stands y ys)
all_below n (y ∷ ys) h (suc k) d lt = all_below n ys (λ x some_more. h x (omega arith)) k d (omega arith)

all_set : (F : View → Type 0) (views : List View) (seat : ℕ) (w : View) → F w → ((j : ℕ) (u : View) → get_elem? views j ≡ some u → F u) → (j : ℕ) (u : View) → get_elem? (set views seat w) j ≡ some u → F u
all_set F views seat w mine others j u e = ⊎_elim (λ (x : (j ≡ seat) × (w ≡ u)). subst F x.1 mine) (λ (x : (j ≢ seat) × (get_elem? views j ≡ some u)). others j u x.1) (at_set views seat j w u e)

all_snoc : (F : View → Type 0) (views : List View) (w : View) → F w → ((j : ℕ) (u : View) → get_elem? views j ≡ some u → F u) → (j : ℕ) (u : View) → get_elem? (views ++ w ∷ []) j ≡ some u → F u
all_snoc F views w mine others j u e = ⊎_elim (λ x. others j u x) (λ (is : w ≡ u). subst F is mine) (at_snoc views w u j e)

-- the word stays far below 2 ^ 64
word_fits : (words : List ℕ) (views : List View) → IsClaimed words views → slice_index words 8 ≤ 9223372036854775808
word_fits words views h = let r = total_room views h.room in let u = h.units in let m = h.many in omega arith

-- the claim word after a write
set_word : (words : List ℕ) (n : ℕ) → length words ≡ 16 → slice_index (set words 8 n) 8 ≡ n
set_word words n wide = get_or-set_same words 8 n 0 (omega arith)

abbrev pub roomy : View → Type 0
roomy v = length v.numbers ≤ v.units * 4294967296

pub drawn_next : (words : List ℕ) (views : List View) (seat : ℕ) (v : View) → length v.numbers < v.units * 4294967296 → IsClaimed words views → get_elem? views seat ≡ some v
    → IsClaimed (set words 8 ((slice_index words 8 + 1) % 18446744073709551616)) (set views seat (view_of v.units (v.numbers ++ slice_index words 8 ∷ [])))
drawn_next words views seat v some_room h at =
    let n : ℕ = slice_index words 8 in
    let w : View = view_of v.units (v.numbers ++ n ∷ []) in
    let fits = word_fits words views h in
    let next : (n + 1) % 18446744073709551616 ≡ n + 1 = omega arith in
    let ws : List ℕ = set words 8 ((n + 1) % 18446744073709551616) in
    let is : slice_index ws 8 ≡ n + 1 = set_word words ((n + 1) % 18446744073709551616) h.wide ∙ next in
    let len : length (v.numbers ++ n ∷ []) ≡ length v.numbers + 1 = length-append v.numbers (n ∷ []) in
    record {
      wide = length-set words 8 ((n + 1) % 18446744073709551616) ∙ h.wide;
      units = (let s = total_set (λ u. u.units) views seat v w at in let p = h.units in omega arith);
      once = (λ x.
          let s = total_set (λ u. occurrences x u.numbers) views seat v w at in
          let p = h.once x in
          let a = occurrences-append x v.numbers (n ∷ []) in
          let o = once_more x n in
          let same : once_below x (slice_index ws 8) ≡ once_below x (n + 1) = ap (once_below x) is in
          omega arith);
      many = (let s = total_set (λ u. length u.numbers) views seat v w at in let p = h.many in omega arith);
      room = all_set roomy views seat w (omega arith) h.room;
    }

pub drawn_above : (words : List ℕ) (views : List View) (seat : ℕ) (v : View) → IsClaimed words views → get_elem? views seat ≡ some v → All (λ x. x < slice_index words 8) v.numbers
drawn_above words views seat v h at =
    all_below (slice_index words 8) v.numbers (λ x has.
    let part = total_part (λ u. occurrences x u.numbers) views seat v at in
    let p = h.once x in
    once_then x (slice_index words 8) (omega arith))

pub looks_once : (words : List ℕ) (views : List View) (seat : ℕ) (v : View) → IsClaimed words views → get_elem? views seat ≡ some v → (x : ℕ) → occurrences x v.numbers ≤ once_below x (slice_index words 8)
looks_once words views seat v h at x = let part = total_part (λ u. occurrences x u.numbers) views seat v at in let p = h.once x in omega arith

pub looks_whole : (words : List ℕ) (views : List View) (seat : ℕ) (v : View) → IsClaimed words views → get_elem? views seat ≡ some v → v.units ≡ 2147483648 → (x : ℕ) → occurrences x v.numbers ≡ once_below x (slice_index words 8)
looks_whole words views seat v h at all x =
    let u = h.units in
    let p = h.once x in
    let w = total_whole (λ u. occurrences x u.numbers) (λ u. u.units) views seat v at (omega arith) (λ j y e none. occurrences_none x y.numbers (let r = h.room j y e in omega arith)) in
    omega arith

pub at_most_once : (x n : ℕ) → once_below x n ≤ 1
at_most_once x n = grind (arith, nat_tests)

gives_one : (units drawn : ℕ) → units_kept units drawn + units_given units drawn ≡ units
gives_one units drawn = grind (arith, nat_tests)

keeps_room : (units drawn : ℕ) → drawn ≤ units * 4294967296 → drawn ≤ units_kept units drawn * 4294967296
keeps_room units drawn h = grind (arith, nat_tests)

pub shares : (words : List ℕ) (views : List View) (seat : ℕ) (v : View) → IsClaimed words views → get_elem? views seat ≡ some v → IsClaimed words (set views seat (kept_view v) ++ given_view v ∷ [])
shares words views seat v h at =
    let l : View = kept_view v in
    let r : View = given_view v in
    let one = gives_one v.units (length v.numbers) in
    record {
      wide = h.wide;
      units = (let s = total_set (λ u. u.units) views seat v l at in let t = total_snoc (λ u. u.units) (set views seat l) r in let p = h.units in omega arith);
      once = (λ x. let s = total_set (λ u. occurrences x u.numbers) views seat v l at in let t = total_snoc (λ u. occurrences x u.numbers) (set views seat l) r in let p = h.once x in omega arith);
      many = (let s = total_set (λ u. length u.numbers) views seat v l at in let t = total_snoc (λ u. length u.numbers) (set views seat l) r in let p = h.many in omega arith);
      room = all_snoc roomy (set views seat l) r (omega arith) (all_set roomy views seat l (keeps_room v.units (length v.numbers) (h.room seat v at)) h.room);
    }

pub joins : (words : List ℕ) (views : List View) (seat : ℕ) (v : View) (other : ℕ) (w : View) → IsClaimed words views → get_elem? views seat ≡ some v → ¬ (other ≡ seat) → get_elem? (set views seat (joined_view v w)) other ≡ some w
    → IsClaimed words (set (set views seat (joined_view v w)) other (view_of 0 []))
joins words views seat v other w h at apart at' =
    let b : View = joined_view v w in
    let e : View = view_of 0 [] in
    let was : get_elem? views other ≡ some w = ⊎_elim (λ (x : (other ≡ seat) × (b ≡ w)). absurd (apart x.0)) (λ (x : (other ≢ seat) × (get_elem? views other ≡ some w)). x.1) (at_set views seat other b w at') in
    let len = length-append v.numbers w.numbers in
    let mine = h.room seat v at in
    let theirs = h.room other w was in
    record {
      wide = h.wide;
      units = (let s = total_set (λ u. u.units) views seat v b at in let t = total_set (λ u. u.units) (set views seat b) other w e at' in let p = h.units in omega arith);
      once = (λ x. let s = total_set (λ u. occurrences x u.numbers) views seat v b at in let t = total_set (λ u. occurrences x u.numbers) (set views seat b) other w e at' in let p = h.once x in let a = occurrences-append x v.numbers w.numbers in omega arith);
      many = (let s = total_set (λ u. length u.numbers) views seat v b at in let t = total_set (λ u. length u.numbers) (set views seat b) other w e at' in let p = h.many in omega arith);
      room = all_set roomy (set views seat b) other e (omega arith) (all_set roomy views seat b (omega arith) h.room);
    }

-- a look changes nothing
pub looked : (words : List ℕ) (views : List View) (seat : ℕ) (v : View) → IsClaimed words views → get_elem? views seat ≡ some v → IsClaimed (set words 8 (slice_index words 8)) (set views seat v)
looked words views seat v h at = rw (set_again views seat v at, set-get_or words 8 0) h

-- two lists whose numbers stand once at most have none in common
pub apart : (x : ℕ) (xs ys : List ℕ) (n : ℕ) → occurrences x (xs ++ ys) ≤ once_below x n → occurrences x xs + occurrences x ys ≤ 1
apart x xs ys n h = let a = occurrences-append x xs ys in let o = at_most_once x n in omega arith

word_is : (ws : List ℕ) (k n : ℕ) → get_elem? ws k ≡ some n → slice_index ws k ≡ n
word_is [] k n e = absurd (some-ne-none n (sym e))
word_is (x ∷ xs) zero n e = some-injective x n e
word_is (x ∷ xs) (suc k) n e = word_is xs k n e

-- what the look at the end tells
pub closes : {Slot : Type 0} (seat : ℕ) (v : View) (ws : List ℕ) (xs : List Slot) (n : ℕ) → Final (Seen (λ (s : State Slot View). IsClaimed s.words s.views) seat v) ws xs → get_elem? ws 8 ≡ some n → Looks v n v
closes seat v ws xs n f e =
    let is : slice_index f.0.words 8 ≡ n = ap (λ l. slice_index l 8) f.2 ∙ word_is ws 8 n e in
    let P : ℕ → Type 0 = λ k. Looks v k v in
    subst P is record {
      once = looks_once f.0.words f.0.views seat v f.1.0 f.1.1;
      whole = looks_whole f.0.words f.0.views seat v f.1.0 f.1.1;
      after = refl;
    }

pub closes_distinct : (v w : View) (n : ℕ) → Looks v n w → (x : ℕ) → occurrences x v.numbers ≤ 1
closes_distinct v w n h x = let a = h.once x in let o = at_most_once x n in omega arith

pub closes_below : (v w : View) (n : ℕ) → Looks v n w → All (λ x. x < n) v.numbers
closes_below v w n h = all_below n v.numbers (λ x has. let a = h.once x in once_then x n (omega arith))

once_here : (x n : ℕ) → x < n → once_below x n ≡ 1
once_here x n h = grind (arith, nat_tests)

pub closes_whole : (v w : View) (n : ℕ) → Looks v n w → v.units ≡ 2147483648 → (x : ℕ) → x < n → occurrences x v.numbers ≡ 1
closes_whole v w n h all x lt = h.whole all x ∙ once_here x n lt
