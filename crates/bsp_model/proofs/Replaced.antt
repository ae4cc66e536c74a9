-- What a list is in which items are replaced.
use Rattle.std.proofs.Common.{All, inl, inr, ◌≡◌, ◌≢◌, ◌<◌, ◌≤◌, ◌+◌, ◌-◌, ℕ, zero, suc, List, [], ◌∷◌, ◌++◌, length, get_or, drop, map, refl, sym, ap, ◌∙◌, subst, arith, append_assoc, drop-drop}
use Rattle.std.specs.Prelude.{slice_range, slice_set}
use Rattle.std.specs.List.{Contains}
use Rattle.std.proofs.lemmas.Bool.{cases_eq}
use Rattle.std.proofs.Math.ListN.{length-set}
use Rattle.std.proofs.Math.Seq.{set-append_seam, drop-cons}
use Rattle.std.proofs.lemmas.List.{ext_get_or, length-map, get_or-map, get_or-drop, length-append, length-drop, append-nil, map-set, get_or-set_same, get_or-set_other}
use Rattle.std.proofs.lemmas.List.Elements.{All-set, All-get_or}
use Rattle.std.proofs.lemmas.List.Folds.{drop_split}
use Rattle.std.proofs.lemmas.List.Edits.{length-between}
use Rattle.bsp_model.specs.Replaced.{replaced, IsAscending}

pub length-replaced : {X : Type 0} (items : List X) (ps : List ℕ) (xs : List X) → length (replaced items ps xs) ≡ length items
length-replaced items [] xs = refl
length-replaced items (p ∷ ps) [] = refl
length-replaced items (p ∷ ps) (x ∷ xs) = length-replaced (slice_set items p x) ps xs ∙ length-set items p x

-- items that are replaced from the front on

-- the items up to a place behind those in front
pub front-grows : {X : Type 0} (front items : List X) (p : ℕ) → length front ≤ p → (front ++ slice_range items (length front) p) ++ drop p items ≡ front ++ drop (length front) items
front-grows front items p order =
    append_assoc front (slice_range items (length front) p) (drop p items) ∙ ap (λ rest. front ++ rest) (sym (drop_split items (length front) p order))

pub length-front : {X : Type 0} (front items : List X) (p : ℕ) → length front ≤ p → p ≤ length items → length (front ++ slice_range items (length front) p) ≡ p
length-front front items p order within = omega (arith, length-append front (slice_range items (length front) p), length-between items (length front) p within)

-- an item is put behind those in front
pub front-put : {X : Type 0} (front items : List X) (x : X) → length front < length items → (front ++ x ∷ []) ++ drop (length (front ++ x ∷ [])) items ≡ slice_set (front ++ drop (length front) items) (length front) x
front-put front items x within =
    let more : length (front ++ x ∷ []) ≡ suc (length front) = omega (arith, length-append front (x ∷ [])) in
    append_assoc front (x ∷ []) (drop (length (front ++ x ∷ [])) items)
    ∙ ap (λ n. front ++ x ∷ drop n items) more
    ∙ sym (set-append_seam front (get_or items (length front) x) (drop (suc (length front)) items) x)
    ∙ ap (λ rest. slice_set (front ++ rest) (length front) x) (sym (drop-cons items (length front) x within))

-- new items at the places that come next, one behind the other
front-run : {X : Type 0} (front run items later : List X) (ps : List ℕ) → length run ≤ length ps → length front + length run ≤ length items → ((j : ℕ) → j < length run → get_or ps j 0 ≡ length front + j)
    → replaced ((front ++ run) ++ drop (length (front ++ run)) items) (drop (length run) ps) later ≡ replaced (front ++ drop (length front) items) ps (run ++ later)
front-run front [] items later ps few within at = ap (λ fs. replaced (fs ++ drop (length fs) items) ps later) (append-nil front)
front-run front (x ∷ run) items later [] few within at = absurd (omega (arith, few))
front-run front (x ∷ run) items later (p ∷ ps) few within at =
    let one : length (front ++ x ∷ []) ≡ suc (length front) = omega (arith, length-append front (x ∷ [])) in
    let first : length front ≡ p = omega (arith, at 0 (omega arith)) in
    let next : (j : ℕ) → j < length run → get_or ps j 0 ≡ length (front ++ x ∷ []) + j = λ j inside. omega (arith, at (suc j) (omega (arith, inside)), one) in
    ap (λ fs. replaced (fs ++ drop (length fs) items) (drop (length run) ps) later) (sym (append_assoc front (x ∷ []) run))
    ∙ front-run (front ++ x ∷ []) run items later ps (omega (arith, few)) (omega (arith, within, one)) next
    ∙ ap (λ js. replaced js ps (run ++ later)) (front-put front items x (omega (arith, within)) ∙ ap (λ n. slice_set (front ++ drop (length front) items) n x) first)

-- These are the items in front of those that are still to be looked at, with the new ones of the first k places.
pub record IsFront {X : Type 0} (items : List X) (ps : List ℕ) (xs : List X) (k : ℕ) (front : List X) : Type 0 where
  pub rest : replaced (front ++ drop (length front) items) (drop k ps) (drop k xs) ≡ replaced items ps xs
  pub within : length front ≤ length items
  pub below : (j : ℕ) → k ≤ j → j < length ps → length front ≤ get_or ps j 0

pub no_front : {X : Type 0} (items front : List X) (ps : List ℕ) (xs : List X) → front ≡ [] → IsFront items ps xs 0 front
no_front items front ps xs is = subst (IsFront items ps xs 0) (sym is) (record { rest = refl; within = omega arith; below = λ j above inside. omega arith })

-- the items up to the next place, and then the new ones of a run of places
pub front-more : {X : Type 0} (items front before new : List X) (ps : List ℕ) (xs : List X) (k e : ℕ) → All (λ p. p < length items) ps → IsAscending ps → length xs ≡ length ps → IsFront items ps xs k front
    → k < e → e ≤ length ps → ((j : ℕ) → k ≤ j → j < e → get_or ps j 0 ≡ get_or ps k 0 + (j - k))
    → before ≡ front ++ slice_range items (length front) (get_or ps k 0) → new ≡ before ++ slice_range xs k e
    → IsFront items ps xs e new
front-more {X = X} items front before new ps xs k e known ascending count is some inside run before_is new_is =
    let p = get_or ps k 0 in
    let xs_run = slice_range xs k e in
    let order : length front ≤ p = is.below k (omega arith) (omega (arith, some, inside)) in
    let final : p + (e - k) ≡ get_or ps (e - 1) 0 + 1 = omega (arith, some, run (e - 1) (omega (arith, some)) (omega (arith, some))) in
    let last : get_or ps (e - 1) 0 < length items = All-get_or (λ p. p < length items) ps (e - 1) 0 (omega (arith, some, inside)) known in
    let long : length before ≡ p = ap length before_is ∙ length-front front items p order (omega (arith, final, last, some)) in
    let many : length xs_run ≡ e - k = length-between xs k e (omega (arith, inside, count)) in
    let ends : k + length xs_run ≡ e = omega (arith, some, many) in
    let more : length new ≡ p + (e - k) = omega (arith, ap length new_is, length-append before xs_run, long, many) in
    let grown : before ++ drop (length before) items ≡ front ++ drop (length front) items =
    ap (λ n. before ++ drop n items) long ∙ ap (λ rest. rest ++ drop p items) before_is ∙ front-grows front items p order in
    let places : (j : ℕ) → j < length xs_run → get_or (drop k ps) j 0 ≡ length before + j =
    λ j below.
    let there : k + j < e = omega (arith, below, many) in
    omega (arith, get_or-drop k ps j 0, long, run (k + j) (omega arith) there) in
    record {
      rest = ap (λ (js : List X). replaced (js ++ drop (length js) items) (drop e ps) (drop e xs)) new_is
          ∙ ap (λ qs. replaced ((before ++ xs_run) ++ drop (length (before ++ xs_run)) items) qs (drop e xs)) (sym (drop-drop (length xs_run) k ps ∙ ap (λ n. drop n ps) ends))
          ∙ front-run before xs_run items (drop e xs) (drop k ps) (omega (arith, length-drop k ps, many, inside)) (omega (arith, long, many, final, last)) places
          ∙ ap (λ ys. replaced (before ++ drop (length before) items) (drop k ps) ys) (sym (drop_split xs k e (omega (arith, some))))
          ∙ ap (λ js. replaced js (drop k ps) (drop k xs)) grown
          ∙ is.rest;
      within = omega (arith, more, final, last);
      below = λ j above below. omega (arith, more, final, ascending (e - 1) j (omega (arith, some, above)) below);
    }

-- what is made of each item
pub map-replaced : {X Y : Type 0} (f : X → Y) (items : List X) (ps : List ℕ) (xs : List X) → map f (replaced items ps xs) ≡ replaced (map f items) ps (map f xs)
map-replaced f items [] xs = refl
map-replaced f items (p ∷ ps) [] = refl
map-replaced f items (p ∷ ps) (x ∷ xs) = map-replaced f (slice_set items p x) ps xs ∙ ap (λ js. replaced js ps (map f xs)) (map-set f items p x)

-- an item whose place is none of these stays
pub replaced-elsewhere : {X : Type 0} (items : List X) (ps : List ℕ) (xs : List X) (i : ℕ) (d : X) → ((k : ℕ) → k < length ps → i ≢ get_or ps k 0) → get_or (replaced items ps xs) i d ≡ get_or items i d
replaced-elsewhere items [] xs i d other = refl
replaced-elsewhere items (p ∷ ps) [] i d other = refl
replaced-elsewhere items (p ∷ ps) (x ∷ xs) i d other =
    replaced-elsewhere (slice_set items p x) ps xs i d (λ k inside. other (suc k) (omega arith)) ∙ get_or-set_other items p i x d (other 0 (omega arith))

later-ascending : (p : ℕ) (ps : List ℕ) → IsAscending (p ∷ ps) → IsAscending ps
later-ascending p ps ascending j k order inside = ascending (suc j) (suc k) (omega arith) (omega arith)

first-below : (p : ℕ) (ps : List ℕ) → IsAscending (p ∷ ps) → (k : ℕ) → k < length ps → p ≢ get_or ps k 0
first-below p ps ascending k inside same = absurd (omega (arith, same, ascending 0 (suc k) (omega arith) (omega arith)))

-- at each of these places, which ascend, there is the new item
pub replaced-there : {X : Type 0} (items : List X) (ps : List ℕ) (xs : List X) (k : ℕ) (d : X) → IsAscending ps → k < length ps → k < length xs → get_or ps k 0 < length items → get_or (replaced items ps xs) (get_or ps k 0) d ≡ get_or xs k d
replaced-there items [] xs k d ascending inside new within = absurd (omega arith)
replaced-there items (p ∷ ps) [] k d ascending inside new within = absurd (omega arith)
replaced-there items (p ∷ ps) (x ∷ xs) zero d ascending inside new within =
    replaced-elsewhere (slice_set items p x) ps xs p d (first-below p ps ascending) ∙ get_or-set_same items p x d within
replaced-there items (p ∷ ps) (x ∷ xs) (suc k) d ascending inside new within =
    replaced-there (slice_set items p x) ps xs k d (later-ascending p ps ascending) (omega arith) (omega arith) (omega (arith, within, length-set items p x))

-- as many places as there are items, in ascending order, are all of them

pub above_first : (ps : List ℕ) (k : ℕ) → IsAscending ps → k < length ps → get_or ps 0 0 + k ≤ get_or ps k 0
above_first ps zero ascending inside = omega arith
above_first ps (suc k) ascending inside =
    omega (arith, above_first ps k ascending (omega (arith, inside)), ascending k (suc k) (omega arith) inside)

below_last : (ps : List ℕ) (k m : ℕ) → IsAscending ps → k + m < length ps → get_or ps k 0 + m ≤ get_or ps (k + m) 0
below_last ps k zero ascending inside = let same : k + 0 ≡ k = omega arith in omega (arith, ap (λ n. get_or ps n 0) same)
below_last ps k (suc m) ascending inside =
    omega (arith, below_last ps k m ascending (omega (arith, inside)), ascending (k + m) (k + suc m) (omega arith) inside)

pub all_places : (ps : List ℕ) (k : ℕ) → All (λ p. p < length ps) ps → IsAscending ps → k < length ps → get_or ps k 0 ≡ k
all_places ps k known ascending inside =
    let m = length ps - 1 - k in
    let last : k + m < length ps = omega (arith, inside) in
    omega (arith, inside, above_first ps k ascending inside, below_last ps k m ascending last, known (k + m) 0 last)

pub map-all_places : {X Y : Type 0} (f : X → Y) (items : List X) (none : X) (ps : List ℕ) → All (λ p. p < length items) ps → IsAscending ps → length items ≡ length ps → map (λ p. f (get_or items p none)) ps ≡ map f items
map-all_places f items none ps known ascending count =
    let g : ℕ → _ = λ p. f (get_or items p none) in
    ext_get_or (f none) (map g ps) (map f items) (length-map ps g ∙ sym count ∙ sym (length-map items f))
    (λ k inside.
    let below : k < length ps = omega (arith, inside, length-map ps g) in
    get_or-map g ps k 0 (f none) below
    ∙ ap g (all_places ps k (λ j d l. omega (arith, known j d l, count)) ascending below)
    ∙ sym (get_or-map f items k none (f none) (omega (arith, below, count))))

-- new items of all places are the list
pub all_replaced : {X : Type 0} (items : List X) (ps : List ℕ) (xs : List X) → All (λ p. p < length items) ps → IsAscending ps → length ps ≡ length items → length xs ≡ length ps → xs ≡ replaced items ps xs
all_replaced [] [] [] known ascending count new = refl
all_replaced [] [] (x ∷ xs) known ascending count new = absurd (omega (arith, new))
all_replaced [] (p ∷ ps) xs known ascending count new = absurd (omega (arith, count))
all_replaced (i ∷ items) ps xs known ascending count new =
    ext_get_or i xs (replaced (i ∷ items) ps xs) (sym (length-replaced (i ∷ items) ps xs ∙ sym count ∙ sym new))
    (λ k inside.
    let below : k < length ps = omega (arith, inside, new) in
    let place = all_places ps k (λ j d l. omega (arith, known j d l, count)) ascending below in
    sym (ap (λ n. get_or (replaced (i ∷ items) ps xs) n i) (sym place) ∙ replaced-there (i ∷ items) ps xs k i ascending below (omega (arith, inside)) (omega (arith, place, below, count))))

-- what holds of all items and of all new ones
pub All-replaced : {X : Type 0} (P : X → Type 0) (items : List X) (ps : List ℕ) (xs : List X) → All P items → All P xs → All P (replaced items ps xs)
All-replaced P items [] xs before new = before
All-replaced P items (p ∷ ps) [] before new = before
All-replaced P items (p ∷ ps) (x ∷ xs) before new =
    All-replaced P (slice_set items p x) ps xs (All-set P items p x (new 0 x (omega arith)) before) (λ k d inside. new (suc k) d (omega arith))

-- items that are replaced and then replaced again

set-again : {X : Type 0} (items : List X) (p : ℕ) (x y : X) → slice_set (slice_set items p x) p y ≡ slice_set items p y
set-again [] p x y = refl
set-again (i ∷ items) zero x y = refl
set-again (i ∷ items) (suc p) x y = ap (λ rest. i ∷ rest) (set-again items p x y)

set-other : {X : Type 0} (items : List X) (p q : ℕ) (x y : X) → p ≢ q → slice_set (slice_set items p x) q y ≡ slice_set (slice_set items q y) p x
set-other [] p q x y other = refl
set-other (i ∷ items) zero zero x y other = absurd (other refl)
set-other (i ∷ items) zero (suc q) x y other = refl
set-other (i ∷ items) (suc p) zero x y other = refl
set-other (i ∷ items) (suc p) (suc q) x y other = ap (λ rest. i ∷ rest) (set-other items p q x y (λ same. other (ap suc same)))

later-among : (p q : ℕ) (qs : List ℕ) (k : ℕ) → k < length (q ∷ qs) → get_or (q ∷ qs) k p ≡ p → p ≢ q → Contains qs p
later-among p q qs zero inside there other = absurd (other (sym there))
later-among p q qs (suc k) inside there other = (k, omega arith, there)

-- an item that is replaced afterwards may be any before
replaced-over_one : {X : Type 0} (items : List X) (p : ℕ) (x : X) (qs : List ℕ) (ys : List X) → Contains qs p → length ys ≡ length qs → replaced (slice_set items p x) qs ys ≡ replaced items qs ys
replaced-over_one items p x [] ys (k, inside, there) count = absurd (omega (arith, inside))
replaced-over_one items p x (q ∷ qs) [] among count = absurd (omega (arith, count))
replaced-over_one items p x (q ∷ qs) (y ∷ ys) (k, inside, there) count =
    elim (cases_eq p q) [
      | inl same ↦ ap (λ js. replaced js qs ys) (ap (λ n. slice_set (slice_set items n x) q y) same ∙ set-again items q x y)
      | inr other ↦
          ap (λ js. replaced js qs ys) (set-other items p q x y other)
          ∙ replaced-over_one (slice_set items q y) p x qs ys (later-among p q qs k inside there other) (omega (arith, count))
    ]

pub replaced-over : {X : Type 0} (items : List X) (ps : List ℕ) (xs : List X) (qs : List ℕ) (ys : List X) → All (Contains qs) ps → length ys ≡ length qs → replaced (replaced items ps xs) qs ys ≡ replaced items qs ys
replaced-over items [] xs qs ys among count = refl
replaced-over items (p ∷ ps) [] qs ys among count = refl
replaced-over items (p ∷ ps) (x ∷ xs) qs ys among count =
    replaced-over (slice_set items p x) ps xs qs ys (λ k d inside. among (suc k) d (omega arith)) count
    ∙ replaced-over_one items p x qs ys (among 0 p (omega arith)) count
