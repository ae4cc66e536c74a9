-- Transfers that pass a test, counted one by one.
use Rattle.std.proofs.Common.{◌≡◌, ℕ, suc, ◌+◌, ◌<◌, ◌≤◌, ◌&&◌, Bool, true, false, cond, List, [], ◌∷◌, ◌++◌, All, filter, fold, length, map, take, get_or, refl, sym, ap, ◌∙◌, arith, append-nil}
use Rattle.std.proofs.lemmas.List.{map-append, length-take-le}
use Rattle.std.proofs.lemmas.List.Elements.{All-filter, All-take, filter_more}
use Rattle.std.proofs.lemmas.Grind.{fold-append}
use Rattle.bsp_causes.specs.declared.moved.Moved.{Moved}
use Rattle.bsp_model.specs.declared.request.Get.{Get}
use Rattle.bsp_step.specs.OutcomeParts.{OutcomeParts}
use Rattle.bsp_deliver.specs.Cost.{Transfer, get_transfer}
use Rattle.bsp_deliver.specs.Inside.Sums.{transfers_of, IsSmall}
use Rattle.bsp_causes.specs.Travel.{requests_again}
use Rattle.bsp_causes.specs.Inside.Moved.{counted, HasRoom}
use Rattle.bsp_causes.proofs.Sums.{room_next}

pub filter_shorter : {R : Type 0} (test : R → Bool) (rs : List R) → length (filter test rs) ≤ length rs
filter_shorter test [] = omega arith
filter_shorter test (r ∷ rs) =
    elim (test r) as (λ b. length (cond b (r ∷ filter test rs) (filter test rs)) ≤ length (r ∷ rs)) [ true ↦ omega (arith, filter_shorter test rs) | false ↦ omega (arith, filter_shorter test rs) ]

counted_after : {R : Type 0} (f : R → Transfer) (s : Moved) (xs : List R) (r : R) (b : Bool)
    → fold counted s (map f (xs ++ cond b (r ∷ []) [])) ≡ cond b (counted (fold counted s (map f xs)) (f r)) (fold counted s (map f xs))
counted_after f s xs r true = ap (fold counted s) (map-append f xs (r ∷ [])) ∙ fold-append counted s (map f xs) (f r ∷ [])
counted_after f s xs r false = ap (λ ys. fold counted s (map f ys)) (append-nil xs)

-- one request more, which is counted if it passes
pub counted_if_more : {R : Type 0} (test : R → Bool) (f : R → Transfer) (s now next : Moved) (rs : List R) (i : ℕ) (r : R) → i < length rs → r ≡ get_or rs i r
    → now ≡ fold counted s (map f (filter test (take i rs))) → next ≡ cond (test r) (counted now (f r)) now → next ≡ fold counted s (map f (filter test (take (i + 1) rs)))
counted_if_more test f s now next rs i r l e before is =
    is ∙ ap (λ (x : Moved). cond (test r) (counted x (f r)) x) before
    ∙ sym (counted_after f s (filter test (take i rs)) r (test r))
    ∙ ap (λ x. fold counted s (map f (filter test (take i rs) ++ cond (test x) (x ∷ []) []))) e
    ∙ ap (λ xs. fold counted s (map f xs)) (sym (filter_more test rs i r l))

pub counted_yes : {R : Type 0} (test : R → Bool) (f : R → Transfer) (now next : Moved) (r : R) → test r ≡ true → next ≡ counted now (f r) → next ≡ cond (test r) (counted now (f r)) now
counted_yes test f now next r t is = is ∙ ap (λ b. cond b (counted now (f r)) now) (sym t)

pub counted_no : {R : Type 0} (test : R → Bool) (f : R → Transfer) (now next : Moved) (r : R) → test r ≡ false → next ≡ now → next ≡ cond (test r) (counted now (f r)) now
counted_no test f now next r t is = is ∙ ap (λ b. cond b (counted now (f r)) now) (sym t)

-- there is room for one request more
pub room_if : {R : Type 0} (test : R → Bool) (f : R → Transfer) (s : Moved) (rs : List R) (i : ℕ) → i < length rs → All (λ r. IsSmall (f r)) rs → HasRoom s (length rs)
    → HasRoom (fold counted s (map f (filter test (take i rs)))) 1
room_if test f s rs i l small room =
    room_next f (filter test (take i rs)) s (length rs) 1 (All-filter test (λ r. IsSmall (f r)) (take i rs) (All-take (λ r. IsSmall (f r)) i rs small))
    (omega (arith, filter_shorter test (take i rs), length-take-le i rs (omega arith))) room

none_pass : {R : Type 0} (rs : List R) → filter (λ (r : R). false) rs ≡ []
none_pass [] = refl
none_pass (r ∷ rs) = none_pass rs

-- a process that did nothing again moves nothing
pub nothing_moves : (p : ℕ) (D : ℕ → Bool) (r : Get → Bool) (o : OutcomeParts) → transfers_of p (requests_again false D (λ g. false && r g) o) ≡ []
nothing_moves p D r o = ap (λ (gs : List Get). ([] ++ map (get_transfer p) gs) ++ []) (none_pass o.gets)
