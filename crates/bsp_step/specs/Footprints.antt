-- Laws of footprints.
use Rattle.std.proofs.Common.{◌≡◌, ℕ, Bool, true, false, cond, List, Option, None, Some, refl, sym, ap, ◌∙◌, [], ◌∷◌, zero, suc, eqb, set}
use Rattle.std.proofs.Math.Dec.{eqb-suc-zero, eqb-zero-suc, eqb-suc-suc}
use Rattle.std.specs.Option.{option_map}
use Rattle.std.specs.List.{slice_get}
use Rattle.bsp_step.specs.Plan.{Plan, given_word, given_argument}

-- two choices by one test
pub if-alike : {A : Type 0} → (b : Bool) (x y z w : A) → (b ≡ true → x ≡ z) → (b ≡ false → y ≡ w) → cond b x y ≡ cond b z w
if-alike true x y z w then_same else_same = then_same refl
if-alike false x y z w then_same else_same = else_same refl

pub given_word-alike : (o p : Option ℕ) (f g : ℕ → Plan) → o ≡ p → ((x : ℕ) → o ≡ Some x → f x ≡ g x) → given_word o f ≡ given_word p g
given_word-alike None None f g e same = refl
given_word-alike None (Some y) f g e same = cc
given_word-alike (Some x) None f g e same = cc
given_word-alike (Some x) (Some y) f g e same = let h : x ≡ y = cc in same x refl ∙ ap g h

pub given_argument-alike : (o : Option ℕ) (f g : ℕ → Plan) → ((x : ℕ) → o ≡ Some x → f x ≡ g x) → given_argument o f ≡ given_argument o g
given_argument-alike None f g same = refl
given_argument-alike (Some x) f g same = same x refl

choice-same : (b : Bool) (o : Option ℕ) → o ≡ cond b o o
choice-same true o = refl
choice-same false o = refl

-- what a list says of an address after a store
slice_get-set : (xs : List ℕ) (i y a : ℕ) → slice_get (set xs i y) a ≡ cond (eqb a i) (option_map (λ _. y) (slice_get xs a)) (slice_get xs a)
slice_get-set [] i y a = choice-same (eqb a i) None
slice_get-set (x ∷ xs) zero y zero = refl
slice_get-set (x ∷ xs) zero y (suc a) = rw (eqb-suc-zero a) refl
slice_get-set (x ∷ xs) (suc i) y zero = rw (eqb-zero-suc i) refl
slice_get-set (x ∷ xs) (suc i) y (suc a) = rw (eqb-suc-suc a i) (slice_get-set xs i y a)

-- memories that agree at an address agree there after equal stores
pub slice_get-set_alike : (m n : List ℕ) (i y a : ℕ) → slice_get m a ≡ slice_get n a → slice_get (set m i y) a ≡ slice_get (set n i y) a
slice_get-set_alike m n i y a h =
    slice_get-set m i y a ∙ ap (λ o. cond (eqb a i) (option_map (λ _. y) o) o) h ∙ sym (slice_get-set n i y a)
