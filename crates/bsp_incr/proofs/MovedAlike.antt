-- Requests that move alike, one by one.
use Rattle.std.proofs.Common.{◌≡◌, ℕ, ◌+◌, ◌<◌, List, [], ◌∷◌, ◌++◌, map, take, length, get_or, sym, ◌∙◌, ap}
use Rattle.std.proofs.lemmas.List.{take_more, map-append}

last_of : {X Y : Type 0} (f : X → Y) (xs : List X) (i : ℕ) (x : X) → i < length xs → x ≡ get_or xs i x → map f (take (i + 1) xs) ≡ map f (take i xs) ++ f x ∷ []
last_of f xs i x l e = ap (map f) (take_more xs i x l ∙ ap (λ y. take i xs ++ y ∷ []) (sym e)) ∙ map-append f (take i xs) (x ∷ [])

-- one more in both lists, of which the same is made
pub mapped_more : {X Y : Type 0} (f : X → Y) (xs ys : List X) (i : ℕ) (x y : X) → i < length xs → i < length ys → x ≡ get_or xs i x → y ≡ get_or ys i y → f x ≡ f y
    → map f (take i xs) ≡ map f (take i ys) → map f (take (i + 1) xs) ≡ map f (take (i + 1) ys)
mapped_more f xs ys i x y l m ex ey same h = last_of f xs i x l ex ∙ ap (λ zs. zs ++ f x ∷ []) h ∙ ap (λ z. map f (take i ys) ++ z ∷ []) same ∙ sym (last_of f ys i y m ey)
