-- Writes over the memory at one place of several.
use Rattle.std.proofs.Common.{◌≡◌, ◌<◌, ◌+◌, ℕ, List, [], ◌∷◌, length, map, take, set, get_or, sym, ap, ◌∙◌}
use Rattle.std.proofs.lemmas.List.{set-set, set-get_or, get_or-set_same}
use Rattle.bsp_deliver.specs.Delivery.{Write}
use Rattle.bsp_deliver.specs.Inside.Gathering.{overlay}
use Rattle.bsp_deliver.proofs.Writes.{overlay-none, overlay-more}

pub none_written : (ms : List (List ℕ)) (place : ℕ) → ms ≡ set ms place (overlay (get_or ms place []) [])
none_written ms place = sym (ap (set ms place) (overlay-none (get_or ms place [])) ∙ set-get_or ms place [])

-- the memory there so far
pub now_there : (first ms : List (List ℕ)) (place : ℕ) (m : List ℕ) → place < length first → ms ≡ set first place m → get_or ms place [] ≡ m
now_there first ms place m within is = ap (λ (xs : List (List ℕ)). get_or xs place []) is ∙ get_or-set_same first place m [] within

pub one_more_written : {R : Type 0} (f : R → Write) (first ms now : List (List ℕ)) (place : ℕ) (xs : List R) (i : ℕ) (x : R) → place < length first → i < length xs → x ≡ get_or xs i x
    → ms ≡ set first place (overlay (get_or first place []) (map f (take i xs)))
    → now ≡ set ms place (overlay (get_or ms place []) (f x ∷ []))
    → now ≡ set first place (overlay (get_or first place []) (map f (take (i + 1) xs)))
one_more_written f first ms now place xs i x within here x_is ms_is now_is =
    let old = get_or first place [] in
    let so_far = overlay old (map f (take i xs)) in
    now_is
    ∙ ap (λ m. set ms place (overlay m (f x ∷ []))) (now_there first ms place so_far within ms_is)
    ∙ ap (λ (m : List (List ℕ)). set m place (overlay so_far (f x ∷ []))) ms_is
    ∙ set-set first place so_far (overlay so_far (f x ∷ []))
    ∙ ap (set first place) (overlay-more f old xs i x here x_is)
