-- Requests to a process, sender by sender.
use Rattle.std.proofs.Common.{◌≡◌, ℕ, ◌+◌, ◌<◌, Bool, true, false, List, [], ◌∷◌, ◌++◌, map, filter, take, length, sym, ◌∙◌, ap, get_or, append_assoc}
use Rattle.std.proofs.lemmas.List.{map-append}
use Rattle.std.proofs.lemmas.List.Elements.{filter-append}
use Rattle.bsp_step.specs.OutcomeParts.{OutcomeParts}
use Rattle.bsp_deliver.specs.Requests.{requests_from}
use Rattle.bsp_deliver.proofs.Senders.{filter_more_yes, filter_more_no, passing_pairs, requests_of-more}

-- what is made of those that pass, at the end of a list, with one element more
pub added_yes : {X Y : Type 0} (f : X → Y) (p : X → Bool) (xs : List X) (i : ℕ) (x : X) (first ys : List Y) → i < length xs → x ≡ get_or xs i x → p x ≡ true → ys ≡ first ++ map f (filter p (take i xs))
    → ys ++ f x ∷ [] ≡ first ++ map f (filter p (take (i + 1) xs))
added_yes f p xs i x first ys l e t h =
    ap (λ zs. zs ++ f x ∷ []) h
    ∙ append_assoc first (map f (filter p (take i xs))) (f x ∷ [])
    ∙ ap (λ zs. first ++ zs) (sym (map-append f (filter p (take i xs)) (x ∷ [])) ∙ ap (map f) (sym (filter_more_yes p xs i x l e t)))

pub added_no : {X Y : Type 0} (f : X → Y) (p : X → Bool) (xs : List X) (i : ℕ) (x : X) (first ys : List Y) → i < length xs → x ≡ get_or xs i x → p x ≡ false → ys ≡ first ++ map f (filter p (take i xs))
    → ys ≡ first ++ map f (filter p (take (i + 1) xs))
added_no f p xs i x first ys l e t h = h ∙ ap (λ zs. first ++ map f zs) (sym (filter_more_no p xs i x l e t))

-- what passes among the requests of one sender more
pub addressed_more : {R : Type 0} (of : OutcomeParts → List R) (p : R → Bool) (os : List OutcomeParts) (i : ℕ) (o : OutcomeParts) → i < length os → o ≡ get_or os i o
    → filter (λ (s : ℕ × R). p s.1) (requests_from of 0 (take (i + 1) os)) ≡ filter (λ (s : ℕ × R). p s.1) (requests_from of 0 (take i os)) ++ map (λ r. (i, r)) (filter p (of o))
addressed_more {R = R} of p os i o l e =
    let F : List (ℕ × R) → List (ℕ × R) = filter (λ (s : ℕ × R). p s.1) in
    ap F (requests_of-more of os i o l e)
    ∙ filter-append (λ (s : ℕ × R). p s.1) (requests_from of 0 (take i os)) (map (λ r. (i, r)) (of o))
    ∙ ap (λ ys. F (requests_from of 0 (take i os)) ++ ys) (passing_pairs i p (of o))
