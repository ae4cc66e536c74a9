-- Requests that change, one after another, what stands at their target's place in a list: private functions alone speak of them.
use Rattle.std.specs.Prelude.{◌≡◌, ◌↔◌, ℕ, ◌<◌, ◌≤◌, Bool, false, List, [], length, slice_index, slice_index_or, slice_set}
use Rattle.bsp_model.specs.Memory.{memory_written}
use Rattle.bsp_model.specs.declared.request.Put.{Put}
use Rattle.bsp_deliver.specs.Delivery.{Write, written}
use Rattle.bsp_deliver.specs.Requests.{each_below}

-- the item at a request's place, changed by it. Where there is no such place, nothing changes.
abbrev pub changed_at : {S R : Type 0} → (S → R → S) → S → (R → ℕ) → List S → R → List S
changed_at step none place items r = slice_set items (place r) (step (slice_index_or items (place r) none) r)

abbrev pub put_into : List ℕ → Put → List ℕ
put_into memory p = memory_written memory p.start p.words

-- a put into the memory at its target's place
abbrev pub put_at : List ℕ → List (List ℕ) → Put → List (List ℕ)
put_at places = changed_at put_into [] (λ p. slice_index places p.target)

-- For each of so many processes its place in the list. Those that aren't in it have a place past its end.
pub record ArePlaces (n : ℕ) (processes places : List ℕ) : Type 0 where
  pub count : length places ≡ n
  pub each : (d k : ℕ) → d < n → k < length processes → (slice_index places d ≡ k) ↔ (slice_index processes k ≡ d)

-- Who is not in the set has no place among so many.
abbrev pub AreTargets : ℕ → List ℕ → List Bool → Type 0
AreTargets count places targets = (d : ℕ) → d < length places → slice_index_or targets d false ≡ false → count ≤ slice_index places d

-- the memory after these writes, of which private functions alone speak
abbrev pub overlay : List ℕ → List Write → List ℕ
overlay memory ws = each_below (length memory) (λ a. written ws a (slice_index memory a))
