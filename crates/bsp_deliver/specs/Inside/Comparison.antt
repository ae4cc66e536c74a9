-- What private functions compare of two lists of outcomes: no public contract speaks of it.
use Rattle.std.specs.Prelude.{ℕ, ◌<◌, ◌≡◌, ◌==◌, Bool, true, false, List, filter, map, length, slice_index_or}
use Rattle.bsp_step.specs.OutcomeParts.{OutcomeParts, outcome_of}
use Rattle.bsp_deliver.specs.Requests.{words_read}

-- one sender puts and sends the same to d
pub record HasSameParcel (d : ℕ) (old new : OutcomeParts) : Type 0 where
  pub puts : filter (λ p. p.target == d) old.puts ≡ filter (λ p. p.target == d) new.puts
  pub sends : filter (λ m. m.target == d) old.sends ≡ filter (λ m. m.target == d) new.sends

-- the memory after computing is the same, and so are the gets
abbrev pub HasSameOwn : OutcomeParts → OutcomeParts → Type 0
HasSameOwn old new = (old.memory ≡ new.memory) × (old.gets ≡ new.gets)

-- those of p are
abbrev pub KeepsOwn : List OutcomeParts → List OutcomeParts → ℕ → Type 0
KeepsOwn os us p = HasSameOwn (outcome_of os p) (outcome_of us p)

-- p puts and sends the same to d, and where p is d, it keeps its own
pub record BringsSame (os us : List OutcomeParts) (p d : ℕ) : Type 0 where
  pub parcel : HasSameParcel d (outcome_of os p) (outcome_of us p)
  pub own : d ≡ p → KeepsOwn os us p

-- each process does
abbrev pub AllBringSame : List OutcomeParts → List OutcomeParts → ℕ → Type 0
AllBringSame os us d = (p : ℕ) → p < length us → BringsSame os us p d

-- the gets of p read the same words
abbrev pub ReadsSame : List OutcomeParts → List OutcomeParts → ℕ → Type 0
ReadsSame os us p = map (words_read os) (outcome_of us p).gets ≡ map (words_read us) (outcome_of us p).gets

-- a process that is not marked has the gets that it had
abbrev pub HaveGetsUnlessMarked : List OutcomeParts → List OutcomeParts → List Bool → Type 0
HaveGetsUnlessMarked os us marks = (p : ℕ) → slice_index_or marks p true ≡ false → (outcome_of os p).gets ≡ (outcome_of us p).gets
