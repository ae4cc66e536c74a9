-- Lists by process, of which the items of some processes lie apart.
use Rattle.std.specs.Prelude.{ℕ, ◌≡◌, ◌<◌, ⊤, List, Option, None, Some, All, length}
use Rattle.bsp_model.specs.Replaced.{replaced, IsAscending}
use Rattle.bsp_model.specs.declared.layered.Apart.{Apart}

-- what all have, with what lies apart in the place of that of its processes
abbrev pub layered : {X : Type 0} → (X → List ℕ → X → X) → X → Option (Apart X) → X
layered lay base None = base
layered lay base (Some apart) = lay base apart.processes.items apart.items

-- There is one item for each of some processes, in ascending order.
pub record AreApart {X : Type 0} (base : List X) (processes : List ℕ) (items : List X) : Type 0 where
  pub known : All (λ p. p < length base) processes
  pub ascending : IsAscending processes
  pub count : length items ≡ length processes

abbrev pub HasApart : {X Y : Type 0} → (X → List Y) → X → Option (Apart X) → Type 0
HasApart items base None = ⊤
HasApart items base (Some apart) = AreApart (items base) apart.processes.items (items apart.items)

-- New items of these processes make of the ones what they make of the others.
abbrev pub IsBelow : {X : Type 0} → List X → List X → List ℕ → Type 0
IsBelow below items processes = (new : List _) → length new ≡ length processes → replaced below processes new ≡ replaced items processes new
