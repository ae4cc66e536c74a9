-- Puts, and the processes that they are to.
use Rattle.std.specs.Prelude.{◌≡◌, Bool, false, List, All, slice_index_or}
use Rattle.bsp_model.specs.declared.request.Put.{Put}

-- none of these puts is to a process in the set
abbrev pub AreToNone : List Bool → List Put → Type 0
AreToNone targets puts = All (λ p. slice_index_or targets p.target false ≡ false) puts
