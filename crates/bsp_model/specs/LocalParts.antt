-- The memory of a process while it computes.
use Rattle.std.specs.Prelude.{ℕ, List}
use Rattle.bsp_model.specs.declared.request.Store.{Store}

-- Its words, and the stores that were made in it, in order (this profile).
pub record LocalParts : Type 0 where
  pub memory : List ℕ
  pub stores : List Store
