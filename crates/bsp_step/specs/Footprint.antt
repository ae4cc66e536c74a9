-- Which words of its memory a turn depends on (this profile).
use Rattle.std.specs.Prelude.{ℕ, Bool, true, List, ◌≡◌, ◌<◌, ◌==◌, ◌||◌, not, length, slice_get, slice_index}
use Rattle.std.specs.List.{list_all, range_with_len}
use Rattle.bsp_model.specs.declared.fault.End.{End}
use Rattle.bsp_step.specs.ViewParts.{ViewParts, IsView}
use Rattle.bsp_step.specs.Act.{Act}

-- two views that are equal but for the words of their memories
pub record AreAlikeButForWords (v w : ViewParts) : Type 0 where
  pub nprocs : v.nprocs ≡ w.nprocs
  pub pid : v.pid ≡ w.pid
  pub step : v.step ≡ w.step
  pub args : v.args ≡ w.args
  pub table : v.table ≡ w.table
  pub tag_size : v.tag_size ≡ w.tag_size
  pub queue : v.queue ≡ w.queue
  pub same_length : length v.memory ≡ length w.memory

-- two such views that have equal words at each address that is looked at
pub record AreAlike (looks : ℕ → Bool) (v w : ViewParts) : Type 0 where
  pub parts : AreAlikeButForWords v w
  pub words : (a : ℕ) → a < length v.memory → looks a ≡ true → slice_get v.memory a ≡ slice_get w.memory a

-- Whether two memories of one length have equal words at each address that is looked at.
abbrev pub same_where_looked_at : (ℕ → Bool) → List ℕ → List ℕ → Bool
same_where_looked_at looks m n = list_all (λ a. not (looks a) || (slice_index m a == slice_index n a)) (range_with_len 0 (length m))

-- The law of a footprint: views that are alike have equal acts and endings, and views that differ only in words have equal footprints.
-- It speaks of views within the limits alone.
pub record IsFootprint (acts : ViewParts → List Act) (ending : ViewParts → End) (looks : ViewParts → ℕ → Bool) : Type 0 where
  pub acts_alike : (v w : ViewParts) → IsView v → IsView w → AreAlike (looks v) v w → acts v ≡ acts w
  pub ending_alike : (v w : ViewParts) → IsView v → IsView w → AreAlike (looks v) v w → ending v ≡ ending w
  pub looks_alike : (v w : ViewParts) → IsView v → IsView w → AreAlikeButForWords v w → (a : ℕ) → looks v a ≡ looks w a
