-- Marks of processes that private functions set one after another: no public contract speaks of them.
use Rattle.std.specs.Prelude.{◌≡◌, ◌↔◌, ℕ, ◌<◌, Bool, true, false, List, All, length, slice_index_or}
use Rattle.bsp_step.specs.OutcomeParts.{OutcomeParts}

-- As many marks, and of the processes that were not marked those stay so of which P holds. What is past the end counts as marked.
pub record AreMarkedUnless (P : ℕ → Type 0) (before after : List Bool) : Type 0 where
  pub count : length after ≡ length before
  pub each : (d : ℕ) → (slice_index_or after d true ≡ false) ↔ (slice_index_or before d true ≡ false) × P d

-- puts and messages to one of n processes
pub record AreToKnown (n : ℕ) (o : OutcomeParts) : Type 0 where
  pub puts : All (λ p. p.target < n) o.puts
  pub sends : All (λ m. m.target < n) o.sends
