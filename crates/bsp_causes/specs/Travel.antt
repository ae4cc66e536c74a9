-- Which requests of a superstep travel again in an update (this profile).
use Rattle.std.specs.Prelude.{ℕ, ◌+◌, Bool, true, false, ◌&&◌, ◌||◌, List, [], ◌∷◌, filter}
use Rattle.bsp_model.specs.declared.request.Get.{Get}
use Rattle.bsp_step.specs.OutcomeParts.{OutcomeParts}

-- Of the requests of a turn that was taken again: the puts and the messages to processes to which deliveries were made again, and all gets. Of those of
-- another turn: the gets that read other words.
abbrev pub requests_again : Bool → (ℕ → Bool) → (Get → Bool) → OutcomeParts → OutcomeParts
requests_again true to reads o = record o { puts = filter (λ p. to p.target) o.puts; sends = filter (λ m. to m.target) o.sends }
requests_again false to reads o = record o { puts = []; gets = filter reads o.gets; sends = [] }

-- The outcomes with these requests alone, of which the first is that of process p. Whose gets read other words, to that process a delivery was made again.
abbrev pub outcomes_again : (ℕ → Bool) → (ℕ → Bool) → (Get → Bool) → ℕ → List OutcomeParts → List OutcomeParts
outcomes_again from to reads p [] = []
outcomes_again from to reads p (o ∷ os) =
    requests_again (from p) to (λ g. to p && reads g) o ∷ outcomes_again from to reads (p + 1) os

abbrev pub has_some : {R : Type 0} → List R → Bool
has_some [] = false
has_some (r ∷ rs) = true

-- there is a request
abbrev pub has_requests : OutcomeParts → Bool
has_requests o = has_some o.puts || has_some o.gets || has_some o.sends
