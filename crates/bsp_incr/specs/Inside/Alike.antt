-- What outcomes have in common where parts of a superstep are taken over from the previous run.
use Rattle.std.specs.Prelude.{◌≡◌, ◌<◌, ℕ, List, [], None, length, map}
use Rattle.bsp_step.specs.OutcomeParts.{OutcomeParts, outcome_of}
use Rattle.bsp_deliver.specs.Cost.{put_transfer, get_transfer, send_transfer}

-- the parts on which the end of a superstep, the next table and the next tag size depend
pub record EndsAlike (o u : OutcomeParts) : Type 0 where
  pub fault : o.fault ≡ u.fault
  pub ended : o.ended ≡ u.ended
  pub tag : o.tag ≡ u.tag
  pub pops : o.pops ≡ u.pops
  pub pushes : o.pushes ≡ u.pushes

-- The same work, and requests that move as many words between the same processes, whoever issues them.
pub record CostsAlike (o u : OutcomeParts) : Type 0 where
  pub work : o.work ≡ u.work
  pub puts : (sender : ℕ) → map (put_transfer sender) o.puts ≡ map (put_transfer sender) u.puts
  pub gets : (sender : ℕ) → map (get_transfer sender) o.gets ≡ map (get_transfer sender) u.gets
  pub sends : (sender : ℕ) → map (send_transfer sender) o.sends ≡ map (send_transfer sender) u.sends

-- A turn without a fault that chose no tag size, and issued no request but puts.
pub record LeftOnlyPuts (o : OutcomeParts) : Type 0 where
  pub fault : o.fault ≡ None
  pub tag : o.tag ≡ None
  pub pops : o.pops ≡ []
  pub pushes : o.pushes ≡ []
  pub gets : o.gets ≡ []
  pub sends : o.sends ≡ []

-- Some turns, and as many others, which are alike one by one.
pub record AllAlike (AreAlike : OutcomeParts → OutcomeParts → Type 0) (os us : List OutcomeParts) : Type 0 where
  pub some : 0 < length os
  pub count : length os ≡ length us
  pub each : (p : ℕ) → p < length us → AreAlike (outcome_of os p) (outcome_of us p)

abbrev pub AllEndAlike : List OutcomeParts → List OutcomeParts → Type 0
AllEndAlike = AllAlike EndsAlike

abbrev pub AllCostAlike : List OutcomeParts → List OutcomeParts → Type 0
AllCostAlike = AllAlike CostsAlike
