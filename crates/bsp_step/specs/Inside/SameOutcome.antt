-- Parts of the equality of outcomes.
use Rattle.std.specs.Prelude.{◌≡◌}
use Rattle.bsp_step.specs.OutcomeParts.{OutcomeParts}

pub record HasSameRequests (o q : OutcomeParts) : Type 0 where
  pub puts : o.puts ≡ q.puts
  pub gets : o.gets ≡ q.gets
  pub sends : o.sends ≡ q.sends
  pub pops : o.pops ≡ q.pops
  pub pushes : o.pushes ≡ q.pushes
