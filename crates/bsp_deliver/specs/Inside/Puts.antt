-- Turns that issue no other requests between processes than puts: no public contract speaks of them.
use Rattle.std.specs.Prelude.{◌≡◌, []}
use Rattle.bsp_step.specs.OutcomeParts.{OutcomeParts}

abbrev pub HasPutsAlone : OutcomeParts → Type 0
HasPutsAlone o = (o.gets ≡ []) × (o.sends ≡ [])
