use Rattle.std.proofs.Common.{◌≡◌, map, take}
use Rattle.toml.specs.View.{view}
use Rattle.bsp_engine.proofs.jobs.values.read_each.Given as goal

abbrev pub invariant-loop-value : goal.invariant-loop-value
invariant-loop-value g l = l.all.items ≡ map (λ v. g.T.Described.described (view v)) (take l.value-index l.values)
