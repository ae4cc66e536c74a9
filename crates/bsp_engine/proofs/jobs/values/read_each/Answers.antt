use Rattle.std.proofs.Common.{◌≡◌, ◌∙◌, map, arith}
use Rattle.std.proofs.lemmas.Grind.{common_steps}
use Rattle.toml.specs.View.{view}
use Rattle.toml.specs.declared.value.Value.{Value}
use Rattle.bsp_engine.proofs.Trees.{map_viewed}
use Rattle.bsp_engine.proofs.jobs.values.read_each.Goals as goal

pub returns : goal.returns
returns g c =
    let read : c.loop-value.all.items ≡ map (λ (v : Value). g.T.Described.described (view v)) c.args.values.now = grind (arith, common_steps) in
    c.from_vec.ensures ∙ (read ∙ map_viewed g.T.Described.described c.args.values.now)
