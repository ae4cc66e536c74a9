use Rattle.std.proofs.Common.{◌≡◌, List, map, rules}
use Rattle.bsp_step.specs.OutcomeParts.{OutcomeParts}
use Rattle.bsp_crew.proofs.task.Means.work.Goals as goal
use Rattle.bsp_crew.proofs.task.Means.work.Goals.{in-Turns-Taken, in-Deliveries-Delivered}

pub make_deliveries-requires-after_bounds : goal.make_deliveries-requires-after_bounds
make_deliveries-requires-after_bounds g c κs within =
    (c.requires.part.deliveries c.in-Deliveries-Delivered.outcomes c.in-Deliveries-Delivered.is-0).1

pub returns-clause-made : goal.returns-clause-made
returns-clause-made g c =
    elim c.match-task.branch [
      | in-Turns-Taken w ↦ search rules
      | in-Deliveries-Delivered w ↦
          let os : List OutcomeParts = w.in-Deliveries-Delivered.outcomes in
          let left : os ≡ map g.J.SharedRun.turn (g.J.SharedRun.views c.args.part.now.step) =
          (c.requires.part.deliveries os w.in-Deliveries-Delivered.is-0).0 in
          search rules
    ]
