use Rattle.std.proofs.Common.{◌≡◌, ◌<◌, ◌∙◌, List, All, ap, sym, subst, length}
use Rattle.bsp_step.specs.OutcomeParts.{OutcomeParts}
use Rattle.bsp_run.specs.Run.{Run}
use Rattle.bsp_run.proofs.Runs.{outcomes_shown-turned}
use Rattle.bsp_incr.proofs.superstep.ending.cells_of.Goals as goal

pub wide_deliveries-requires-clause-can : goal.wide_deliveries-requires-clause-can
wide_deliveries-requires-clause-can g c κs within =
    let r : Run = c.args.tape.now in
    let now = c.outcomes.ensures.outcomes ∙ outcomes_shown-turned r c.requires.turned in
    let long = sym (ap (λ (os : List OutcomeParts). length os) now) in
    record {
      deliverable = c.outcomes.ensures.deliverable c.requires.turned;
      known = subst (λ n. All (λ p. p < n) c.args.processes.now) long c.requires.known;
      ascending = c.requires.ascending;
    }
