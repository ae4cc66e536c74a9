use Rattle.std.proofs.Common.{◌≡◌, ◌<◌, ◌∙◌, ℕ, List, Bool, All, false, sym, subst, length, get_or}
use Rattle.bsp_model.specs.Replaced.{IsAscending}
use Rattle.bsp_incr.proofs.Gathering.{processes_where-ascending, listed_below}
use Rattle.bsp_incr.proofs.superstep.ending.deliveries_among.Goals as goal

pub cells_of-requires-clause-known : goal.cells_of-requires-clause-known
cells_of-requires-clause-known g c κs within =
    let set : List Bool = c.args.touched.now in
    let asked : ℕ → Bool = λ p. get_or set p false in
    subst (λ n. All (λ p. p < n) c.as_slice-asked.result.now) c.requires.many
    (listed_below (length set) asked c.as_slice-asked.result.now (c.as_slice-asked.ensures.value ∙ c.in_ok-processes.ensures))

pub cells_of-requires-clause-ascending : goal.cells_of-requires-clause-ascending
cells_of-requires-clause-ascending g c κs within =
    let set : List Bool = c.args.touched.now in
    subst IsAscending (sym (c.as_slice-asked.ensures.value ∙ c.in_ok-processes.ensures)) (processes_where-ascending (length set) (λ p. get_or set p false))
