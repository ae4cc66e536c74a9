use Rattle.std.proofs.Common.{◌≡◌, ◌++◌, ◌∙◌, ap, length}
use Rattle.bsp_incr.specs.Inside.Changes.{places_of}
use Rattle.bsp_incr.specs.Inside.OpenSuperstep.{differs_now}
use Rattle.bsp_incr.proofs.Facts.{on_ok}
use Rattle.bsp_incr.proofs.Gathering.{listed_below, processes_where-each_below}
use Rattle.bsp_incr.proofs.superstep.turns.turns_again.Goals as goal

pub taken_turns-requires-clause-known : goal.taken_turns-requires-clause-known
taken_turns-requires-clause-known g c κs within =
    let superstep = c.args.superstep.now in
    let goes = differs_now (g.P.Program.looks c.args.given.now.program) superstep in
    listed_below (length superstep.views.now) goes c.as_slice-asked.result.now
    (c.as_slice-asked.ensures.value ∙ c.in_ok-processes.ensures ∙ processes_where-each_below (length superstep.views.now) goes c.needed_among-needed.result c.needed_among-needed.ensures)

pub returns-clause-executed : goal.returns-clause-executed
returns-clause-executed g c =
    let superstep = c.args.superstep.now in
    let goes = differs_now (g.P.Program.looks c.args.given.now.program) superstep in
    let processes = processes_where-each_below (length superstep.views.now) goes c.needed_among-needed.result c.needed_among-needed.ensures in
    on_ok c.all_turns.result (c.in_ok-add_places.ensures ∙ ap (λ ps. c.args.executed.now ++ places_of superstep.step ps) (c.as_slice-asked.ensures.value ∙ c.in_ok-processes.ensures ∙ processes))
