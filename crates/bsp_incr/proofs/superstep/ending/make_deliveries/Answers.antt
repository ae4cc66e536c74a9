use Rattle.std.proofs.Common.{◌∙◌, ◌++◌, ℕ, Bool, List, ap, sym, length}
use Rattle.std.proofs.lemmas.List.FromFn.{length-map-range_with_len}
use Rattle.bsp_run.specs.Run.{Run}
use Rattle.bsp_incr.specs.Inside.Changes.{is_touched, places_of}
use Rattle.bsp_incr.specs.Inside.Given.{Making, delivered_beside}
use Rattle.bsp_incr.proofs.Facts.{on_ok}
use Rattle.bsp_incr.proofs.Gathering.{processes_where-each_below}
use Rattle.bsp_incr.proofs.superstep.ending.make_deliveries.Goals as goal

pub deliveries_among-requires-clause-many : goal.deliveries_among-requires-clause-many
deliveries_among-requires-clause-many g c κs within =
    let r : Run = c.args.tape.now in
    ap (λ (bs : List Bool). length bs) c.touched_beside-touched.ensures ∙ length-map-range_with_len (is_touched (delivered_beside c.args.given.now r) r.outcomes) 0 (length r.outcomes)

pub open_next-requires-clause-processes : goal.open_next-requires-clause-processes
open_next-requires-clause-processes g c κs within =
    let r : Run = c.args.tape.now in
    let test : ℕ → Bool = is_touched (delivered_beside c.args.given.now r) r.outcomes in
    c.in_ok-deliveries.ensures.processes ∙ processes_where-each_below (length r.outcomes) test c.touched_beside-touched.result c.touched_beside-touched.ensures

pub union-under_way-requires : goal.union-under_way-requires
union-under_way-requires g c =
    let r : Run = c.args.tape.now in
    let test : ℕ → Bool = is_touched (delivered_beside c.args.given.now r) r.outcomes in
    c.given.invariant.others.count ∙ ap (λ (m : Making _). length m.input.mems) c.given.view_is ∙ sym c.requires.many
    ∙ sym (ap (λ (bs : List Bool). length bs) c.touched_beside-touched.ensures ∙ length-map-range_with_len test 0 (length r.outcomes))

pub returns-clause-redelivered : goal.returns-clause-redelivered
returns-clause-redelivered g c =
    let r : Run = c.args.tape.now in
    let test : ℕ → Bool = is_touched (delivered_beside c.args.given.now r) r.outcomes in
    let redelivered =
    c.in_ok-deliveries.ensures.places
    ∙ ap (λ (ks : List ℕ). c.args.under_way.now.update.redelivered ++ places_of (length r.past) ks) (processes_where-each_below (length r.outcomes) test c.touched_beside-touched.result c.touched_beside-touched.ensures) in
    on_ok c.open_next.result redelivered
