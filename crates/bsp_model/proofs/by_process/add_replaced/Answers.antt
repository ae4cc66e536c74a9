use Rattle.std.proofs.Common.{◌≡◌, ◌++◌, length, get_or}
use Rattle.std.specs.Prelude.{slice_range}
use Rattle.bsp_model.proofs.Replaced.{no_front, front-more}
use Rattle.bsp_model.proofs.by_process.add_replaced.Goals as goal

pub loop-place-init : goal.loop-place-init
loop-place-init g c = let items = g.T.ByProcess.items in no_front (items c.args.old.now) (items c.args.all.now) c.args.processes.now (items c.args.new.now) c.requires.empty

pub loop-place-preserved : goal.loop-place-preserved
loop-place-preserved g c =
    let items = g.T.ByProcess.items in
    let old = items c.args.old.now in
    let processes = c.args.processes.now in
    let front = items c.loop-place.all in
    let run = c.end_of_run-end.ensures in
    let before : items c.append_range.new.self ≡ front ++ slice_range old (length front) (get_or processes c.loop-place.place 0) = rw c.count.ensures at c.in_ok-append_range.ensures.ok in
    front-more old front (items c.append_range.new.self) (items c.append_range-in-loop-place.new.self) processes (items c.args.new.now) c.loop-place.place c.end_of_run-end.result
    c.requires.known c.requires.ascending c.requires.count c.loop-place.invariant run.some run.inside run.run before c.in_ok-append_range-2.ensures.ok
