use Rattle.std.proofs.Common.{◌≡◌, Bor, Some, ap}
use Rattle.std.specs.Prelude.{option_map}
use Rattle.bsp_run.specs.Run.{Run}
use Rattle.bsp_incr.proofs.Lasting.{unmarked_stay}
use Rattle.bsp_incr.proofs.rerun.finishing.finished.Goals as goal

pub finish_like-requires-clause-marks : goal.finish_like-requires-clause-marks
finish_like-requires-clause-marks c =
    let old : Run = c.in-Some.history.now in
    let there : option_map (λ (k : Bor Run). k.now) c.args.old ≡ Some old = ap (option_map (λ (k : Bor Run). k.now)) c.in-Some.is in
    unmarked_stay old c.args.tape c.args.executed.now c.none-processes.result c.add_place_processes.new.processes (c.requires.executed old there) c.add_place_processes.ensures
