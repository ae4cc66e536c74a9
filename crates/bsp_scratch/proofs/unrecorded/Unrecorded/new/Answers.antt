use Rattle.std.proofs.Common.{refl}
use Rattle.bsp_model.proofs.Inputs.{lawful_input}
use Rattle.bsp_scratch.proofs.UnrecordedRuns.{unrecorded_start}
use Rattle.bsp_scratch.proofs.unrecorded.Unrecorded.new.Goals as goal

pub returns-clause-kept : goal.returns-clause-kept
returns-clause-kept c =
    let input = c.args.input.now in
    let begun = c.new.ensures in
    unrecorded_start input _ _ _ (lawful_input input c.requires.lawful) c.requires.processes refl begun.g begun.l begun.lines begun.costs
