use Rattle.std.proofs.Common.{◌∙◌, ap, length, sym}
use Rattle.std.specs.Prelude.{filter}
use Rattle.bsp_run.specs.Shares.{turns_of}
use Rattle.bsp_run.specs.TurnBy.{turn_by}
use Rattle.bsp_incr.specs.Inside.OpenSuperstep.{differs_now}
use Rattle.bsp_incr.proofs.Members.{members_known}
use Rattle.bsp_incr.proofs.Retaking.{needed_are}
use Rattle.bsp_incr.proofs.superstep.turns.over_renewed.Goals as goal

pub add_renewed-requires-clause-known : goal.add_renewed-requires-clause-known
add_renewed-requires-clause-known g c κs within =
    members_known c.args.dirty.now (length c.args.superstep.now.views.now) c.as_slice-asked.result.now c.requires.dirty.count (c.as_slice-asked.ensures.value ∙ c.in_ok-processes.ensures)

pub add_renewed-requires-clause-taken : goal.add_renewed-requires-clause-taken
add_renewed-requires-clause-taken g c κs within =
    let superstep = c.args.superstep.now in
    let looks = g.P.Program.looks c.args.given.now.program in
    c.requires.turns
    ∙ ap (turns_of (turn_by g.P.Program c.args.given.now.program) superstep.views.now)
    (needed_are looks superstep.old_views superstep.views.now c.args.dirty.now c.args.needed.now c.requires.dirty c.requires.needed
    ∙ ap (filter (differs_now looks superstep)) (sym (c.as_slice-asked.ensures.value ∙ c.in_ok-processes.ensures)))
