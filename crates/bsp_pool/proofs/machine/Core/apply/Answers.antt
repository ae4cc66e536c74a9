use Rattle.std.proofs.Common.{◌≡◌, length, arith}
use Rattle.std.specs.Prelude.{slice_get}
use Rattle.std.proofs.lemmas.Grind.{common_steps}
use Rattle.bsp_pool.specs.Rounds.{after_draw, Applies}
use Rattle.bsp_pool.specs.Machine.{machine, inputs_of}
use Rattle.bsp_pool.proofs.RoundSteps.{draw_sound, leave_sound, round_sound}
use Rattle.bsp_pool.proofs.machine.Core.apply.Goals as goal

pub invariant_of-self : goal.invariant_of-self
invariant_of-self g c =
    let does = g.W.Work.does c.self.inside.work in
    let m = machine c.self.inside.work c.self.inside.phases.items c.self.inside.committed.items c.self.inside.round in
    let sound = c.self.invariant.1 in
    let inputs : c.inputs_at-inputs.result.now ≡ inputs_of m = grind (arith, common_steps) in
    let drawn : Applies (after_draw (length (inputs_of m)) c.self.inside.round c.in-Draw.worker (slice_get c.self.inside.round.workers c.in-Draw.worker)) c.self.inside.round c.draw.result c.draw.new.self = rw inputs at c.draw.ensures in
    (c.self.invariant.0, round_sound does m c.draw.new.self sound (draw_sound does (inputs_of m) c.self.inside.round c.draw.new.self c.in-Draw.worker c.draw.result sound.round drawn))

pub invariant_of-self-in-Left : goal.invariant_of-self-in-Left
invariant_of-self-in-Left g c =
    let does = g.W.Work.does c.self.inside.work in
    let m = machine c.self.inside.work c.self.inside.phases.items c.self.inside.committed.items c.self.inside.round in
    let sound = c.self.invariant.1 in
    (c.self.invariant.0, round_sound does m c.leave.new.self sound (leave_sound does (inputs_of m) c.self.inside.round c.leave.new.self c.in-Left.worker c.leave.result sound.round c.leave.ensures))
