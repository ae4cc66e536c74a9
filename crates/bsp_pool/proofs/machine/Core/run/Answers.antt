use Rattle.std.proofs.Common.{◌≡◌, sym, subst, [], length, arith, ◌<◌}
use Rattle.std.specs.Prelude.{slice_index_or}
use Rattle.std.proofs.lemmas.Grind.{common_steps}
use Rattle.bsp_pool.specs.Machine.{Machine, machine, inputs_of}
use Rattle.bsp_pool.proofs.RoundSteps.{held_within, run_sound, run_steps, round_sound}
use Rattle.bsp_pool.proofs.machine.Core.run.Goals as goal

pub bounds-inputs-number : goal.bounds-inputs-number
bounds-inputs-number g c =
    let m = machine c.self.inside.work c.self.inside.phases.items c.self.inside.committed.items c.self.inside.round in
    let inputs : c.inputs_at-inputs.result.now ≡ inputs_of m = grind (arith, common_steps) in
    let within = held_within (g.W.Work.does c.self.inside.work) (inputs_of m) c.self.inside.round c.args.worker c.in-Some.number c.self.invariant.1.round c.in-Some.ensures in
    rw inputs within.2

pub offset_bounds-inputs-number : goal.offset_bounds-inputs-number
offset_bounds-inputs-number g c =
    let m = machine c.self.inside.work c.self.inside.phases.items c.self.inside.committed.items c.self.inside.round in
    let inputs : c.inputs_at-inputs.result.now ≡ inputs_of m = grind (arith, common_steps) in
    let within = held_within (g.W.Work.does c.self.inside.work) (inputs_of m) c.self.inside.round c.args.worker c.in-Some.number c.self.invariant.1.round c.in-Some.ensures in
    let below : c.in-Some.number < length (inputs_of m) = within.2 in
    rw inputs (omega arith)

pub work-requires : goal.work-requires
work-requires g c =
    let m = machine c.self.inside.work c.self.inside.phases.items c.self.inside.committed.items c.self.inside.round in
    let inputs : c.inputs_at-inputs.result.now ≡ inputs_of m = grind (arith, common_steps) in
    let at : c.index-inputs-number.result ≡ slice_index_or (inputs_of m) c.in-Some.number c.index-inputs-number.result = rw inputs at c.index-inputs-number.is in
    let within = held_within (g.W.Work.does c.self.inside.work) (inputs_of m) c.self.inside.round c.args.worker c.in-Some.number c.self.invariant.1.round c.in-Some.ensures in
    let opens : length c.self.inside.committed.items < length c.self.inside.phases.items = subst (λ (n : Machine g.row.W.Denot g.row.W-In.Denot g.row.W-Out.Denot). length n.committed < length n.phases) (sym c.self.view_is) c.requires in
    subst (g.W.Work.accepts c.self.inside.work) (sym at) (c.self.invariant.0 (length c.self.inside.committed.items) [] opens c.in-Some.number c.index-inputs-number.result within.2)

pub keep-requires-clause-worker : goal.keep-requires-clause-worker
keep-requires-clause-worker g c =
    let m = machine c.self.inside.work c.self.inside.phases.items c.self.inside.committed.items c.self.inside.round in
    (held_within (g.W.Work.does c.self.inside.work) (inputs_of m) c.self.inside.round c.args.worker c.in-Some.number c.self.invariant.1.round c.in-Some.ensures).0

pub keep-requires-clause-number : goal.keep-requires-clause-number
keep-requires-clause-number g c =
    let m = machine c.self.inside.work c.self.inside.phases.items c.self.inside.committed.items c.self.inside.round in
    (held_within (g.W.Work.does c.self.inside.work) (inputs_of m) c.self.inside.round c.args.worker c.in-Some.number c.self.invariant.1.round c.in-Some.ensures).1

pub invariant_of-self : goal.invariant_of-self
invariant_of-self g c =
    let does = g.W.Work.does c.self.inside.work in
    let m = machine c.self.inside.work c.self.inside.phases.items c.self.inside.committed.items c.self.inside.round in
    let inputs : c.inputs_at-inputs.result.now ≡ inputs_of m = grind (arith, common_steps) in
    let at : c.index-inputs-number.result ≡ slice_index_or (inputs_of m) c.in-Some.number c.index-inputs-number.result = rw inputs at c.index-inputs-number.is in
    (c.self.invariant.0, round_sound does m c.keep.new.self c.self.invariant.1 (run_sound does (inputs_of m) c.self.inside.round c.keep.new.self c.args.worker c.in-Some.number c.index-inputs-number.result c.in_ok-output.output c.self.invariant.1.round c.in-Some.ensures at c.in_ok-output.ensures c.keep.ensures))

pub returns : goal.returns
returns g c =
    let does = g.W.Work.does c.self.inside.work in
    let m = machine c.self.inside.work c.self.inside.phases.items c.self.inside.committed.items c.self.inside.round in
    let inputs : c.inputs_at-inputs.result.now ≡ inputs_of m = grind (arith, common_steps) in
    let at : c.index-inputs-number.result ≡ slice_index_or (inputs_of m) c.in-Some.number c.index-inputs-number.result = rw inputs at c.index-inputs-number.is in
    rw (← c.self.view_is) (run_steps does m c.keep.new.self c.args.worker c.in-Some.number c.index-inputs-number.result c.in_ok-output.output c.self.invariant.1.round c.in-Some.ensures at c.in_ok-output.ensures c.keep.ensures)
