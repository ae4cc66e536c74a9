use Rattle.std.proofs.Common.{◌≡◌, ◌∙◌, ap, sym, subst, Bool, true, [], ◌++◌, ◌∷◌, length, arith, ◌<◌, ◌+◌}
use Rattle.std.specs.Prelude.{slice_index_or, Some, None, if◌then◌else◌}
use Rattle.std.specs.List.{list_all}
use Rattle.std.proofs.lemmas.Grind.{common_steps}
use Rattle.bsp_pool.specs.Rounds.{RoundParts, is_gone}
use Rattle.bsp_pool.specs.Machine.{Machine, machine, inputs_of, turned, IsSound}
use Rattle.bsp_pool.proofs.RoundSteps.{turned_sound}
use Rattle.bsp_pool.proofs.TurnLists.{turned-is}
use Rattle.bsp_pool.proofs.machine.Core.turn.Goals as goal

-- the fields afterwards are those of the machine turned
after_turn : (g : _) (c : goal.After-push_reserved g) → machine c.self.inside.work c.self.inside.phases.items c.push_reserved.new.self.items c.turn.new.round ≡ turned (g.W.Work.does c.self.inside.work) (machine c.self.inside.work c.self.inside.phases.items c.self.inside.committed.items c.self.inside.round)
after_turn g c =
    let does = g.W.Work.does c.self.inside.work in
    let m = machine c.self.inside.work c.self.inside.phases.items c.self.inside.committed.items c.self.inside.round in
    let reserved = c.reserve.ensures.items in
    let inputs : c.inputs_at-inputs.result.now ≡ inputs_of m = grind (arith, common_steps) in
    let next_inputs : c.inputs_at-next_inputs.result.now ≡ slice_index_or m.phases (length m.committed + 1) [] = grind (arith, common_steps) in
    let done = c.push_reserved.ensures.items ∙ ap (λ l. l ++ c.from_vec.result ∷ []) reserved in
    turned-is does m c.push_reserved.new.self.items c.turn.new.round c.from_vec.result c.inputs_at-inputs.result.now c.inputs_at-next_inputs.result.now inputs next_inputs (c.from_vec.ensures ∙ c.in_ok-outputs.ensures.outputs) done c.in_ok-outputs.ensures.next

pub invariant_of-self-in_err-outputs : goal.invariant_of-self-in_err-outputs
invariant_of-self-in_err-outputs g c =
    let does = g.W.Work.does c.self.inside.work in
    let P : RoundParts g.row.W-Out.Denot → Type 0 = λ r. IsSound does (machine c.self.inside.work c.self.inside.phases.items c.reserve.new.self.items r) in
    (c.self.invariant.0, subst P (sym c.in_err-outputs.ensures.err) (subst (λ l. IsSound does (machine c.self.inside.work c.self.inside.phases.items l c.self.inside.round)) (sym c.reserve.ensures.items) c.self.invariant.1))

pub invariant_of-self-2 : goal.invariant_of-self-2
invariant_of-self-2 g c =
    let does = g.W.Work.does c.self.inside.work in
    let m = machine c.self.inside.work c.self.inside.phases.items c.self.inside.committed.items c.self.inside.round in
    let opens : length c.self.inside.committed.items < length c.self.inside.phases.items = subst (λ (n : Machine g.row.W.Denot g.row.W-In.Denot g.row.W-Out.Denot). length n.committed < length n.phases) (sym c.self.view_is) c.requires in
    (c.self.invariant.0, subst (IsSound does) (sym (after_turn g c)) (turned_sound does m c.self.invariant.1 opens))

pub returns : goal.returns
returns g c =
    let does = g.W.Work.does c.self.inside.work in
    let m = machine c.self.inside.work c.self.inside.phases.items c.self.inside.committed.items c.self.inside.round in
    let over : list_all is_gone m.round.workers ≡ true = grind (arith, common_steps) in
    rw (← c.self.view_is) (ap (λ (b : Bool). if b then Some (turned does m) else None) over ∙ ap Some (sym (after_turn g c)))
