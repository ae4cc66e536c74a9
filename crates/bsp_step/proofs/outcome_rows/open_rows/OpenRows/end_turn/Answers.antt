use Rattle.std.proofs.Common.{◌≡◌, ◌∷◌, ◌++◌, [], sym, ◌∙◌}
use Rattle.bsp_step.specs.Inside.Gathered.{begun, gathered_in, outcome_by, IsGathered}
use Rattle.bsp_model.proofs.EitherWay.{both_ok}
use Rattle.bsp_step.proofs.Gathered.{turn_ended}
use Rattle.bsp_step.proofs.outcome_rows.open_rows.OpenRows.end_turn.Goals as goal

ended : (c : goal.After-push_reserved) → IsGathered (c.self.inside.ends.items ++ c.args.end ∷ []) (c.self.inside.memories ++ c.args.workspace.now.local.memory ∷ []) c.end_turn-ended.new.self 0
    × (gathered_in (c.self.inside.ends.items ++ c.args.end ∷ []) (c.self.inside.memories ++ c.args.workspace.now.local.memory ∷ []) c.end_turn-ended.new.self ≡ begun (c.args.self.now.earlier ++ outcome_by c.args.self.now c.args.end c.args.fault c.args.tag c.args.workspace.now.local ∷ []))
ended c =
    let r = c.self.inside in
    let both = both_ok c.end_turn-ended.result c.reserve.result c.in_default.field-0 (sym c.in_default.is ∙ c.and.ensures) c.end_turn-ended.ensures.ended c.reserve.ensures.ok in
    turn_ended r.ends.items r.memories r.lists c.end_turn-ended.new.self c.args.self.now c.len-place.result r.requests c.args.end c.args.fault c.args.tag c.args.workspace.now.local c.self.invariant c.self.view_is
    (c.len-place.ensures ∙ r.ends.ok.0) both.0 c.end_turn-ended.ensures.same c.requires.limits

pub invariant_of-self-2 : goal.invariant_of-self-2
invariant_of-self-2 c = rw (c.push_reserved.ensures.items, c.reserve.ensures.items, c.in_default-move_to.ensures.ok) (ended c).0

pub returns : goal.returns
returns c = rw (c.push_reserved.ensures.items, c.reserve.ensures.items, c.in_default-move_to.ensures.ok) (ended c).1
