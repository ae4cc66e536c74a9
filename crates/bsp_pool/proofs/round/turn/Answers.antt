use Rattle.std.proofs.Common.{◌≡◌, ◌∙◌, ap}
use Rattle.bsp_pool.specs.Rounds.{RoundParts}
use Rattle.bsp_pool.proofs.TurnLists.{merged-outputs}
use Rattle.bsp_pool.proofs.round.turn.Goals as goal

pub returns-clause-outputs : goal.returns-clause-outputs
returns-clause-outputs g c =
    let os = c.args.round.now.outputs in
    let shown = ap (λ (r : RoundParts g.row.W-Out.Denot). r.outputs) c.round.view_is in
    let seen : c.as_slice.result.now ≡ os = c.as_slice.ensures.value ∙ shown in
    let kept : c.replace-kept.result.items ≡ os = cc in
    merged-outputs (g.W.Work.does c.args.work.now) c.args.inputs.now os c.replace-kept.result.items c.as_slice.result.now c.in_ok-missing.missing.made.items c.merged.result.items c.merged.ensures kept c.in_ok-missing.ensures.made seen c.requires.places
