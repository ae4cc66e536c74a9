use Rattle.std.proofs.Common.{ap, arith, length, ◌∙◌}
use Rattle.std.proofs.lemmas.List.{length-map}
use Rattle.bsp_pool.specs.Inside.Turning.{missing_of}
use Rattle.bsp_pool.proofs.KeptLists.{all_outputs, none_kept}
use Rattle.bsp_pool.proofs.phases.phase.Goals as goal

pub kept_by_pool-kept-requires-clause-kept : goal.kept_by_pool-kept-requires-clause-kept
kept_by_pool-kept-requires-clause-kept g c = λ _ _.
    none_kept (g.W.Work.does c.args.work.now) c.args.inputs.now c.in_ok-kept.kept.items c.in_ok-kept.ensures

pub work_missing-requires-clause-kept : goal.work_missing-requires-clause-kept
work_missing-requires-clause-kept g c = λ _ _.
    ap length c.as_slice.ensures.value ∙ (c.kept_by_pool-kept.ensures.places ∙ length-map c.args.inputs.now (g.W.Work.does c.args.work.now))

pub merged-requires-clause-room : goal.merged-requires-clause-room
merged-requires-clause-room g c =
    let places = c.kept_by_pool-kept.ensures.places in
    let same = length-map c.args.inputs.now (g.W.Work.does c.args.work.now) in
    let room = c.in_ok-missing.ensures.room in
    omega arith

pub returns : goal.returns
returns g c =
    let does = g.W.Work.does c.args.work.now in
    let inputs = c.args.inputs.now in
    c.merged.ensures
    ∙ all_outputs does inputs c.kept_by_pool-kept.result.items c.in_ok-missing.missing.made.items c.kept_by_pool-kept.ensures (c.in_ok-missing.ensures.made ∙ ap (missing_of does inputs) c.as_slice.ensures.value)
