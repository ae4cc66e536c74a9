use Rattle.std.proofs.Common.{◌+◌, ◌-◌, ◌∙◌, List, ℕ, sym, ap}
use Rattle.std.proofs.lemmas.Option.{IfSome_then}
use Rattle.bsp_model.specs.declared.input.Input.{Input}
use Rattle.bsp_step.specs.ViewParts.{ViewParts}
use Rattle.bsp_run.specs.TurnBy.{turn_by}
use Rattle.bsp_scratch.specs.declared.unrecorded.Unrecorded.{Unrecorded}
use Rattle.bsp_scratch.specs.Inside.Underway.{HasLeft}
use Rattle.bsp_scratch.proofs.UnrecordedRuns.{turned_so, underway_open, underway_next}
use Rattle.bsp_crew.proofs.Paces.{no_call, still_none}
use Rattle.bsp_scratch.proofs.Underway.{views_then, one_left, is_opened, stands_ended, goes_on, no_end}
use Rattle.bsp_scratch.proofs.plain.supersteps.Goals as goal

pub returns-then-calls_workers-clause-over : goal.returns-then-calls_workers-clause-over
returns-then-calls_workers-clause-over g c =
    no_call _ c.args.pace c.loop-step.pace c.calls_workers.result c.loop-step.invariant.pace c.calls_workers.ensures.never c.if-calls_workers.true

pub unrecorded_turns-requires-clause-opened : goal.unrecorded_turns-requires-clause-opened
unrecorded_turns-requires-clause-opened g c κs within =
    let input : Input = c.args.input.now in
    let turn = turn_by g.P.Program c.args.means.now.program.now in
    let step : ℕ = c.loop-step._step in
    is_opened turn input step (input.limit - (step + 1)) c.loop-step.views c.loop-step.kept (one_left turn input step input.limit c.loop-step.views c.loop-step.kept c.loop-step-test.true c.loop-step.invariant.so_far)

pub unrecorded_turns-requires-clause-seen : goal.unrecorded_turns-requires-clause-seen
unrecorded_turns-requires-clause-seen g c κs within =
    let input : Input = c.args.input.now in
    let turn = turn_by g.P.Program c.args.means.now.program.now in
    let before = c.loop-step.invariant in
    let seen = views_then turn input c.loop-step._step (input.limit - c.loop-step._step) c.loop-step.views c.loop-step.kept before.so_far in
    IfSome_then c.args.crew c.requires.crew (λ _ h. seen ∙ sym (h.same_views c.loop-step._step) ∙ ap g.J.SharedRun.views (sym before.step))

pub returns-then-is_some-clause-stands : goal.returns-then-is_some-clause-stands
returns-then-is_some-clause-stands g c =
    let input : Input = c.args.input.now in
    let turn = turn_by g.P.Program c.args.means.now.program.now in
    let step : ℕ = c.loop-step._step in
    let n = input.limit - (step + 1) in
    let vs : List ViewParts = c.loop-step.views in
    let kept : Unrecorded = c.loop-step.kept in
    let u : HasLeft turn input step (n + 1) vs kept = one_left turn input step input.limit vs kept c.loop-step-test.true c.loop-step.invariant.so_far in
    stands_ended turn input step n vs kept c.unrecorded_turns.new.kept u (sym c.is_some.ensures ∙ c.if-is_some.true) (c.in_ok-unrecorded_turns.ensures.taken u.so_far (underway_open turn input step n vs kept u) u.same)

pub returns-then-is_some-clause-over : goal.returns-then-is_some-clause-over
returns-then-is_some-clause-over g c = no_end _ c.args.pace c.unrecorded_turns.new.kept.end (sym c.is_some.ensures ∙ c.if-is_some.true)

pub go_on-requires-clause-turned : goal.go_on-requires-clause-turned
go_on-requires-clause-turned g c =
    let input : Input = c.args.input.now in
    let turn = turn_by g.P.Program c.args.means.now.program.now in
    let step : ℕ = c.loop-step._step in
    let n = input.limit - (step + 1) in
    let vs : List ViewParts = c.loop-step.views in
    let kept : Unrecorded = c.loop-step.kept in
    let u : HasLeft turn input step (n + 1) vs kept = one_left turn input step input.limit vs kept c.loop-step-test.true c.loop-step.invariant.so_far in
    (turned_so turn u.so_far, (goes_on turn input step n vs kept c.unrecorded_turns.new.kept u (sym c.is_some.ensures ∙ c.if-is_some.false) (c.in_ok-unrecorded_turns.ensures.taken u.so_far (underway_open turn input step n vs kept u) u.same)).1)

pub loop-step-preserved : goal.loop-step-preserved
loop-step-preserved g c =
    let input : Input = c.args.input.now in
    let turn = turn_by g.P.Program c.args.means.now.program.now in
    let step : ℕ = c.loop-step._step in
    let n = input.limit - (step + 1) in
    let vs : List ViewParts = c.loop-step.views in
    let kept : Unrecorded = c.loop-step.kept in
    let before = c.loop-step.invariant in
    let u : HasLeft turn input step (n + 1) vs kept = one_left turn input step input.limit vs kept c.loop-step-test.true before.so_far in
    let on = goes_on turn input step n vs kept c.unrecorded_turns.new.kept u (sym c.is_some.ensures ∙ c.if-is_some.false) (c.in_ok-unrecorded_turns.ensures.taken u.so_far (underway_open turn input step n vs kept u) u.same) in
    record {
      so_far = underway_next turn input step n vs c.in_ok-views.views kept c.go_on.new.self u (on.1).phase (c.in_ok-views.ensures.views (turned_so turn u.so_far) on.1);
      end = c.in_ok-views.ensures.end ∙ on.0;
      step = c.in_ok-views.ensures.step ∙ ap (λ (k : ℕ). k + 1) (c.in_ok-unrecorded_turns.ensures.step ∙ before.step);
      pace = still_none c.args.pace c.loop-step.pace c.calls_workers.new.pace before.pace c.calls_workers.ensures.none;
      limit = before.limit;
    }
