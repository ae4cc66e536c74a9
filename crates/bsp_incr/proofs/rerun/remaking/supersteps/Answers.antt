use Rattle.std.proofs.Common.{◌≡◌, ◌<◌, ◌∙◌, true, sym, subst}
use Rattle.bsp_run.specs.Run.{Run, run}
use Rattle.bsp_run.specs.Condition.{is_open}
use Rattle.bsp_run.specs.Inside.Left.{LeadsTo}
use Rattle.bsp_run.specs.TurnBy.{turn_by}
use Rattle.bsp_run.proofs.Runs.{supersteps_left, advance-leads, fewer_left}
use Rattle.bsp_crew.proofs.Paces.{no_call, still_none}
use Rattle.bsp_incr.proofs.rerun.remaking.supersteps.Goals as goal

pub returns-then-calls_workers-clause-over : goal.returns-then-calls_workers-clause-over
returns-then-calls_workers-clause-over g c =
    no_call _ c.args.pace c.loop-given.pace c.calls_workers.result c.loop-given.invariant.pace c.calls_workers.ensures.never c.if-calls_workers.true

pub loop-given-preserved : goal.loop-given-preserved
loop-given-preserved g c =
    let turn = turn_by g.P.Program c.args.given.now.program in
    let whole : Run = run turn c.args.given.now.input in
    let before = c.loop-given.invariant in
    let open_now : is_open c.loop-given.tape.phase ≡ true = sym c.is_open.ensures ∙ c.loop-given-test.true in
    record {
      going_on = record {
        leads = subst (λ (r : Run). LeadsTo turn r whole) (sym c.in_ok-advance.ensures.tape) (advance-leads turn c.loop-given.tape whole before.going_on.leads open_now);
        midway = c.in_ok-advance.ensures.under_way;
        table = c.in_ok-advance.ensures.table;
      };
      pace = still_none c.args.pace c.loop-given.pace c.calls_workers.new.pace before.pace c.calls_workers.ensures.none;
    }

pub loop-given-smaller : goal.loop-given-smaller
loop-given-smaller g c =
    let turn = turn_by g.P.Program c.args.given.now.program in
    let whole : Run = run turn c.args.given.now.input in
    let open_now : is_open c.loop-given.tape.phase ≡ true = sym c.is_open.ensures ∙ c.loop-given-test.true in
    subst (λ (r : Run). supersteps_left r < supersteps_left c.loop-given.tape) (sym c.in_ok-advance.ensures.tape) (fewer_left turn c.loop-given.tape whole c.loop-given.invariant.going_on.leads open_now)
