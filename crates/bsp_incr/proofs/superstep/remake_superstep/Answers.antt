use Rattle.std.proofs.Common.{◌≡◌, ◌++◌, ◌∙◌, All, List, Option, ap, sym, subst, map, length}
use Rattle.bsp_model.specs.ProcessSet.{union}
use Rattle.bsp_step.specs.OutcomeParts.{OutcomeParts}
use Rattle.bsp_step.specs.ViewParts.{IsView}
use Rattle.bsp_deliver.specs.Requests.{each_below}
use Rattle.bsp_run.specs.Run.{Run, after_turns, after_delivery, open_views}
use Rattle.bsp_run.specs.Law.{views_in}
use Rattle.bsp_run.specs.Condition.{AreOutcomesOf, is_turned}
use Rattle.bsp_run.specs.TurnBy.{turn_by}
use Rattle.bsp_run.proofs.Runs.{open_phase, advance-delivers, advance-ends}
use Rattle.bsp_run.proofs.Records.{open_views-in}
use Rattle.bsp_run.proofs.Turns.{AreOutcomesOf-turns}
use Rattle.bsp_incr.specs.Inside.Alike.{AllCostAlike}
use Rattle.bsp_incr.specs.Inside.Before.{delivered_outcomes}
use Rattle.bsp_incr.specs.Inside.Changes.{differ_in, touched_in, is_touched}
use Rattle.bsp_incr.specs.Inside.Marks.{OutcomesDifferAtMost}
use Rattle.bsp_incr.proofs.KnownTables.{delivers_as_before, knows_next_as_before, knows_next_if, knows_delivered, knows_ended}
use Rattle.bsp_incr.proofs.Remaking.{count-turns, turned_same, turned_still, unchanged_among, under_way_turned, under_way_delivered}
use Rattle.bsp_incr.proofs.superstep.remake_superstep.Goals as goal

pub alike_beside-alike-requires-clause-count : goal.alike_beside-alike-requires-clause-count
alike_beside-alike-requires-clause-count g c κs within =
    let turn = turn_by g.P.Program c.args.given.now.program in
    let taken = c.in_ok-outcomes.ensures.turns ∙ ap (map turn) c.open_superstep-superstep.ensures.views in
    ap (λ (os : List OutcomeParts). length os) taken ∙ count-turns turn c.args.given.now.input c.args.tape.now c.requires.under_way.made

pub alike_beside-alike-requires-clause-dirty : goal.alike_beside-alike-requires-clause-dirty
alike_beside-alike-requires-clause-dirty g c κs within =
    let turn = turn_by g.P.Program c.args.given.now.program in
    let taken = c.in_ok-outcomes.ensures.turns ∙ ap (map turn) c.open_superstep-superstep.ensures.views in
    let r : Run = c.args.tape.now in
    let known = c.open_superstep-superstep.ensures.given in
    subst (λ (os : List OutcomeParts). OutcomesDifferAtMost (delivered_outcomes c.args.given.now.before (length r.past)) os c.args.dirty.now.processes) (sym taken)
    (unchanged_among turn c.args.given.now.input c.args.given.now.before (length r.past) (open_views r) c.args.dirty.now.processes known.before (open_views-in turn c.args.given.now.input r c.requires.under_way.made) c.requires.dirty.processes)

pub end_turns-requires-clause-turns : goal.end_turns-requires-clause-turns
end_turns-requires-clause-turns g c =
    let turn = turn_by g.P.Program c.args.given.now.program in
    let taken = c.in_ok-outcomes.ensures.turns ∙ ap (map turn) c.open_superstep-superstep.ensures.views in
    let opened = c.open_superstep-superstep in
    subst (AreOutcomesOf (open_views c.args.tape.now)) (sym taken)
    (AreOutcomesOf-turns (g.P.Program.acts c.args.given.now.program) (g.P.Program.ending c.args.given.now.program) (open_views c.args.tape.now) (subst (All IsView) opened.ensures.views opened.ensures.limits))

pub end_turns-requires-clause-delivery : goal.end_turns-requires-clause-delivery
end_turns-requires-clause-delivery g c = λ yes.
    let turn = turn_by g.P.Program c.args.given.now.program in
    let known = c.open_superstep-superstep.ensures.given in
    let alike = c.alike_beside-alike.ensures in
    delivers_as_before turn c.args.given.now.input c.args.given.now.before c.args.tape.now c.in_ok-outcomes.outcomes known.before c.requires.under_way.made
    record { same_table = c.requires.dirty.same_table (alike.table yes); alike = alike.ends yes }

pub make_deliveries-requires-clause-many : goal.make_deliveries-requires-clause-many
make_deliveries-requires-clause-many g c κs within =
    let turn = turn_by g.P.Program c.args.given.now.program in
    let is = c.in_ok-goes_on.ensures.turned ∙ ap (after_turns c.args.tape.now) (c.in_ok-outcomes.ensures.turns ∙ ap (map turn) c.open_superstep-superstep.ensures.views) in
    turned_same (λ n (os : List OutcomeParts). length os) c.args.tape.now c.end_turns.new.tape (map turn (open_views c.args.tape.now)) is ∙ count-turns turn c.args.given.now.input c.args.tape.now c.requires.under_way.made

pub make_deliveries-requires-clause-taken : goal.make_deliveries-requires-clause-taken
make_deliveries-requires-clause-taken g c κs within =
    let turn = turn_by g.P.Program c.args.given.now.program in
    let input = c.args.given.now.input in
    let r : Run = c.args.tape.now in
    let is = c.in_ok-goes_on.ensures.turned ∙ ap (after_turns r) (c.in_ok-outcomes.ensures.turns ∙ ap (map turn) c.open_superstep-superstep.ensures.views) in
    turned_still (λ n (os : List OutcomeParts). os ≡ map turn (views_in turn input n)) r c.end_turns.new.tape (map turn (open_views r)) is
    (ap (map turn) (open_views-in turn input r c.requires.under_way.made))

pub make_deliveries-requires-clause-dirty : goal.make_deliveries-requires-clause-dirty
make_deliveries-requires-clause-dirty g c κs within =
    let turn = turn_by g.P.Program c.args.given.now.program in
    let is = c.in_ok-goes_on.ensures.turned ∙ ap (after_turns c.args.tape.now) (c.in_ok-outcomes.ensures.turns ∙ ap (map turn) c.open_superstep-superstep.ensures.views) in
    let old : Option Run = c.args.given.now.before in
    let r : Run = c.args.tape.now in
    let set = c.args.dirty.now.processes in
    turned_still (λ n os. OutcomesDifferAtMost (delivered_outcomes old n) os set) r c.end_turns.new.tape (map turn (open_views r)) is
    (unchanged_among turn c.args.given.now.input old (length r.past) (open_views r) set c.open_superstep-superstep.ensures.given.before (open_views-in turn c.args.given.now.input r c.requires.under_way.made) c.requires.dirty.processes)

pub make_deliveries-requires-clause-cost : goal.make_deliveries-requires-clause-cost
make_deliveries-requires-clause-cost g c κs within = λ yes.
    turned_still (λ n. AllCostAlike (delivered_outcomes c.args.given.now.before n)) c.args.tape.now c.end_turns.new.tape c.in_ok-outcomes.outcomes c.in_ok-goes_on.ensures.turned (c.alike_beside-alike.ensures.costs yes)

pub make_deliveries-requires-clause-known : goal.make_deliveries-requires-clause-known
make_deliveries-requires-clause-known g c κs within =
    let old : Option Run = c.args.given.now.before in
    let alike = c.alike_beside-alike.ensures in
    knows_next_if old c.end_turns.new.tape c.alike_beside-alike.result.ends _ c.next_table-under_way.ensures
    (λ yes. knows_next_as_before (turn_by g.P.Program c.args.given.now.program) c.args.given.now.input old c.args.tape.now c.end_turns.new.tape c.in_ok-outcomes.outcomes c.open_superstep-superstep.ensures.given.before c.requires.under_way.made
    record { same_table = c.requires.dirty.same_table (alike.table yes); alike = alike.ends yes } c.in_ok-goes_on.ensures.turned)

pub returns : goal.returns
returns g c =
    let turn = turn_by g.P.Program c.args.given.now.program in
    let old : Option Run = c.args.given.now.before in
    let r : Run = c.args.tape.now in
    let t : Run = c.end_turns.new.tape in
    let us = map turn (open_views r) in
    let u = c.args.under_way.now.update in
    let opened = c.open_superstep-superstep.ensures in
    let is = c.in_ok-goes_on.ensures.turned ∙ ap (after_turns r) (c.in_ok-outcomes.ensures.turns ∙ ap (map turn) opened.views) in
    let executed = c.in_ok-outcomes.ensures.executed ∙ (λ i. u.executed ++ differ_in (g.P.Program.looks c.args.given.now.program) (opened.step i) (opened.old_views i) (opened.views i)) in
    let delivers = ap (λ (x : Run). is_turned x.phase) (sym is) ∙ sym c.in_ok-goes_on.ensures.answer ∙ c.if-not-goes_on.false in
    let made = c.in_ok-make_deliveries.ensures in
    let known = opened.given in
    record {
      tape = made.tape ∙ ap after_delivery is ∙ sym (advance-delivers turn r (open_phase r.phase c.requires.open) delivers);
      under_way = under_way_delivered turn (g.P.Program.looks c.args.given.now.program) old c.args.given.now.input c.args.given.now.others r c.make_deliveries.new.tape c.args.under_way.now.marks c.make_deliveries.new.under_way.marks u c.make_deliveries.new.under_way.update
          c.requires.open delivers known.before known.others c.requires.under_way (made.tape ∙ ap after_delivery is)
          (made.marks ∙ turned_same (λ n (os : List OutcomeParts). union (each_below (length os) (is_touched (delivered_outcomes old n) os)) c.args.given.now.others) r t us is)
          (made.executed ∙ executed)
          (made.redelivered ∙ turned_same (λ n (os : List OutcomeParts). u.redelivered ++ touched_in n (delivered_outcomes old n) os) r t us is);
      table = knows_delivered turn c.args.given.now.input old r t c.make_deliveries.new.tape us c.make_deliveries.new.under_way.table known.before is made.tape made.known;
    }

pub returns-then-not-goes_on : goal.returns-then-not-goes_on
returns-then-not-goes_on g c =
    let turn = turn_by g.P.Program c.args.given.now.program in
    let old : Option Run = c.args.given.now.before in
    let r : Run = c.args.tape.now in
    let t : Run = c.end_turns.new.tape in
    let u = c.args.under_way.now.update in
    let opened = c.open_superstep-superstep.ensures in
    let is = c.in_ok-goes_on.ensures.turned ∙ ap (after_turns r) (c.in_ok-outcomes.ensures.turns ∙ ap (map turn) opened.views) in
    let executed = c.in_ok-outcomes.ensures.executed ∙ (λ i. u.executed ++ differ_in (g.P.Program.looks c.args.given.now.program) (opened.step i) (opened.old_views i) (opened.views i)) in
    let ends = ap (λ (x : Run). is_turned x.phase) (sym is) ∙ sym c.in_ok-goes_on.ensures.answer ∙ c.if-not-goes_on.true in
    record {
      tape = is ∙ sym (advance-ends turn r (open_phase r.phase c.requires.open) ends);
      under_way = under_way_turned turn (g.P.Program.looks c.args.given.now.program) old c.args.given.now.input r t c.args.under_way.now.marks u record { executed = c.turns_again.new.executed; redelivered = u.redelivered }
          c.requires.open c.requires.under_way is executed (λ i. u.redelivered);
      table = knows_ended old r t (map turn (open_views r)) c.next_table-under_way.result is;
    }
