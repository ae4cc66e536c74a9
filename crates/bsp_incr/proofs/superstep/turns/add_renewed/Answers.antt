use Rattle.std.proofs.Common.{◌≡◌, ◌<◌, ◌+◌, ◌++◌, ◌∷◌, ◌∙◌, [], ℕ, List, true, false, arith, ap, get_or, length, map, sym, take}
use Rattle.std.specs.Prelude.{filter}
use Rattle.std.proofs.lemmas.List.{get_or_default, length-append, length-map, map_more}
use Rattle.bsp_step.specs.OutcomeParts.{OutcomeParts, no_outcome}
use Rattle.bsp_run.specs.Condition.{no_view}
use Rattle.bsp_run.specs.TurnBy.{turn_by}
use Rattle.bsp_incr.specs.Inside.Given.{Making}
use Rattle.bsp_incr.specs.Inside.OpenSuperstep.{differs_now}
use Rattle.bsp_deliver.proofs.Senders.{filter_more_no, filter_more_yes}
use Rattle.bsp_incr.proofs.Retaking.{needed_there, next_passes, one_of}
use Rattle.bsp_incr.proofs.superstep.turns.add_renewed.Goals.{then-contains+in_ok-append_range, else-contains+in_ok-add_reused_turn}
use Rattle.bsp_incr.proofs.superstep.turns.add_renewed.Goals as goal

pub append_range-requires-clause-inside : goal.append_range-requires-clause-inside
append_range-requires-clause-inside g c =
    let views = c.args.superstep.now.views.now in
    let goes = differs_now (g.P.Program.looks c.args.given.now.program) c.args.superstep.now in
    let turn = λ (p : ℕ). turn_by g.P.Program c.args.given.now.program (get_or views p no_view) in
    let ps = c.args.processes.now in
    let k = c.loop-process.process-index in
    let below : get_or ps k 0 < length views = c.requires.known k 0 c.loop-process-test.true in
    let is = sym (needed_there (length views) goes c.args.needed.now (get_or ps k 0) below c.requires.needed) ∙ sym c.contains.ensures ∙ c.if-contains.true in
    let next = next_passes turn goes ps k no_outcome c.loop-process-test.true is in
    omega (arith, c.loop-process.invariant.at, next.0, ap (λ (os : List OutcomeParts). length os) c.requires.taken, length-map (filter goes ps) turn)

pub add_reused_turn-requires-clause-serves : goal.add_reused_turn-requires-clause-serves
add_reused_turn-requires-clause-serves g c κs within =
    let views = c.args.superstep.now.views.now in
    let goes = differs_now (g.P.Program.looks c.args.given.now.program) c.args.superstep.now in
    let p = get_or c.args.processes.now c.loop-process.process-index 0 in
    let below : p < length views = c.requires.known c.loop-process.process-index 0 c.loop-process-test.true in
    ap (λ (m : Making _). differs_now (g.P.Program.looks m.program) c.args.superstep.now p) c.given.view_is
    ∙ sym (needed_there (length views) goes c.args.needed.now p below c.requires.needed) ∙ sym c.contains.ensures ∙ c.if-contains.false

pub loop-process-preserved : goal.loop-process-preserved
loop-process-preserved g c =
    let views = c.args.superstep.now.views.now in
    let goes = differs_now (g.P.Program.looks c.args.given.now.program) c.args.superstep.now in
    let turn = λ (p : ℕ). turn_by g.P.Program c.args.given.now.program (get_or views p no_view) in
    let ps = c.args.processes.now in
    let k = c.loop-process.process-index in
    let p = get_or ps k 0 in
    let within = c.loop-process-test.true in
    let below : p < length views = c.requires.known k 0 within in
    let there = needed_there (length views) goes c.args.needed.now p below c.requires.needed in
    let before = c.loop-process.renewed in
    let inv = c.loop-process.invariant in
    let more : before ++ turn p ∷ [] ≡ map turn (take (k + 1) ps) = ap (λ (os : List OutcomeParts). os ++ turn p ∷ []) inv.renewed ∙ sym (map_more turn ps k 0 within) in
    elim c.if-contains.branch [
      | then-contains+in_ok-append_range w ↦
          let is : goes p ≡ true = sym there ∙ sym c.contains.ensures ∙ w.if-contains.true in
          let next = next_passes turn goes ps k no_outcome within is in
          let taken = c.args.taken.now in
          let inside : c.loop-process.at < length taken = omega (arith, inv.at, next.0, ap (λ (os : List OutcomeParts). length os) c.requires.taken, length-map (filter goes ps) turn) in
          let one = one_of taken c.loop-process.at no_outcome inside ∙ ap (λ (n : ℕ). get_or taken n no_outcome ∷ []) inv.at ∙ ap (λ (os : List OutcomeParts). get_or os (length (filter goes (take k ps))) no_outcome ∷ []) c.requires.taken ∙ ap (λ (o : OutcomeParts). o ∷ []) next.1 in
          record {
            renewed = w.renewed-is ∙ w.in_ok-append_range.ensures.ok ∙ ap (λ (os : List OutcomeParts). before ++ os) one ∙ more;
            few = omega (arith, w.at-is, inv.few);
            at = w.at-is ∙ omega (arith, inv.at, ap (λ (qs : List ℕ). length qs) (filter_more_yes goes ps k p within (get_or_default ps k 0 p within) is), length-append (filter goes (take k ps)) (p ∷ []));
          }
      | else-contains+in_ok-add_reused_turn w ↦
          let is : goes p ≡ false = sym there ∙ sym c.contains.ensures ∙ w.if-contains.false in
          record {
            renewed = w.renewed-is ∙ w.in_ok-add_reused_turn.ensures ∙ ap (λ (m : Making _). before ++ turn_by g.P.Program m.program (get_or views p no_view) ∷ []) c.given.view_is ∙ more;
            few = omega (arith, w.at-is, inv.few);
            at = w.at-is ∙ inv.at ∙ ap (λ (qs : List ℕ). length qs) (sym (filter_more_no goes ps k p within (get_or_default ps k 0 p within) is));
          }
    ]
