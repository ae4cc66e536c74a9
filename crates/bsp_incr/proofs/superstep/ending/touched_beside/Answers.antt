use Rattle.std.proofs.Common.{◌≡◌, ◌∙◌, List, true, ap, length, replicate, subst, sym}
use Rattle.bsp_step.specs.OutcomeParts.{OutcomeParts}
use Rattle.bsp_deliver.specs.Requests.{each_below}
use Rattle.bsp_deliver.specs.Touched.{AreTouched}
use Rattle.bsp_run.specs.Run.{Run}
use Rattle.bsp_run.proofs.Runs.{outcomes_shown-turned}
use Rattle.bsp_incr.specs.Inside.Changes.{is_touched}
use Rattle.bsp_incr.specs.Inside.Given.{Making}
use Rattle.bsp_incr.proofs.Propagation.{all_touched, touched_are}
use Rattle.bsp_incr.proofs.superstep.ending.touched_beside.Goals as goal

pub returns-in-Some : goal.returns-in-Some
returns-in-Some g c =
    let r : Run = c.args.tape.now in
    let os : List OutcomeParts = c.in-Some.old.now in
    let now = c.outcomes.ensures.outcomes ∙ outcomes_shown-turned r c.requires.turned in
    let touched : c.touched_by_changes.result ≡ each_below (length r.outcomes) (is_touched os r.outcomes) =
    touched_are os r.outcomes c.touched_by_changes.result (c.in-Some.ensures.count ∙ sym c.requires.many) (subst (λ (us : List OutcomeParts). AreTouched os us c.touched_by_changes.result) now c.touched_by_changes.ensures) in
    touched ∙ ap (λ (xs : List OutcomeParts). each_below (length r.outcomes) (is_touched xs r.outcomes)) c.in-Some.ensures.outcomes

pub returns-in-None : goal.returns-in-None
returns-in-None g c =
    let us : List OutcomeParts = c.args.tape.now.outcomes in
    let many = c.len.ensures ∙ ap (λ (m : Making _). length m.input.mems) c.given.view_is ∙ sym c.requires.many in
    c.all.ensures ∙ ap (λ n. replicate n true) many ∙ all_touched us ∙ ap (λ (xs : List OutcomeParts). each_below (length us) (is_touched xs us)) (sym c.in-None.ensures.none)
