use Rattle.std.proofs.Common.{◌∷◌, [], ◌++◌, ◌∙◌, ◌<◌, ℕ, Ok, ap, codes, get_or, length, option_map}
use Rattle.std.proofs.lemmas.List.{get_or_default}
use Rattle.bsp_incr.specs.declared.reply.Place.{Place}
use Rattle.bsp_incr.specs.Exact.{delivered_before}
use Rattle.bsp_causes.specs.declared.deliveries.DeliveryCauses.{DeliveryCauses}
use Rattle.bsp_causes.specs.DeliveryCauses.{delivery_causes}
use Rattle.bsp_engine.specs.WhyLines.{delivery_cause_words, step_words, why_delivery_line}
use Rattle.bsp_text.proofs.Numbering.{pieces_grow, three_pieces}
use Rattle.bsp_engine.proofs.update_lines.push_why_deliveries.Goals as goal

pub loop-place-preserved : goal.loop-place-preserved
loop-place-preserved c =
    let none : Place = record { step = 0; pid = 0 } in
    let places = c.args.places.now in
    let index = c.loop-place.place-index in
    let within : index < length places = c.loop-place-test.true in
    let place = get_or places index none in
    let old = option_map (λ h. h.now) c.args.old in
    let line = why_delivery_line old c.args.new.now in
    let causes = delivery_causes (delivered_before old) c.args.new.now.past place in
    let begun = c.begin_step.new.text.items in
    let told = three_pieces {X = ℕ} {E = ℕ} (Ok 0) c.loop-place.text.items (step_words (codes "why delivery") place) (delivery_cause_words causes) (10 ∷ []) begun c.push_delivery_causes.new.text.items c.push.new.self.items
    c.in_ok-begin_step.ensures (c.in_ok-push_delivery_causes.ensures ∙ ap (λ (x : DeliveryCauses). begun ++ delivery_cause_words x) c.in_ok-causes.ensures) c.in_ok-push.ensures.items in
    pieces_grow line c.args.text.now.items _ _ places index place within (get_or_default places index none _ within) c.loop-place.invariant told
