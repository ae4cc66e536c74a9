use Rattle.std.proofs.Common.{◌∷◌, [], ◌++◌, ◌∙◌, ◌<◌, ℕ, Ok, ap, codes, get_or, length, option_map}
use Rattle.std.proofs.lemmas.List.{get_or_default}
use Rattle.bsp_run.specs.Supersteps.{supersteps_of}
use Rattle.bsp_incr.specs.declared.reply.Place.{Place}
use Rattle.bsp_incr.specs.Exact.{supersteps_before}
use Rattle.bsp_causes.specs.declared.turns.TurnCauses.{TurnCauses}
use Rattle.bsp_causes.specs.TurnCauses.{turn_causes}
use Rattle.bsp_engine.specs.WhyLines.{turn_cause_words, step_words, why_turn_line}
use Rattle.bsp_text.proofs.Numbering.{pieces_grow, three_pieces}
use Rattle.bsp_engine.proofs.update_lines.push_why_turns.Goals as goal

pub loop-place-preserved : goal.loop-place-preserved
loop-place-preserved g c =
    let none : Place = record { step = 0; pid = 0 } in
    let places = c.args.places.now in
    let index = c.loop-place.place-index in
    let within : index < length places = c.loop-place-test.true in
    let place = get_or places index none in
    let looks = g.P.Program.looks c.args.program.now in
    let old = option_map (λ h. h.now) c.args.old in
    let line = why_turn_line looks old c.args.new.now in
    let causes = turn_causes looks (supersteps_before old) (supersteps_of c.args.new.now) place in
    let begun = c.begin_step.new.text.items in
    let told = three_pieces {X = ℕ} {E = ℕ} (Ok 0) c.loop-place.text.items (step_words (codes "why turn") place) (turn_cause_words causes) (10 ∷ []) begun c.push_turn_causes.new.text.items c.push.new.self.items
    c.in_ok-begin_step.ensures (c.in_ok-push_turn_causes.ensures ∙ ap (λ (x : TurnCauses). begun ++ turn_cause_words x) c.in_ok-causes.ensures) c.in_ok-push.ensures.items in
    pieces_grow line c.args.text.now.items _ _ places index place within (get_or_default places index none _ within) c.loop-place.invariant told
