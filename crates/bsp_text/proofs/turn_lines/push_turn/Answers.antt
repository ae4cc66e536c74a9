use Rattle.std.proofs.Common.{◌≡◌, ◌<◌, ◌≤◌, ◌∷◌, ◌++◌, [], ℕ, List, OnOk, codes, length, get_or, ap, ◌∙◌, arith, subst}
use Rattle.std.proofs.lemmas.List.{get_or_default, take_all}
use Rattle.std.specs.List.{flat_map}
use Rattle.bsp_model.specs.StoredRanges.{ranges_stored}
use Rattle.bsp_model.specs.Stores.{words_stored}
use Rattle.bsp_step.specs.OutcomeParts.{OutcomeParts}
use Rattle.bsp_step.specs.OutcomeRefInside.{outcome_parts}
use Rattle.bsp_text.specs.Lines.{line}
use Rattle.bsp_text.specs.TurnLines.{ended_line, printed_line, request_lines, store_lines}
use Rattle.bsp_text.proofs.Numbering.{block_told, pieces_grow}
use Rattle.bsp_text.proofs.turn_lines.push_turn.Goals as goal

pub loop-place-preserved : goal.loop-place-preserved
loop-place-preserved c =
    let same = ap (λ (o : OutcomeParts). o.lines) c.turn.view_is in
    let lines = (outcome_parts c.turn.inside).lines in
    let place = c.loop-place.place in
    let text = c.loop-place.text.items in
    let within : place < length lines = omega arith in
    rw (← same) (pieces_grow printed_line _ _ _ lines place (get_or lines place []) within (get_or_default lines place [] _ within) (rw (← same) at c.loop-place.invariant)
    (c.in_ok-push_line-2.ensures ∙ ap (λ (words : List ℕ). text ++ printed_line words) c.row.ensures))

pub returns : goal.returns
returns c =
    let o = outcome_parts c.turn.inside in
    let same = ap (λ (p : OutcomeParts). p.lines) c.turn.view_is in
    let begun = line (codes "turn") (c.args.step ∷ c.args.pid ∷ []) in
    let requests = request_lines c.args.turn.now in
    let all : length o.lines ≤ c.loop-place.place = omega arith in
    let printed = (rw (← same) at c.loop-place.invariant) ∙ ap (λ ls. c.push_requests.new.text.items ++ flat_map printed_line ls) (take_all c.loop-place.place o.lines all) in
    subst (λ (p : OutcomeParts). OnOk c.extend_from_slice.result (c.extend_from_slice.new.self.items ≡ c.args.text.now.items ++ (begun ++ (ended_line p.fault p.ended
    ++ store_lines (ranges_stored p.stores) (words_stored p.stores) ++ requests ++ flat_map printed_line p.lines ++ line (codes "work") (p.work ∷ [])) ++ codes "end\n"))) c.turn.view_is
    (block_told c.extend_from_slice.result c.args.text.now.items c.push_line.new.text.items c.push_ended.new.text.items c.push_stores.new.text.items c.push_requests.new.text.items c.loop-place.text.items
    c.push_line-2.new.text.items c.extend_from_slice.new.self.items _ begun (ended_line o.fault o.ended) (store_lines (ranges_stored o.stores) (words_stored o.stores)) requests
    (flat_map printed_line o.lines) (line (codes "work") (o.work ∷ [])) (codes "end\n")
    c.in_ok-push_line.ensures c.in_ok-push_ended.ensures c.in_ok-push_stores.ensures c.in_ok-push_requests.ensures printed c.in_ok-push_line-3.ensures c.extend_from_slice.ensures.items)
