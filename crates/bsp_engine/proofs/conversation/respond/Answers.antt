use Rattle.std.proofs.Common.{◌∷◌, ◌++◌, [], ℕ, List, ap, codes, refl, sym, ◌∙◌}
use Rattle.bsp_model.specs.declared.input.Input.{Input}
use Rattle.bsp_run.specs.Run.{Run}
use Rattle.bsp_text.specs.Lines.{line}
use Rattle.bsp_engine.specs.declared.asked.Asked.{Asked}
use Rattle.bsp_engine.specs.Inside.LiveReplies.{live_replying}
use Rattle.bsp_engine.specs.Live.{after, answer_lines, answer_to, asked_text, last_result}
use Rattle.bsp_engine.proofs.Beginning.{attendant_next, attendant_tells}
use Rattle.bsp_engine.proofs.Handing.{told, told_both}
use Rattle.bsp_engine.proofs.conversation.respond.Goals as goal

pub returns-then-asks_for_text : goal.returns-then-asks_for_text
returns-then-asks_for_text g c =
    told c.put_asked_text.result _ _
    (λ put. attendant_tells g.P.Program.acts g.P.Program.ending g.P.Program.looks c.args.attendant.now (record c.args.attendant.now { text = c.put_asked_text.new.text }) c.args.line.now _ (sym c.asks_for_text.ensures ∙ c.if-asks_for_text.true)
    (put ∙ (ap (λ (own : List ℕ). asked_text own c.input-input.result.now c.history-history.result.now c.args.line.now) c.as_slice-own.ensures.value
    ∙ (ap (λ (i : Input). asked_text c.args.attendant.now.own.items i c.history-history.result.now c.args.line.now) c.input-input.ensures
    ∙ ap (λ (r : Run). asked_text c.args.attendant.now.own.items c.args.attendant.now.live.input r c.args.line.now) c.history-history.ensures))) refl refl refl)
    c.put_asked_text.ensures

pub returns : goal.returns
returns g c =
    let acts = g.P.Program.acts in
    let ending = g.P.Program.ending in
    let looks = g.P.Program.looks in
    let before = c.args.attendant.now in
    let live = before.live in
    let number = c.in-Some.number in
    let head = line (codes "run") (number ∷ []) in
    let lines = λ (asked : Asked). answer_lines live.detail.places (last_result acts ending live) (answer_to (live_replying acts ending looks) live asked) in
    told_both c.push_answer.result _ _ _
    (λ done text. attendant_next acts ending looks before (record before { live = c.push_answer.new.live; last = number; text = c.push_answer.new.text }) c.args.line.now c.push_answer.new.text.items number (sym c.asks_for_text.ensures ∙ c.if-asks_for_text.false) c.in-Some.ensures.1
    refl refl (text ∙ ap (λ t. t ++ lines c.in_ok-asked.asked) (c.in_ok-push_line.ensures ∙ ap (λ t. t ++ head) c.clear.ensures.items) ∙ ap (λ (a : Asked). head ++ lines a) c.in_ok-asked.ensures)
    (done ∙ ap (λ (a : Asked). after live a) c.in_ok-asked.ensures))
    c.push_answer.ensures.after c.push_answer.ensures.text
