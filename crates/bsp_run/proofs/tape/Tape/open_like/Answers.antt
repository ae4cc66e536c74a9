use Rattle.std.proofs.Common.{◌≡◌, ◌<◌, ◌∙◌, ℕ, [], List, All, ap, map, subst, sym, length}
use Rattle.std.proofs.lemmas.List.{length-map}
use Rattle.bsp_model.specs.Replaced.{replaced}
use Rattle.bsp_model.specs.declared.request.Message.{Message}
use Rattle.bsp_model.proofs.Inputs.{lawful_input}
use Rattle.bsp_model.proofs.Replaced.{length-replaced}
use Rattle.bsp_run.specs.State.{cell_of, first_cell, no_messages}
use Rattle.bsp_run.proofs.Opens.{opens_first, views_first}
use Rattle.bsp_run.proofs.tape.Tape.open_like.Goals as goal

pub replaced-requires-clause-known : goal.replaced-requires-clause-known
replaced-requires-clause-known c =
    let input = c.args.input.now in
    let ps = c.args.processes.items in
    let many : length c.args.like.now ≡ length input.mems =
    sym (length-map c.args.like.now cell_of) ∙ sym (length-replaced (map cell_of c.args.like.now) ps (map (first_cell input.mems) ps)) ∙ ap (λ (cs : List (List ℕ × List Message)). length cs) c.requires.like
    ∙ length-map input.mems (λ m. (m, no_messages m)) in
    subst (λ n. All (λ p. p < n) ps) (sym many) c.requires.known

pub replaced-requires-clause-count : goal.replaced-requires-clause-count
replaced-requires-clause-count c = ap (λ (cs : List (List ℕ × List Message)). length cs) (c.in_ok-add_first_cells.ensures ∙ ap (map (first_cell c.as_slice-mems.result.now)) c.as_slice-marked.ensures.value) ∙ length-map c.args.processes.items (first_cell c.as_slice-mems.result.now)

pub replaced-requires-clause-opens : goal.replaced-requires-clause-opens
replaced-requires-clause-opens c =
    let input = c.args.input.now in
    let ps = c.args.processes.items in
    let cells = c.in_ok-add_first_cells.ensures ∙ ap (map (first_cell c.as_slice-mems.result.now)) c.as_slice-marked.ensures.value ∙ ap (λ (ms : List (List ℕ)). map (first_cell ms) ps) c.as_slice-mems.ensures in
    let setting = c.in_ok-setting.ensures ∙ (λ i. record { step = 0; args = c.requires.args i; table = []; tag_size = 0 }) in
    opens_first input c.in_ok-setting.setting (replaced (map cell_of c.args.like.now) ps c.add_first_cells.new.cells) (lawful_input input c.requires.lawful) setting
    (ap (replaced (map cell_of c.args.like.now) ps) cells ∙ c.requires.like)

pub open_with-requires-clause-views : goal.open_with-requires-clause-views
open_with-requires-clause-views c =
    let input = c.args.input.now in
    let ps = c.args.processes.items in
    let cells = c.in_ok-add_first_cells.ensures ∙ ap (map (first_cell c.as_slice-mems.result.now)) c.as_slice-marked.ensures.value ∙ ap (λ (ms : List (List ℕ)). map (first_cell ms) ps) c.as_slice-mems.ensures in
    let setting = c.in_ok-setting.ensures ∙ (λ i. record { step = 0; args = c.requires.args i; table = []; tag_size = 0 }) in
    c.in_ok-views.ensures ∙ views_first input c.in_ok-setting.setting (replaced (map cell_of c.args.like.now) ps c.add_first_cells.new.cells) setting
    (ap (replaced (map cell_of c.args.like.now) ps) cells ∙ c.requires.like)
