use Rattle.std.proofs.Common.{◌≡◌, ◌∙◌, ◌++◌, cond, false, length, map, replicate, true, ap, sym, List, ℕ, Bool}
use Rattle.std.specs.List.{flat_map}
use Rattle.bsp_run.specs.Result.{result_of}
use Rattle.bsp_incr.specs.declared.reply.Place.{Place}
use Rattle.bsp_incr.specs.Named.{with_members, word_pids}
use Rattle.bsp_incr.proofs.Members.{with_members-append}
use Rattle.bsp_engine.proofs.changed_run.compared_processes.Goals as goal

pub returns : goal.returns
returns c =
    let count = length (result_of c.args.old.now).memories in
    let none : List Bool = replicate count false in
    let edits = flat_map word_pids c.args.batch.now in
    let pids : List Place → List ℕ = map (λ (q : Place). q.pid) in
    let u = c.args.update.now in
    let empty : c.none-touched.result ≡ none = c.none-touched.ensures ∙ ap (λ n. replicate n false) c.requires.count in
    let each : c.add_place_processes-2.new.processes ≡ with_members (with_members (with_members none edits) (pids u.executed)) (pids u.redelivered) = cc in
    let all : c.add_place_processes-2.new.processes ≡ with_members none (edits ++ pids u.executed ++ pids u.redelivered) =
    each ∙ sym (ap (λ s. with_members s (pids u.redelivered)) (with_members-append none edits (pids u.executed))) ∙ sym (with_members-append none (edits ++ pids u.executed) (pids u.redelivered)) in
    all ∙ sym (ap (λ b. cond b (with_members none (edits ++ pids u.executed ++ pids u.redelivered)) (replicate count true)) (sym c.end_alike.ensures ∙ c.if-not-end_alike.false))
