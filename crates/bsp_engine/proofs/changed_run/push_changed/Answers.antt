use Rattle.std.proofs.Common.{◌∙◌, ◌++◌, ℕ, Bool, List, ap, sym, subst, arith}
use Rattle.bsp_run.specs.declared.result.Status.{Status}
use Rattle.bsp_run.specs.Result.{lines_of, memories_of, result_of}
use Rattle.bsp_engine.specs.Text.{status_lines}
use Rattle.bsp_engine.specs.Inside.Touched.{AreSameOutside, compared_processes}
use Rattle.bsp_engine.proofs.Endings.{parts}
use Rattle.bsp_engine.proofs.Compared.{compared_are_enough, few_compared}
use Rattle.bsp_engine.proofs.Telling.{changes_told}
use Rattle.bsp_engine.proofs.changed_run.push_changed.Goals as goal

pub compared_processes-compared-requires-clause-few : goal.compared_processes-compared-requires-clause-few
compared_processes-compared-requires-clause-few c =
    omega (arith, c.requires.count, few_compared c.args.old.now c.args.batch.now c.args.update.now c.args.new.now c.requires.update)

pub push_changed_memories-requires : goal.push_changed_memories-requires
push_changed_memories-requires c =
    let old = c.args.old.now in
    let new = c.args.new.now in
    let set = compared_processes (result_of old) (result_of new) c.args.batch.now c.args.update.now in
    let enough = compared_are_enough old c.args.batch.now c.args.update.now new c.requires.update in
    subst (λ (compared : List Bool). AreSameOutside compared (memories_of old) (memories_of new)) (sym c.compared_processes-compared.ensures)
    (subst (λ (olds : List (List ℕ)). AreSameOutside set olds (memories_of new)) (parts old).memories
    (subst (λ (news : List (List ℕ)). AreSameOutside set (result_of old).memories news) (parts new).memories enough.memories))

pub push_changed_lines-requires : goal.push_changed_lines-requires
push_changed_lines-requires c =
    let old = c.args.old.now in
    let new = c.args.new.now in
    let set = compared_processes (result_of old) (result_of new) c.args.batch.now c.args.update.now in
    let enough = compared_are_enough old c.args.batch.now c.args.update.now new c.requires.update in
    subst (λ (compared : List Bool). AreSameOutside compared (lines_of old) (lines_of new)) (sym c.compared_processes-compared.ensures)
    (subst (λ (olds : List (List (List ℕ))). AreSameOutside set olds (lines_of new)) (parts old).lines
    (subst (λ (news : List (List (List ℕ))). AreSameOutside set (result_of old).lines news) (parts new).lines enough.lines))

pub returns : goal.returns
returns c =
    changes_told c.push_cost_changes.result c.args.old.now c.args.new.now _ _ _ c.args.text.now.items _ _ _ _ c.costs.ensures c.costs-2.ensures c.total.ensures
    (c.in_ok-push_status.ensures ∙ ap (λ (s : Status). c.args.text.now.items ++ status_lines s) c.status.ensures)
    c.in_ok-push_changed_memories.ensures c.in_ok-push_changed_lines.ensures c.push_cost_changes.ensures
