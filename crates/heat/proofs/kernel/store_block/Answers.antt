use Rattle.std.proofs.Common.{◌≡◌, ◌+◌, ◌-◌, ◌++◌, ◌∷◌, [], List, ℕ, take, drop, sym, ap, subst, ◌∙◌, arith}
use Rattle.std.specs.Prelude.{Option, IfSome}
use Rattle.std.proofs.lemmas.Option.{get_or_from_slice_get}
use Rattle.std.proofs.lemmas.Result.{err_from_is_err_and}
use Rattle.bsp_step.specs.Blocks.{stores, stored, with_stored}
use Rattle.bsp_step.specs.Calls.{RunStops}
use Rattle.bsp_step.specs.Context.{Context}
use Rattle.bsp_step.specs.Perform.{perform_all}
use Rattle.bsp_step.proofs.Running.{PerformsAll-stops}
use Rattle.heat.specs.Heat.{next_cells}
use Rattle.heat.proofs.CellBlocks.{cells_between}
use Rattle.heat.proofs.kernel.store_block.Goals as goal

pub returns-in_err-change_words-clause-acted : goal.returns-in_err-change_words-clause-acted
returns-in_err-change_words-clause-acted c =
    let now = c.args.ctx.now in
    let block = next_cells (c.args.before ∷ take c.args.count (drop c.args.start now.memory) ++ c.unwrap-after.result ∷ []) in
    let p = err_from_is_err_and c.from_residual.result c.from_residual.ensures.1 in
    let after = sym (get_or_from_slice_get now.memory (c.args.start + c.args.count) _ 0 (sym c.load-2.ensures.value ∙ c.unwrap-after.ensures)) in
    rw (p.1, p.2)
    (subst (λ (cells : List ℕ). RunStops now (stores c.args.start cells) c.change_words.new.self c.in_err-change_words.field-0.0)
    (cells_between now.memory c.args.start c.args.count c.args.before c.unwrap-after.result c.requires.within after)
    (PerformsAll-stops (Option (Unit {0})) now (stores c.args.start block) c.change_words.new.self c.in_err-change_words.field-0.0 (c.in_err-change_words.ensures.acted (omega (arith, c.requires.within)))))

pub returns-clause-acted : goal.returns-clause-acted
returns-clause-acted c =
    let now = c.args.ctx.now in
    let last = sym (get_or_from_slice_get now.memory (c.args.start + c.args.count - 1) _ 0 (sym c.load.ensures.value ∙ c.unwrap-last.ensures)) in
    let after = sym (get_or_from_slice_get now.memory (c.args.start + c.args.count) _ 0 (sym c.load-2.ensures.value ∙ c.unwrap-after.ensures)) in
    let acted = c.in_ok-change_words.ensures.acted (omega (arith, c.requires.within)) in
    (acted.0 ∙ ap (λ cells. perform_all now (stores c.args.start cells)) (cells_between now.memory c.args.start c.args.count c.args.before c.unwrap-after.result c.requires.within after), last)

pub returns-clause-memory : goal.returns-clause-memory
returns-clause-memory c =
    let now = c.args.ctx.now in
    let after = sym (get_or_from_slice_get now.memory (c.args.start + c.args.count) _ 0 (sym c.load-2.ensures.value ∙ c.unwrap-after.ensures)) in
    let block = next_cells (c.args.before ∷ take c.args.count (drop c.args.start now.memory) ++ c.unwrap-after.result ∷ []) in
    let made = subst (λ (found : Option (Unit {0})). IfSome found (λ _. c.change_words.new.self ≡ with_stored now c.args.start block)) c.unwrap.ensures c.in_ok-change_words.ensures.stored in
    ap (λ (d : Context). d.memory) made
    ∙ ap (stored now.memory c.args.start) (cells_between now.memory c.args.start c.args.count c.args.before c.unwrap-after.result c.requires.within after)
