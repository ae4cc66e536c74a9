use Rattle.std.proofs.Common.{◌∙◌, ◌||◌, get_or, sym}
use Rattle.std.proofs.lemmas.List.Folds.{list_any_at, list_any_more}
use Rattle.bsp_causes.specs.Inside.Travel.{reads_other}
use Rattle.bsp_causes.proofs.Travelling.{no_get}
use Rattle.bsp_causes.proofs.travel.any_reads_other.Goals as goal

pub returns-then-reads_other : goal.returns-then-reads_other
returns-then-reads_other c =
    sym (list_any_at (reads_other c.args.before.now c.args.after.now) c.args.gets.now c.loop-get.get-index no_get c.loop-get-test.true (sym c.reads_other.ensures ∙ c.if-reads_other.true))

pub loop-get-preserved : goal.loop-get-preserved
loop-get-preserved c =
    let fails = sym c.reads_other.ensures ∙ c.if-reads_other.false in
    list_any_more (reads_other c.args.before.now c.args.after.now) c.args.gets.now c.loop-get.get-index no_get c.loop-get-test.true ∙ (λ j. c.loop-get.invariant j || fails j)
