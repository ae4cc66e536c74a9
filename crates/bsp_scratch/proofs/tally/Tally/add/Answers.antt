use Rattle.std.proofs.Common.{◌≤◌, All, sym, subst}
use Rattle.std.proofs.lemmas.List.Elements.{All-push}
use Rattle.bsp_model.specs.Limits.{most_cost}
use Rattle.bsp_model.specs.declared.cost.CostRow.{CostRow}
use Rattle.std.proofs.lemmas.Bool.{OnTrue_at}
use Rattle.bsp_scratch.proofs.PrintedLines.{none_more, one_more}
use Rattle.bsp_scratch.proofs.tally.Tally.add.Goals as goal

pub returns-then-is_without-clause-lines : goal.returns-then-is_without-clause-lines
returns-then-is_without-clause-lines c = none_more c.args.self.now.lines.items c.args.outcomes.now (OnTrue_at c.if-is_without.true c.is_without.ensures)

pub returns-clause-lines : goal.returns-clause-lines
returns-clause-lines c = one_more c.args.self.now.lines.items _ c.in_ok-superstep.superstep c.args.outcomes.now c.in_ok-push-2.ensures.items c.in_ok-superstep.ensures

pub invariant_of-self-2 : goal.invariant_of-self-2
invariant_of-self-2 c =
    let small = λ (row : CostRow). row.cost ≤ most_cost in
    record { small = subst (All small) (sym c.in_ok-push.ensures.ok) (All-push small c.args.self.now.costs c.args.row c.args.self.now.small c.requires) }
