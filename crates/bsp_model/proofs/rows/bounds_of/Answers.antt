use Rattle.std.proofs.Common.{arith}
use Rattle.bsp_model.proofs.RowsBetween.{start_at-below, start_at-within}
use Rattle.bsp_model.proofs.rows.bounds_of.Goals as goal

pub returns-clause-order : goal.returns-clause-order
returns-clause-order c = omega (arith, start_at-below c.args.ends.now c.args.count c.args.from c.args.to c.requires.ends c.requires.order c.requires.rows)

pub returns-clause-inside : goal.returns-clause-inside
returns-clause-inside c = omega (arith, start_at-within c.args.ends.now c.args.count c.args.to c.requires.ends c.requires.rows)
