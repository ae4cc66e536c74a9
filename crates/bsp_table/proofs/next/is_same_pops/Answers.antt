use Rattle.std.proofs.Common.{[], refl, nat_eq, sym, arith}
use Rattle.std.specs.Cmp.Lexicographic.{pointwise}
use Rattle.bsp_table.proofs.NextTables.{alike_where_none, are_alike_all}
use Rattle.bsp_table.proofs.next.is_same_pops.Goals as goal

pub returns-then-has_no_pops : goal.returns-then-has_no_pops
returns-then-has_no_pops g c =
    alike_where_none (pointwise nat_eq) (g.R.Registers.pops c.args.all.now) c.has_no_pops.result refl c.if-has_no_pops.true c.has_no_pops.ensures

pub returns : goal.returns
returns g c = sym (are_alike_all (pointwise nat_eq) (g.R.Registers.pops c.args.all.now) [] (λ k l some. c.loop-pid.invariant k (omega arith) some))
