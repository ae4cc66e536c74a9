use Rattle.std.proofs.Common.{◌==◌, [], refl, length, sym, arith}
use Rattle.bsp_table.proofs.NextTables.{alike_where_none, are_alike_all}
use Rattle.bsp_table.proofs.next.is_same_count.Goals as goal

pub returns-then-has_no_pushes : goal.returns-then-has_no_pushes
returns-then-has_no_pushes g c =
    alike_where_none (λ p q. length p == length q) (g.R.Registers.pushes c.args.all.now) c.has_no_pushes.result refl c.if-has_no_pushes.true c.has_no_pushes.ensures

pub returns : goal.returns
returns g c = sym (are_alike_all (λ p q. length p == length q) (g.R.Registers.pushes c.args.all.now) [] (λ k l some. c.loop-pid.invariant k (omega arith) some))
