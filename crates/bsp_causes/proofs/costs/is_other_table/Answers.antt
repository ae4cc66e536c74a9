use Rattle.std.proofs.Common.{◌≡◌, not, ap}
use Rattle.bsp_step.specs.ViewParts.{ViewParts}
use Rattle.bsp_table.specs.Same.{same_table}
use Rattle.bsp_incr.proofs.Comparing.{Decides-table}
use Rattle.bsp_causes.proofs.Sameness.{test_along}
use Rattle.bsp_causes.proofs.costs.is_other_table.Goals as goal

pub returns : goal.returns
returns c =
    let v = c.args.old.now in
    let w = c.args.new.now in
    let table : c.same.result ≡ same_table v.table w.table =
    test_along c.same.result (same_table v.table w.table) (ap (λ (x : ViewParts). x.table) c.old.view_is) (ap (λ (x : ViewParts). x.table) c.new.view_is) c.same.ensures (Decides-table v.table w.table) in
    ap not table
