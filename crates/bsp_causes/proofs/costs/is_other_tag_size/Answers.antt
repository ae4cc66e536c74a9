use Rattle.std.proofs.Common.{◌==◌, not, ap}
use Rattle.bsp_step.specs.ViewParts.{ViewParts}
use Rattle.bsp_causes.proofs.costs.is_other_tag_size.Goals as goal

pub returns : goal.returns
returns c =
    let old = ap (λ (x : ViewParts). x.tag_size) c.old.view_is in
    let new = ap (λ (x : ViewParts). x.tag_size) c.new.view_is in
    λ i. not (old i == new i)
