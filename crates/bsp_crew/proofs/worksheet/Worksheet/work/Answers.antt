use Rattle.std.proofs.Common.{List, ℕ, subst, sym}
use Rattle.bsp_crew.specs.Parts.{IsPart}
use Rattle.bsp_crew.proofs.PartLists.{part_within}
use Rattle.bsp_crew.proofs.worksheet.Worksheet.work.Goals as goal

pub work-requires-clause-part : goal.work-requires-clause-part
work-requires-clause-part g c κs within =
    let own = c.args.self.now in
    let turn = g.J.SharedRun.turn in
    let views = g.J.SharedRun.views in
    part_within turn views c.unit-part.result _ c.in-Some.task c.unit-part.ensures
    (subst (λ (ps : List ℕ). IsPart turn (views own.step) ps c.in-Some.task) (sym c.as_slice.ensures.value) (own.is_part c.in-Some.task c.in-Some.is))
