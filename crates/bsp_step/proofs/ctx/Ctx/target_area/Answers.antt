use Rattle.std.proofs.Common.{◌≡◌, ◌<◌, Some, ◌∙◌, ap, sym, arith}
use Rattle.bsp_step.specs.ViewParts.{ViewParts}
use Rattle.bsp_step.specs.Context.{Context}
use Rattle.bsp_step.proofs.Finding.{has_target, area_inside}
use Rattle.bsp_step.proofs.ctx.Ctx.target_area.Goals as goal

pub area-requires : goal.area-requires
area-requires c =
    let v = c.view.inside in
    let count : v.nprocs ≡ c.args.self.now.view.nprocs = ap (λ (w : ViewParts). w.nprocs) c.view.view_is ∙ ap (λ (x : Context). x.view.nprocs) c.self.view_is in
    let below : c.args.pid < v.nprocs = omega (arith, c.requires) in
    has_target v.table.now v.nprocs v.pid c.args.area c.in_ok-slot.slot c.args.pid c.view.invariant.table.full_slots (sym c.find.ensures ∙ c.in_ok-slot.was) below

pub returns-clause-inside : goal.returns-clause-inside
returns-clause-inside c = area_inside c.view.inside.table.now (Some c.in_ok-slot.slot) c.args.pid c.area.result c.view.invariant.table.inside c.area.ensures
