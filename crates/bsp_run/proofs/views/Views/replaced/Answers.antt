use Rattle.std.proofs.Common.{◌≡◌, ◌<◌, ◌∙◌, ℕ, List, All, map, ap, sym, subst, length}
use Rattle.std.proofs.lemmas.List.{length-map}
use Rattle.bsp_model.specs.declared.request.Message.{Message}
use Rattle.bsp_table.specs.declared.area.Area.{Area}
use Rattle.bsp_model.specs.Replaced.{replaced}
use Rattle.bsp_step.specs.ViewParts.{ViewParts}
use Rattle.bsp_run.specs.declared.views.Views.TheInside.{Inside}
use Rattle.bsp_run.specs.State.{cell_of, views_of}
use Rattle.bsp_run.specs.Inside.Opening.{CanOpen, state_of}
use Rattle.bsp_run.specs.Inside.Views.{seen_in}
use Rattle.bsp_run.proofs.Opens.{cells_seen}
use Rattle.bsp_run.proofs.views.Views.replaced.Goals as goal

-- the cells are what the views have of them
cells_now : (v : Inside) (now : List ViewParts) → seen_in v ≡ now → map cell_of now ≡ v.cells
cells_now v now seen = ap (λ (vs : List ViewParts). map cell_of vs) (sym seen) ∙ cells_seen v.setting.args v.setting.step v.cells v.setting.table v.setting.tag_size

pub replaced-requires-clause-known : goal.replaced-requires-clause-known
replaced-requires-clause-known c =
    let now : List ViewParts = c.args.self.now in
    let long : length now ≡ length c.self.inside.cells = sym (length-map now cell_of) ∙ ap (λ (cs : List (List ℕ × List Message)). length cs) (cells_now c.self.inside now c.self.view_is) in
    subst (λ n. All (λ p. p < n) c.args.processes.items) long c.requires.known

-- what is kept makes the state
kept : (v : Inside) (now : List ViewParts) (ps : List ℕ) (cells new : List (List ℕ × List Message)) (table : List (List Area)) (tag : ℕ) → seen_in v ≡ now → new ≡ replaced v.cells ps cells → state_of new table tag ≡ state_of (replaced (map cell_of now) ps cells) table tag
kept v now ps cells new table tag seen is =
    ap (λ (cs : List (List ℕ × List Message)). state_of cs table tag) (is ∙ ap (λ (cs : List (List ℕ × List Message)). replaced cs ps cells) (sym (cells_now v now seen)))

pub invariant_of-result : goal.invariant_of-result
invariant_of-result c =
    let state = kept c.self.inside c.args.self.now c.args.processes.items c.args.cells c.in_ok-cells.cells c.args.setting.table c.args.setting.tag_size c.self.view_is c.in_ok-cells.ensures in
    subst (CanOpen c.args.setting.args c.args.setting.step) (sym state) c.requires.opens

pub returns : goal.returns
returns c =
    let state = kept c.self.inside c.args.self.now c.args.processes.items c.args.cells c.in_ok-cells.cells c.args.setting.table c.args.setting.tag_size c.self.view_is c.in_ok-cells.ensures in
    ap (views_of c.args.setting.args c.args.setting.step) state
