use Rattle.std.proofs.Common.{◌∙◌, ap, sym, subst}
use Rattle.bsp_step.specs.ViewParts.{ViewParts}
use Rattle.bsp_run.specs.declared.setting.Setting.{Setting}
use Rattle.bsp_run.specs.Run.{open_views, after_delivery}
use Rattle.bsp_incr.specs.Inside.Known.{IsKnown}
use Rattle.bsp_incr.specs.declared.compare.known_table.KnownTable.TheVariants.{AsBefore}
use Rattle.bsp_incr.proofs.KnownTables.{table_of_known, tag_of_known, known_of_next}
use Rattle.bsp_incr.proofs.superstep.ending.next_setting.Goals as goal

pub next_setting_like-requires-clause-table : goal.next_setting_like-requires-clause-table
next_setting_like-requires-clause-table c =
    let r = c.args.tape.now in
    let views = c.args.old_next.now in
    let known : IsKnown AsBefore views (open_views (after_delivery r)) = subst (λ k. IsKnown k views (open_views (after_delivery r))) c.in-AsBefore.is c.requires.known in
    ap (λ (v : ViewParts). v.table) c.get-first.ensures ∙ table_of_known r views c.requires.some (known c.requires.processes)

pub next_setting_like-requires-clause-tag_size : goal.next_setting_like-requires-clause-tag_size
next_setting_like-requires-clause-tag_size c =
    let r = c.args.tape.now in
    let views = c.args.old_next.now in
    let known : IsKnown AsBefore views (open_views (after_delivery r)) = subst (λ k. IsKnown k views (open_views (after_delivery r))) c.in-AsBefore.is c.requires.known in
    ap (λ (v : ViewParts). v.tag_size) c.get-first.ensures ∙ tag_of_known r views c.requires.some (known c.requires.processes)

pub returns-clause-known : goal.returns-clause-known
returns-clause-known c = λ _.
    let r = c.args.tape.now in
    let first = c.get-first.ensures in
    let next = c.in_ok-setting.ensures in
    let same = c.has_table.ensures.0 c.if-not-has_table.false in
    known_of_next r c.args.old_next.now c.requires.some c.requires.processes
    (sym (ap (λ (v : ViewParts). v.table) first) ∙ same.0 ∙ ap (λ (s : Setting). s.table) next)
    (sym (ap (λ (v : ViewParts). v.tag_size) first) ∙ same.1 ∙ ap (λ (s : Setting). s.tag_size) next)
