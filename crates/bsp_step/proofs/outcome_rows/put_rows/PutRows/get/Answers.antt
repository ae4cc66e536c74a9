use Rattle.std.proofs.Common.{◌<◌, List, [], length, get_or, sym, ap, ◌∙◌, arith}
use Rattle.std.proofs.lemmas.List.FromFn.{length-map-range_with_len, get_or-map-range_with_len}
use Rattle.bsp_model.specs.Columns.{row_at}
use Rattle.bsp_model.specs.declared.request.Put.{Put}
use Rattle.bsp_step.specs.declared.lists.Lists.{Lists}
use Rattle.bsp_step.proofs.outcome_rows.put_rows.PutRows.get.Goals as goal

pub returns : goal.returns
returns c =
    let r = c.self.inside in
    let n = length r.ends.items in
    let inside : c.args.pid < n = omega (arith, c.requires, ap length c.self.view_is, length-map-range_with_len (row_at r.lists.value.puts) 0 n) in
    c.get.ensures
    ∙ ap (λ (l : Lists). row_at l.puts c.args.pid) c.deref-lists.ensures
    ∙ sym (get_or-map-range_with_len (row_at r.lists.value.puts) 0 n c.args.pid c.args.pid [] inside (omega arith))
    ∙ ap (λ (rows : List (List Put)). get_or rows c.args.pid []) c.self.view_is
