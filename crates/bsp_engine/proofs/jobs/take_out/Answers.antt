use Rattle.std.proofs.Common.{◌∙◌, ap, sym, string_bytes, nat_cmp}
use Rattle.std.specs.BTreeMap.{is_at}
use Rattle.std.specs.Map.{lookup}
use Rattle.std.specs.Cmp.Lexicographic.{slice_cmp}
use Rattle.toml.specs.View.{members_view}
use Rattle.bsp_engine.proofs.OwnKeys.{removed}
use Rattle.bsp_engine.proofs.jobs.take_out.Goals as goal

pub returns : goal.returns
returns c =
    let entries = c.remove.ensures.entries in
    ap members_view entries
    ∙ removed c.args.key.now c.args.table.now.entries (ap (lookup (is_at (λ x. slice_cmp nat_cmp c.args.key.now (string_bytes x)))) (sym entries) ∙ c.remove.ensures.updates.1)
