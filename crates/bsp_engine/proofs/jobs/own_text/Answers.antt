use Rattle.std.proofs.Common.{◌≡◌, List, ℕ, ap, sym, subst, string_bytes}
use Rattle.std.proofs.lemmas.Str.{IsUtf8-string_bytes}
use Rattle.toml.specs.Data.{Members}
use Rattle.toml.specs.View.{table_view}
use Rattle.bsp_engine.specs.Document.{IsPrinted}
use Rattle.bsp_engine.proofs.OwnKeys.{has_dates}
use Rattle.bsp_engine.proofs.jobs.own_text.Goals as goal

pub returns-in-Ok : goal.returns-in-Ok
returns-in-Ok c =
    let own = table_view c.take_common_out.new.table in
    let items : c.into_bytes.result.items ≡ string_bytes c.in-Ok.text = ap (λ v. v.items) c.into_bytes.ensures.value in
    subst (λ (ms : Members). IsPrinted ms c.into_bytes.result.items) c.take_common_out.ensures (subst (λ (bytes : List ℕ). IsPrinted own bytes) (sym items) (record {
      is = c.in-Ok.ensures.text;
      utf8 = IsUtf8-string_bytes c.in-Ok.text;
      dates = has_dates c.in-Ok.text own c.in-Ok.ensures.dates;
      reads_back = c.in-Ok.ensures.reads_back;
    }))
