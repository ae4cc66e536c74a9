use Rattle.std.proofs.Common.{All, List, subst}
use Rattle.std.specs.Bool.{OnTrue}
use Rattle.bsp_step.specs.OutcomeParts.{OutcomeParts}
use Rattle.bsp_step.specs.ListKind.{IsWithout}
use Rattle.bsp_step.specs.declared.lists.Lists.{Lists}
use Rattle.bsp_step.specs.Inside.Outcomes.{IsWithoutColumn}
use Rattle.bsp_step.proofs.OutcomeColumns.{without}
use Rattle.bsp_step.proofs.outcome_rows.OutcomeRows.is_without.Goals as goal

pub returns : goal.returns
returns c =
    let r = c.self.inside in
    let none : OnTrue c.is_without.result (IsWithoutColumn c.args.kind r.lists.value) =
    subst (λ (lists : Lists). OnTrue c.is_without.result (IsWithoutColumn c.args.kind lists)) c.deref-lists.ensures c.is_without.ensures in
    subst (λ (os : List OutcomeParts). OnTrue c.is_without.result (All (IsWithout c.args.kind) os)) c.self.view_is
    (without c.args.kind r.ends.items r.memories r.lists.value c.is_without.result none)
