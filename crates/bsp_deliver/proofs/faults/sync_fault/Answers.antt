use Rattle.std.proofs.Common.{sym, ◌∙◌, ap, get_or, arith}
use Rattle.std.proofs.lemmas.List.{length-map}
use Rattle.std.proofs.lemmas.List.Elements.{All-map}
use Rattle.bsp_table.specs.NextTable.{AreSlots}
use Rattle.bsp_step.specs.OutcomeParts.{OutcomeParts}
use Rattle.bsp_deliver.proofs.Senders.{outcome_at}
use Rattle.bsp_deliver.proofs.EndTests.{none_halts, tag_mismatch, fault_of_table}
use Rattle.bsp_deliver.proofs.faults.sync_fault.Goals as goal

pub returns-then-not-is_same_tag_choice : goal.returns-then-not-is_same_tag_choice
returns-then-not-is_same_tag_choice c =
    let os = c.args.outcomes.now in
    let alike = sym c.is_mixed.ensures ∙ c.if-is_mixed.false in
    let syncs = sym (c.all_sync.ensures alike) ∙ c.if-not-all_sync.false in
    tag_mismatch os c.args.table.now c.get.result c.requires.some (c.get.ensures ∙ outcome_at os 0 c.requires.some ∙ ap (get_or os 0) (sym c.get.ensures))
    syncs (none_halts os alike syncs) (sym c.is_same_tag_choice.ensures ∙ c.if-not-is_same_tag_choice.true)

pub returns : goal.returns
returns c =
    let os = c.args.outcomes.now in
    let alike = sym c.is_mixed.ensures ∙ c.if-is_mixed.false in
    let syncs = sym (c.all_sync.ensures alike) ∙ c.if-not-all_sync.false in
    c.fault.ensures
    ∙ fault_of_table os c.args.table.now c.get.result c.requires.some (c.get.ensures ∙ outcome_at os 0 c.requires.some ∙ ap (get_or os 0) (sym c.get.ensures))
    syncs (none_halts os alike syncs) (sym c.is_same_tag_choice.ensures ∙ c.if-not-is_same_tag_choice.false)

pub fault-requires-clause-some : goal.fault-requires-clause-some
fault-requires-clause-some c = omega (arith, length-map c.args.outcomes.now (λ (o : OutcomeParts). o.pops), c.requires.some)

pub fault-requires-clause-slots : goal.fault-requires-clause-slots
fault-requires-clause-slots c = All-map (AreSlots c.args.table.now) (λ (o : OutcomeParts). o.pops) c.args.outcomes.now c.requires.slots
