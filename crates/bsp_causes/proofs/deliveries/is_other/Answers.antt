use Rattle.std.proofs.Common.{◌==◌, All, filter, not, arith, sym, ap, ◌∙◌, subst}
use Rattle.std.specs.Cmp.Lexicographic.{pointwise}
use Rattle.bsp_step.specs.OutcomeParts.{OutcomeParts, outcome_of}
use Rattle.bsp_deliver.specs.Readable.{IsReadable}
use Rattle.bsp_deliver.proofs.SameDelivery.{Decides-pointwise}
use Rattle.bsp_deliver.proofs.SameParts.{readable_of}
use Rattle.bsp_causes.specs.declared.deliveries.Part.{Part}
use Rattle.bsp_causes.specs.Same.{same_put, same_send}
use Rattle.bsp_causes.specs.Inside.Parts.{is_other}
use Rattle.bsp_causes.proofs.Sameness.{Decides-put, Decides-send, test_along}
use Rattle.bsp_causes.proofs.deliveries.is_other.Goals as goal

pub reads_others-requires-clause-old : goal.reads_others-requires-clause-old
reads_others-requires-clause-old c =
    let h = c.requires.compared in
    subst (All (IsReadable c.args.old.now)) (c.requires.gets c.in-Read.is ∙ sym c.gets.ensures) (readable_of c.args.old.now c.args.d h.old_deliverable (omega (arith, h.as_many, h.known)))

pub reads_others-requires-clause-new : goal.reads_others-requires-clause-new
reads_others-requires-clause-new c =
    let h = c.requires.compared in
    subst (All (IsReadable c.args.new.now)) (sym c.gets.ensures) (readable_of c.args.new.now c.args.d h.new_deliverable h.known)

pub returns-in-Puts : goal.returns-in-Puts
returns-in-Puts c =
    let old = c.args.old.now in
    let new = c.args.new.now in
    let d = c.args.d in
    let q = c.args.q in
    let xs = filter (λ p. p.target == d) (outcome_of old q).puts in
    let ys = filter (λ p. p.target == d) (outcome_of new q).puts in
    ap not
    (test_along c.are_same_puts.result (pointwise same_put xs ys) (ap (λ (o : OutcomeParts). filter (λ p. p.target == d) o.puts) c.get.ensures) (ap (λ (o : OutcomeParts). filter (λ p. p.target == d) o.puts) c.get-in-Puts.ensures)
    c.are_same_puts.ensures (Decides-pointwise Decides-put xs ys))
    ∙ sym (ap (λ (part : Part). is_other part old new d q) c.in-Puts.is)

pub returns-in-Sends : goal.returns-in-Sends
returns-in-Sends c =
    let old = c.args.old.now in
    let new = c.args.new.now in
    let d = c.args.d in
    let q = c.args.q in
    let xs = filter (λ m. m.target == d) (outcome_of old q).sends in
    let ys = filter (λ m. m.target == d) (outcome_of new q).sends in
    ap not
    (test_along c.are_same_sends.result (pointwise same_send xs ys) (ap (λ (o : OutcomeParts). filter (λ m. m.target == d) o.sends) c.get-in-Sends.ensures) (ap (λ (o : OutcomeParts). filter (λ m. m.target == d) o.sends) c.get-in-Sends-2.ensures)
    c.are_same_sends.ensures (Decides-pointwise Decides-send xs ys))
    ∙ sym (ap (λ (part : Part). is_other part old new d q) c.in-Sends.is)
