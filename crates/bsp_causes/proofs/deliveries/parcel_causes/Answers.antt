use Rattle.std.proofs.Common.{◌≡◌, ◌∙◌, false, not, cond, [], ap, sym}
use Rattle.std.specs.Cmp.Lexicographic.{pointwise}
use Rattle.bsp_step.specs.OutcomeParts.{OutcomeParts, outcome_of}
use Rattle.bsp_model.specs.Same.{same_words}
use Rattle.bsp_deliver.proofs.SameDelivery.{Decides-pointwise, Decides-words}
use Rattle.bsp_causes.specs.DeliveryCauses.{has_same_gets, owners_read}
use Rattle.bsp_causes.specs.Same.{same_get}
use Rattle.bsp_causes.proofs.Sameness.{Decides-get, test_along}
use Rattle.bsp_causes.proofs.deliveries.parcel_causes.Goals as goal
use Rattle.bsp_causes.proofs.deliveries.parcel_causes.Goals.{then-same_gets+in_ok-read, else-same_gets}

pub returns : goal.returns
returns c =
    let olds = c.args.old.now in
    let news = c.args.new.now in
    let o = outcome_of olds c.args.d in
    let u = outcome_of news c.args.d in
    let before = c.before-2.view_is ∙ c.get-before.ensures in
    let after = c.after.view_is ∙ c.get-after.ensures in
    let memory : c.same.result ≡ same_words o.memory u.memory =
    test_along c.same.result (same_words o.memory u.memory) (ap (λ (x : OutcomeParts). x.memory) before) (ap (λ (x : OutcomeParts). x.memory) after) c.same.ensures (Decides-words o.memory u.memory) in
    let gets : c.are_same-same_gets.result ≡ pointwise same_get o.gets u.gets =
    test_along c.are_same-same_gets.result (pointwise same_get o.gets u.gets) (ap (λ (x : OutcomeParts). x.gets) before) (ap (λ (x : OutcomeParts). x.gets) after) c.are_same-same_gets.ensures (Decides-pointwise Decides-get o.gets u.gets) in
    let read : c.if-same_gets.read ≡ cond (has_same_gets olds news c.args.d) (owners_read olds news u.gets) [] =
    elim c.if-same_gets.branch [
      | then-same_gets+in_ok-read w ↦ w.read-is ∙ w.in_ok-read.ensures ∙ sym (ap (λ b. cond b (owners_read olds news u.gets) []) (sym gets ∙ w.if-same_gets.true))
      | else-same_gets w ↦ w.read-is ∙ w.new-read.ensures ∙ sym (ap (λ b. cond b (owners_read olds news u.gets) []) (sym gets ∙ w.if-same_gets.false))
    ] in
    λ i. record { is_new = false; memory = not (memory i); gets = not (gets i); read = read i; puts = c.in_ok-puts.ensures i; sends = c.in_ok-sends.ensures i }
