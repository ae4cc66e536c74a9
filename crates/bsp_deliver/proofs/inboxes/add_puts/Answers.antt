use Rattle.std.proofs.Common.{◌≡◌, ◌<◌, ◌==◌, ℕ, Bool, length, get_or, ap, ◌∙◌, arith}
use Rattle.std.proofs.lemmas.Bool.{eq-eqb, ne_eqb}
use Rattle.std.proofs.lemmas.Option.{get_or_from_slice_get}
use Rattle.bsp_model.specs.declared.request.Put.{Put}
use Rattle.bsp_deliver.proofs.Senders.{item_at}
use Rattle.bsp_deliver.proofs.AddressedRequests.{added_yes, added_no}
use Rattle.bsp_deliver.proofs.inboxes.add_puts.Goals as goal
use Rattle.bsp_deliver.proofs.inboxes.add_puts.Goals.{then-at-d+in_ok-copied_put+in_ok-push, else-at-d}

pub loop-place-preserved : goal.loop-place-preserved
loop-place-preserved c =
    let all = c.args.puts.now in
    let i = c.loop-place.place in
    let seen : Put = record { target = c.at.result.target; start = c.at.result.start; words = c.at.result.words.now } in
    let here : i < length all = omega (arith, c.loop-place-test.true, c.len-place-end.ensures) in
    let from : Put → ℕ × Put = λ r. (c.args.sender, r) in
    let to : Put → Bool = λ r. r.target == c.args.d in
    elim c.if-at-d.branch [
      | then-at-d+in_ok-copied_put+in_ok-push w ↦
          let r : Put = w.in_ok-copied_put.field-0 in
          let is : r ≡ get_or all i r = item_at all i r w.in_ok-copied_put.ensures in
          let target : r.target ≡ c.args.d = ap (λ (x : Put). x.target) (is ∙ get_or_from_slice_get all i seen r c.at.ensures) ∙ w.if-at-d.true in
          w.list-is ∙ w.in_ok-push.ensures.ok ∙ added_yes from to all i r c.args.list.now c.loop-place.list here is (eq-eqb _ _ target) c.loop-place.invariant
      | else-at-d w ↦ w.list-is ∙ added_no from to all i seen c.args.list.now c.loop-place.list here (item_at all i seen c.at.ensures) (ne_eqb _ _ w.if-at-d.false) c.loop-place.invariant
    ]
