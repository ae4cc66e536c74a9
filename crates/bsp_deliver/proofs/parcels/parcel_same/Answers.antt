use Rattle.std.proofs.Common.{◌<◌, ◌==◌, ℕ, length, sym, ◌∙◌, refl, arith, subst}
use Rattle.std.proofs.lemmas.Bool.{false≢true}
use Rattle.bsp_model.specs.declared.request.Put.{Put}
use Rattle.bsp_model.specs.declared.request.Send.{Send}
use Rattle.bsp_step.specs.OutcomeParts.{OutcomeParts, outcome_of}
use Rattle.bsp_deliver.specs.Requests.{all_puts, all_sends}
use Rattle.bsp_deliver.specs.Delivery.{delivery_parts}
use Rattle.bsp_deliver.specs.Inside.Comparison.{HasSameParcel}
use Rattle.bsp_deliver.proofs.Comparing.{same_from_senders, senders_from_same}
use Rattle.bsp_deliver.proofs.parcels.parcel_same.Goals as goal

pub returns-then-not-is_same_parcel : goal.returns-then-not-is_same_parcel
unfolding delivery_parts all_puts all_sends
returns-then-not-is_same_parcel c =
    let os = c.args.old.now in let us = c.args.new.now in let k = c.loop-sender.sender in
    let l : k < length os = omega (arith, c.loop-sender-test.true, c.len-sender-end.ensures) in
    let m : k < length us = omega (arith, c.requires.as_many, l) in (
      λ t. absurd (false≢true t),
      λ h.
          let here : HasSameParcel c.args.d (outcome_of os k) (outcome_of us k) = record {
            puts = senders_from_same (λ (o : OutcomeParts). o.puts) (λ (p : Put). p.target == c.args.d) os us k l m h.0;
            sends = senders_from_same (λ (o : OutcomeParts). o.sends) (λ (p : Send). p.target == c.args.d) os us k l m h.1;
          } in
          sym c.if-not-is_same_parcel.true ∙ c.is_same_parcel.ensures.1 (subst (λ (o : OutcomeParts). HasSameParcel c.args.d o c.get-in-loop-sender.result) (sym c.get.ensures) (subst (HasSameParcel c.args.d (outcome_of os k)) (sym c.get-in-loop-sender.ensures) here)),
    )

pub returns : goal.returns
unfolding delivery_parts all_puts all_sends
returns c =
    let os = c.args.old.now in let us = c.args.new.now in
    let each : (k : ℕ) → k < length os → HasSameParcel c.args.d (outcome_of os k) (outcome_of us k) = λ k l. c.loop-sender.invariant k (omega (arith, c.loop-sender-test.false, c.len-sender-end.ensures)) in (
      λ t. (
        same_from_senders (λ (o : OutcomeParts). o.puts) (λ (p : Put). p.target == c.args.d) os us c.requires.as_many (λ k l. (each k l).puts),
        same_from_senders (λ (o : OutcomeParts). o.sends) (λ (p : Send). p.target == c.args.d) os us c.requires.as_many (λ k l. (each k l).sends),
      ),
      λ h. refl,
    )
