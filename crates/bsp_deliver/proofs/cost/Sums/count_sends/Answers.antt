use Rattle.std.proofs.Common.{◌<◌, ◌∙◌, length, take, sym, arith, subst}
use Rattle.std.proofs.lemmas.List.{length-take-le}
use Rattle.std.proofs.lemmas.List.Elements.{All-take}
use Rattle.bsp_model.specs.declared.request.Send.{Send}
use Rattle.bsp_deliver.specs.declared.cost.Sums.{Sums}
use Rattle.bsp_deliver.specs.Cost.{send_transfer}
use Rattle.bsp_deliver.specs.Inside.Sums.{is_target, HasRoom, IsSmall}
use Rattle.bsp_deliver.proofs.Senders.{item_at}
use Rattle.bsp_deliver.proofs.Counts.{counted_more, room_next}
use Rattle.bsp_deliver.proofs.cost.Sums.count_sends.Goals as goal

pub count-requires-clause-room : goal.count-requires-clause-room
count-requires-clause-room c =
    let xs = c.args.sends.now in
    let i = c.loop-place.place in
    let here : i < length xs = omega (arith, c.loop-place-test.true, c.len-place-end.ensures) in
    subst (λ (s : Sums). HasRoom s 1) (sym c.loop-place.invariant)
    (room_next (is_target c.args.targets.now) (send_transfer c.args.sender) (take i xs) c.args.self.now (length xs) 1 (All-take (λ x. IsSmall (send_transfer c.args.sender x)) i xs c.requires.small) (omega (arith, length-take-le i xs (omega arith))) c.requires.room)

pub loop-place-preserved : goal.loop-place-preserved
loop-place-preserved c =
    let xs = c.args.sends.now in
    let i = c.loop-place.place in
    let x : Send = record { target = c.at-send.result.target; tag = c.at-send.result.tag.now; words = c.at-send.result.words.now } in
    let here : i < length xs = omega (arith, c.loop-place-test.true, c.len-place-end.ensures) in
    c.count.ensures ∙ counted_more (is_target c.args.targets.now) (send_transfer c.args.sender) c.args.self.now c.loop-place.self xs i x here (item_at xs i x c.at-send.ensures) c.loop-place.invariant
