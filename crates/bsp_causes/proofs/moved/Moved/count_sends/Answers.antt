use Rattle.std.proofs.Common.{◌≡◌, ◌<◌, ◌∙◌, Bool, true, false, ap, arith, get_or, length, subst, sym}
use Rattle.bsp_model.specs.declared.request.Send.{Send}
use Rattle.bsp_causes.specs.declared.moved.Moved.{Moved}
use Rattle.bsp_deliver.specs.Cost.{send_transfer}
use Rattle.bsp_causes.specs.Inside.Moved.{HasRoom}
use Rattle.bsp_deliver.proofs.Senders.{item_at}
use Rattle.bsp_causes.specs.Inside.Travel.{is_in}
use Rattle.bsp_causes.proofs.Counting.{counted_if_more, counted_yes, counted_no, room_if}
use Rattle.bsp_causes.proofs.moved.Moved.count_sends.Goals as goal
use Rattle.bsp_causes.proofs.moved.Moved.count_sends.Goals.{then-contains, else-contains}

pub count-requires-clause-room : goal.count-requires-clause-room
count-requires-clause-room c =
    let xs = c.args.sends.now in
    let i = c.loop-place.place in
    let here : i < length xs = omega (arith, c.loop-place-test.true, c.len-place-end.ensures) in
    subst (λ (s : Moved). HasRoom s 1) (sym c.loop-place.invariant)
    (room_if (λ (m : Send). is_in c.args.targets.now m.target) (send_transfer c.args.sender) c.args.self.now xs i here c.requires.small c.requires.room)

pub loop-place-preserved : goal.loop-place-preserved
loop-place-preserved c =
    let xs = c.args.sends.now in
    let i = c.loop-place.place in
    let here : i < length xs = omega (arith, c.loop-place-test.true, c.len-place-end.ensures) in
    let x : Send = record { target = c.at-send.result.target; tag = c.at-send.result.tag.now; words = c.at-send.result.words.now } in
    let test : Send → Bool = λ (m : Send). is_in c.args.targets.now m.target in
    let f = send_transfer c.args.sender in
    let now = c.loop-place.self in
    counted_if_more test f c.args.self.now now _ xs i x here (item_at xs i x c.at-send.ensures) c.loop-place.invariant
    (elim c.if-contains.branch [
      | then-contains w ↦ counted_yes test f now _ x (sym c.contains.ensures ∙ w.if-contains.true) (w.self-is ∙ w.count.ensures)
      | else-contains w ↦ counted_no test f now _ x (sym c.contains.ensures ∙ w.if-contains.false) w.self-is
    ])
