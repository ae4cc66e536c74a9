use Rattle.std.proofs.Common.{◌<◌, length, take, sym, arith, subst, true}
use Rattle.std.proofs.lemmas.List.{length-take-le}
use Rattle.std.proofs.lemmas.List.Elements.{All-take}
use Rattle.bsp_causes.specs.declared.moved.Moved.{Moved}
use Rattle.bsp_deliver.specs.Cost.{get_transfer}
use Rattle.bsp_deliver.specs.Inside.Sums.{IsSmall}
use Rattle.bsp_causes.specs.Inside.Moved.{HasRoom}
use Rattle.bsp_causes.proofs.Sums.{room_next}
use Rattle.bsp_causes.proofs.moved.Moved.count_gets.Goals as goal

pub count-requires-clause-room : goal.count-requires-clause-room
count-requires-clause-room c =
    let xs = c.args.gets.now in
    let i = c.loop-get.get-index in
    let here : i < length xs = c.loop-get-test.true in
    subst (λ (s : Moved). HasRoom s 1) (sym c.loop-get.invariant)
    (room_next (get_transfer c.args.asker) (take i xs) c.args.self.now (length xs) 1 (All-take (λ x. IsSmall (get_transfer c.args.asker x)) i xs c.requires.small) (omega (arith, length-take-le i xs (omega arith))) c.requires.room)
