use Rattle.std.proofs.Common.{◌<◌, length, take, sym, arith, subst}
use Rattle.std.proofs.lemmas.List.{length-take-le}
use Rattle.std.proofs.lemmas.List.Elements.{All-take}
use Rattle.bsp_deliver.specs.declared.cost.Sums.{Sums}
use Rattle.bsp_deliver.specs.Cost.{get_transfer}
use Rattle.bsp_deliver.specs.Inside.Sums.{is_target, HasRoom, IsSmall}
use Rattle.bsp_deliver.proofs.Counts.{room_next}
use Rattle.bsp_deliver.proofs.cost.Sums.count_gets.Goals as goal

pub count-requires-clause-room : goal.count-requires-clause-room
count-requires-clause-room c =
    let xs = c.args.gets.now in
    let i = c.loop-get.get-index in
    let here : i < length xs = c.loop-get-test.true in
    subst (λ (s : Sums). HasRoom s 1) (sym c.loop-get.invariant)
    (room_next (is_target c.args.targets.now) (get_transfer c.args.sender) (take i xs) c.args.self.now (length xs) 1 (All-take (λ x. IsSmall (get_transfer c.args.sender x)) i xs c.requires.small) (omega (arith, length-take-le i xs (omega arith))) c.requires.room)
