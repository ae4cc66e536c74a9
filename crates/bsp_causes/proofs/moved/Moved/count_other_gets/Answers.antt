use Rattle.std.proofs.Common.{◌≡◌, ◌<◌, ◌∙◌, true, false, arith, get_or, length, refl, subst, sym}
use Rattle.bsp_causes.specs.declared.moved.Moved.{Moved}
use Rattle.bsp_deliver.specs.Cost.{get_transfer}
use Rattle.bsp_causes.specs.Inside.Moved.{HasRoom}
use Rattle.std.proofs.lemmas.List.{get_or_default}
use Rattle.bsp_causes.specs.Inside.Travel.{reads_other}
use Rattle.bsp_causes.proofs.Counting.{counted_if_more, counted_yes, counted_no, room_if}
use Rattle.bsp_causes.proofs.Travelling.{no_get}
use Rattle.bsp_causes.proofs.moved.Moved.count_other_gets.Goals as goal
use Rattle.bsp_causes.proofs.moved.Moved.count_other_gets.Goals.{then-reads_other, else-reads_other}

pub count-requires-clause-room : goal.count-requires-clause-room
count-requires-clause-room c =
    subst (λ (s : Moved). HasRoom s 1) (sym c.loop-get.invariant)
    (room_if (reads_other c.args.before.now c.args.after.now) (get_transfer c.args.asker) c.args.self.now c.args.gets.now c.loop-get.get-index c.loop-get-test.true c.requires.small c.requires.room)

pub loop-get-preserved : goal.loop-get-preserved
loop-get-preserved c =
    let xs = c.args.gets.now in
    let i = c.loop-get.get-index in
    let x = get_or xs i no_get in
    let test = reads_other c.args.before.now c.args.after.now in
    let f = get_transfer c.args.asker in
    let now = c.loop-get.self in
    counted_if_more test f c.args.self.now now _ xs i x c.loop-get-test.true (get_or_default xs i no_get x c.loop-get-test.true) c.loop-get.invariant
    (elim c.if-reads_other.branch [
      | then-reads_other w ↦ counted_yes test f now _ x (sym c.reads_other.ensures ∙ w.if-reads_other.true) (w.self-is ∙ w.count.ensures)
      | else-reads_other w ↦ counted_no test f now _ x (sym c.reads_other.ensures ∙ w.if-reads_other.false) w.self-is
    ])
