use Rattle.std.proofs.Common.{◌≡◌, ◌<◌, ◌+◌, ℕ, length, ap, ◌∙◌, arith}
use Rattle.bsp_model.specs.declared.request.Send.{Send}
use Rattle.bsp_deliver.specs.Cost.{Transfer, send_transfer}
use Rattle.bsp_deliver.proofs.Senders.{item_at}
use Rattle.bsp_incr.proofs.MovedAlike.{mapped_more}
use Rattle.bsp_incr.proofs.compare.moving.sends_move_alike.Goals as goal

pub loop-place-preserved : goal.loop-place-preserved
loop-place-preserved c = λ sender.
    let old = c.args.old.now in
    let new = c.args.new.now in
    let i = c.loop-place.place in
    let before : Send = record { target = c.at-before.result.target; tag = c.at-before.result.tag.now; words = c.at-before.result.words.now } in
    let after : Send = record { target = c.at-after.result.target; tag = c.at-after.result.tag.now; words = c.at-after.result.words.now } in
    let in_old : i < length old = omega (arith, c.loop-place-test.true, c.len-place-end.ensures) in
    let in_new : i < length new = omega arith in
    let target : before.target ≡ after.target = omega arith in
    let count : length before.tag + length before.words ≡ length after.tag + length after.words = omega arith in
    let alike : send_transfer sender before ≡ send_transfer sender after =
    ap (λ (t : ℕ). let x : Transfer = record { source = sender; target = t; count = length before.tag + length before.words } in x) target
    ∙ ap (λ (n : ℕ). let x : Transfer = record { source = sender; target = after.target; count = n } in x) count in
    mapped_more (send_transfer sender) old new i before after in_old in_new (item_at old i before c.at-before.ensures) (item_at new i after c.at-after.ensures) alike (c.loop-place.invariant sender)
