use Rattle.std.proofs.Common.{◌≡◌, ℕ, ◌+◌, ◌≤◌, ◌∷◌, [], length, map, take, List, sym, ap, ◌∙◌, arith}
use Rattle.bsp_model.specs.declared.request.Put.{Put}
use Rattle.bsp_model.specs.Memory.{memory_written}
use Rattle.bsp_deliver.specs.Delivery.{put_write}
use Rattle.bsp_deliver.specs.Inside.Gathering.{overlay}
use Rattle.bsp_deliver.proofs.Writes.{overlay-none, overlay-more, length-overlay, memory_written-overlay}
use Rattle.bsp_deliver.proofs.Senders.{at_item}
use Rattle.bsp_deliver.proofs.one_process.write_sent_puts.Goals as goal

pub loop-put-init : goal.loop-put-init
loop-put-init c = sym (overlay-none c.args.memory.now)

pub loop-put-preserved : goal.loop-put-preserved
loop-put-preserved c =
    let m = c.args.memory.now in
    let sent = c.loop-put-item.result in
    let p : Put = sent.1 in
    let i = c.loop-put.put-index in
    let fits = at_item (λ (s : ℕ × Put). s.1.start + length s.1.words ≤ length m) c.args.puts.now i sent c.requires c.loop-put-test.true c.loop-put-item.is in
    let long : length c.loop-put.memory ≡ length m = ap length c.loop-put.invariant ∙ length-overlay m (map put_write (take i c.args.puts.now)) in
    c.in_ok-write.ensures.written
    ∙ ap (memory_written c.loop-put.memory p.start) c.as_slice.ensures
    ∙ memory_written-overlay c.loop-put.memory p.words p.start (omega (arith, fits, long))
    ∙ ap (λ (ws : List ℕ). overlay ws (put_write sent ∷ [])) c.loop-put.invariant
    ∙ overlay-more put_write m c.args.puts.now i sent c.loop-put-test.true c.loop-put-item.is
