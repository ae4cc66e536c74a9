use Rattle.std.proofs.Common.{◌≡◌, [], length, map, take, get_or, ap, ◌∙◌, arith}
use Rattle.std.proofs.lemmas.List.{get_or_default}
use Rattle.bsp_model.specs.declared.request.Get.{Get}
use Rattle.bsp_deliver.specs.Requests.{words_read}
use Rattle.bsp_deliver.specs.Delivery.{get_write}
use Rattle.bsp_deliver.specs.Inside.Gathering.{overlay}
use Rattle.bsp_deliver.proofs.Writes.{length-overlay}
use Rattle.bsp_deliver.proofs.WrittenAt.{none_written, now_there, one_more_written}
use Rattle.bsp_deliver.proofs.next_memories.write_gets.Goals as goal

abbrev no_get : Get
no_get = record { owner = 0; start = 0; len = 0; into = 0 }

pub loop-get-init : goal.loop-get-init
loop-get-init c = none_written c.args.memories.now c.args.place

pub write_get-requires-clause-inside : goal.write_get-requires-clause-inside
write_get-requires-clause-inside c =
    let h = c.requires.inside c.loop-get.get-index no_get c.loop-get-test.true in
    let first = get_or c.args.memories.now c.args.place [] in
    let writes = map (λ g. get_write (g, words_read c.args.outcomes.now g)) (take c.loop-get.get-index c.args.gets.now) in
    let long : length (get_or c.loop-get.memories c.args.place []) ≡ length first =
    ap length (now_there c.args.memories.now c.loop-get.memories c.args.place (overlay first writes) c.requires.place c.loop-get.invariant) ∙ length-overlay first writes in
    record { known = h.known; inside = h.inside; room = omega (arith, h.room, long) }

pub loop-get-preserved : goal.loop-get-preserved
loop-get-preserved c =
    let g : Get = get_or c.args.gets.now c.loop-get.get-index no_get in
    one_more_written (λ (x : Get). get_write (x, words_read c.args.outcomes.now x)) c.args.memories.now c.loop-get.memories c.write_get.new.memories c.args.place c.args.gets.now c.loop-get.get-index g
    c.requires.place c.loop-get-test.true (get_or_default c.args.gets.now c.loop-get.get-index no_get g c.loop-get-test.true) c.loop-get.invariant c.in_ok-write_get.ensures
