use Rattle.std.proofs.Common.{◌≡◌, ◌<◌, ◌+◌, ◌++◌, List, ℕ, [], length, take, ap, set, sym, ◌∙◌, get_or, arith}
use Rattle.std.proofs.lemmas.List.{length-take-le, take_all}
use Rattle.bsp_model.specs.Memory.{memory_written}
use Rattle.bsp_step.specs.OutcomeParts.{OutcomeParts, outcome_of}
use Rattle.bsp_deliver.specs.Requests.{each_below, words_read}
use Rattle.bsp_deliver.proofs.Writes.{get_written, length-words_read}
use Rattle.bsp_deliver.proofs.Senders.{sizes-outcome_of, length-sizes_of}
use Rattle.bsp_deliver.proofs.ReadWords.{piece_read, some_read, nothing_written, piece_written}
use Rattle.bsp_deliver.proofs.next_memories.write_get.Goals as goal

pub loop-done-init : goal.loop-done-init
loop-done-init c = record { within = omega arith; written = nothing_written c.args.memories.now c.args.place c.args.get.now.into (omega (arith, c.requires.inside.room)) }

-- what is read on from here is inside the owner's memory
pub loop-done-smaller : goal.loop-done-smaller
loop-done-smaller c =
    let os = c.args.outcomes.now in
    let g = c.args.get.now in
    let known : g.owner < length os = omega (arith, c.requires.inside.known, length-sizes_of os) in
    let owned : c.owner.inside.memory ≡ (outcome_of os g.owner).memory = ap (λ (o : OutcomeParts). o.memory) (c.owner.view_is ∙ c.get-owner.ensures) in
    let long = sizes-outcome_of os g.owner known in
    let within : g.start + c.loop-done.done < length c.owner.inside.memory = omega (arith, c.requires.inside.inside, long, ap length owned, c.loop-done-test.true) in
    let some = some_read c.owner.inside.memory c.words_from-rest.result.now (g.start + c.loop-done.done) c.words_from-rest.ensures within in
    omega (arith, some, c.loop-done-test.true)

pub loop-done-preserved : goal.loop-done-preserved
loop-done-preserved c =
    let os = c.args.outcomes.now in
    let g = c.args.get.now in
    let done = c.loop-done.done in
    let here = c.min-here.result in
    let rest = c.words_from-rest.result.now in
    let words = words_read os g in
    let owned : c.owner.inside.memory ≡ (outcome_of os g.owner).memory = ap (λ (o : OutcomeParts). o.memory) (c.owner.view_is ∙ c.get-owner.ensures) in
    let read : words ≡ each_below g.len (λ i. get_or c.owner.inside.memory (g.start + i) 0) = ap (λ (m : List ℕ). each_below g.len (λ i. get_or m (g.start + i) 0)) (sym owned) in
    let more : take (done + here) words ≡ take done words ++ take here rest =
    piece_read c.owner.inside.memory rest words g.start g.len done here c.words_from-rest.ensures (omega (arith, c.min-here.ensures)) (omega (arith, c.min-here.ensures, c.loop-done-test.true)) read in
    let long : length (take done words) ≡ done = length-take-le done words (omega (arith, length-words_read os g, c.loop-done.invariant.within)) in
    let short : length (take here rest) ≡ here = length-take-le here rest (omega (arith, c.min-here.ensures)) in
    let now : c.write.new.self ≡ set c.loop-done.memories c.args.place (memory_written (get_or c.loop-done.memories c.args.place []) (g.into + length (take done words)) (take here rest)) =
    c.in_ok-write.ensures.written ∙ ap (λ (n : ℕ). set c.loop-done.memories c.args.place (memory_written (get_or c.loop-done.memories c.args.place []) (g.into + n) (take here rest))) (sym long) in
    record {
      within = omega (arith, c.min-here.ensures, c.loop-done-test.true);
      written =
          piece_written c.args.memories.now c.loop-done.memories c.write.new.self c.args.place g.into (take done words) (take here rest) (take (done + here) words)
          c.requires.place (omega (arith, long, short, c.requires.inside.room, c.min-here.ensures, c.loop-done-test.true)) c.loop-done.invariant.written now more;
    }

pub returns : goal.returns
returns c =
    let os = c.args.outcomes.now in
    let g = c.args.get.now in
    let words = words_read os g in
    let all : take c.loop-done.done words ≡ words = take_all c.loop-done.done words (omega (arith, length-words_read os g, c.loop-done-test.false)) in
    c.loop-done.invariant.written ∙ ap (set c.args.memories.now c.args.place) (get_written os g (get_or c.args.memories.now c.args.place []) (take c.loop-done.done words) c.requires.inside.room all)
