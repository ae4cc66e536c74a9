use Rattle.std.proofs.Common.{◌≡◌, ◌<◌, ℕ, List, [], length, get_or, take, fold, sym, ap, ◌∙◌, arith}
use Rattle.std.proofs.lemmas.List.{set_past}
use Rattle.std.proofs.lemmas.List.Sums.{fold_more}
use Rattle.bsp_model.specs.declared.request.Put.{Put}
use Rattle.bsp_model.specs.Memory.{memory_written}
use Rattle.bsp_deliver.specs.Inside.Gathering.{put_at}
use Rattle.bsp_deliver.proofs.Senders.{item_at}
use Rattle.bsp_deliver.proofs.next_memories.write_puts.Goals as goal
use Rattle.bsp_deliver.proofs.next_memories.write_puts.Goals.{then-place-len+in_ok-write, else-place-len}

pub loop-i-preserved : goal.loop-i-preserved
loop-i-preserved c =
    let puts = c.args.puts.now in
    let i = c.loop-i.i in
    let p : Put = record { target = c.at-put.result.target; start = c.at-put.result.start; words = c.at-put.result.words.now } in
    let is : p ≡ get_or puts i p = item_at puts i p c.at-put.ensures in
    let here : i < length puts = omega (arith, c.loop-i-test.true, c.len-i-end.ensures) in
    let step : List (List ℕ) → Put → List (List ℕ) = put_at c.args.places.now in
    let memories : List (List ℕ) = c.loop-i.memories in
    let first : List (List ℕ) = c.args.memories.now in
    let place : ℕ = get_or c.args.places.now p.target 0 in
    let written : List ℕ = memory_written (get_or memories place []) p.start p.words in
    let now : c.if-place-len.memories ≡ step memories p =
    elim c.if-place-len.branch [
      | then-place-len+in_ok-write w ↦ w.memories-is ∙ w.in_ok-write.ensures.written
      | else-place-len w ↦ w.memories-is ∙ sym (set_past memories place written (omega (arith, w.if-place-len.false)))
    ] in
    now ∙ ap (λ ms. step ms p) c.loop-i.invariant ∙ ap (step (fold step first (take i puts))) is ∙ sym (fold_more step first puts i p here)
