use Rattle.std.proofs.Common.{◌≡◌, ◌+◌, ℕ, length, drop, sum_by, arith, ap, ◌∙◌}
use Rattle.std.proofs.lemmas.List.Sums.{sum_by-cons}
use Rattle.bsp_model.specs.declared.request.Message.{Message}
use Rattle.bsp_step.proofs.MessagesLeft.{first_left, few_words}
use Rattle.bsp_step.proofs.ctx.messages.count_of_words.Goals as goal

abbrev size : Message → ℕ
size m = length m.words

-- the words of the message that is read, and of those behind it
next_words : (c : goal.After-at) → sum_by size (drop c.loop-place.place c.args.messages.now) ≡ length c.at.result.words.now + sum_by size (drop (c.loop-place.place + 1) c.args.messages.now)
next_words c =
    let m : Message = record { tag = c.at.result.tag.now; words = c.at.result.words.now } in
    ap (sum_by size) (first_left c.args.messages.now c.loop-place.place m c.at.ensures) ∙ sum_by-cons size m (drop (c.loop-place.place + 1) c.args.messages.now)

pub overflow_add-words : goal.overflow_add-words
overflow_add-words c = omega (arith, c.loop-place.invariant, next_words c, few_words (drop c.args.from c.args.messages.now) c.requires)

pub loop-place-preserved : goal.loop-place-preserved
loop-place-preserved c = omega (arith, c.loop-place.invariant, next_words c)
