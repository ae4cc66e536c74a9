use Rattle.std.proofs.Common.{◌++◌, ℕ, Bool, sym, ap, ◌∙◌, append-nil}
use Rattle.bsp_causes.proofs.OtherWords.{none_other, other_more, same_more}
use Rattle.bsp_causes.proofs.turns.add_other_words_from.Goals as goal
use Rattle.bsp_causes.proofs.turns.add_other_words_from.Goals.{then-is_other_word+in_ok-push, else-is_other_word}

pub returns-then-are_same_words : goal.returns-then-are_same_words
returns-then-are_same_words g c =
    let words = c.args.words.now in
    sym (append-nil words)
    ∙ ap (λ xs. words ++ xs) (sym (none_other (g.P.Program.looks c.args.program.now c.args.view.now) c.args.first c.args.old.now c.args.new.now (c.are_same_words.ensures.0 c.if-are_same_words.true)))

pub loop-i-preserved : goal.loop-i-preserved
loop-i-preserved g c =
    let looks : ℕ → Bool = g.P.Program.looks c.args.program.now c.args.view.now in
    elim c.if-is_other_word.branch [
      | then-is_other_word+in_ok-push w ↦
          w.words-is ∙ w.in_ok-push.ensures.ok
          ∙ other_more looks c.args.first c.loop-i.i c.word_at.result c.args.old.now c.args.new.now c.args.words.now c.loop-i.words c.is_other_word.result c.word_at.ensures c.is_other_word.ensures w.if-is_other_word.true c.loop-i.invariant
      | else-is_other_word w ↦
          w.words-is
          ∙ same_more looks c.args.first c.loop-i.i c.word_at.result c.args.old.now c.args.new.now c.args.words.now c.loop-i.words c.is_other_word.result c.word_at.ensures c.is_other_word.ensures w.if-is_other_word.false c.loop-i.invariant
    ]
