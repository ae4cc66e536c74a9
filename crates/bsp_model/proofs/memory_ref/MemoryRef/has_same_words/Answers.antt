use Rattle.std.proofs.Common.{◌≡◌, ◌<◌, ◌≤◌, ◌+◌, List, ℕ, length, drop, take, refl, sym, ap, ◌∙◌, arith, drop-drop}
use Rattle.std.proofs.lemmas.Bool.{false≢true}
use Rattle.bsp_model.proofs.SameWords.{front_of, one_part_more}
use Rattle.bsp_model.proofs.StoredWords.{piece_of_range}
use Rattle.bsp_model.proofs.memory_ref.MemoryRef.has_same_words.Goals as goal

pub loop-done-smaller : goal.loop-done-smaller
loop-done-smaller c =
    let right : 0 < length c.piece-right.result.now = c.piece-right.ensures.some (omega (arith, c.requires)) (omega arith) in
    omega (arith, c.piece-left.ensures.some (omega (arith, c.requires)) right)

-- words from a place behind a start
behind : (words : List ℕ) (start done count : ℕ) → take count (drop (start + done) words) ≡ take count (drop done (drop start words))
behind words start done count = ap (take count) (sym (drop-drop done start words))

pub loop-done-preserved : goal.loop-done-preserved
loop-done-preserved c =
    let mine = c.args.self.now in
    let others = c.args.other.now in
    let left = c.piece-left.result.now in
    let right = c.piece-right.result.now in
    let done = c.loop-done.done in
    let few = c.piece-left.ensures.few in
    record {
      within = omega (arith, few, c.piece-right.ensures.few);
      same = one_part_more (drop c.args.start mine) (drop c.args.other_start others) done (length left) c.loop-done.invariant.same
          (sym (behind mine c.args.start done (length left))
          ∙ sym c.piece-left.ensures.there
          ∙ c.are_same_words.ensures.0 c.if-not-are_same_words.false
          ∙ front_of right (drop (c.args.other_start + done) others) (length left) c.piece-right.ensures.there few
          ∙ behind others c.args.other_start done (length left));
    }

pub returns-then-not-are_same_words : goal.returns-then-not-are_same_words
returns-then-not-are_same_words c =
    let left : List ℕ = c.piece-left.result.now in
    let right : List ℕ = c.piece-right.result.now in
    let done = c.loop-done.done in
    let others : List ℕ = take c.args.len (drop c.args.other_start c.args.other.now) in
    let few = c.piece-left.ensures.few in
    let within : done ≤ c.args.len = c.loop-done.invariant.within in
    let mine = piece_of_range c.args.self.now left c.args.start c.args.len done c.piece-left.ensures.there within (omega (arith, few, c.piece-right.ensures.few)) in
    let there = piece_of_range c.args.other.now right c.args.other_start c.args.len done c.piece-right.ensures.there within c.piece-right.ensures.few in (
      λ no. absurd (false≢true no),
      λ same. absurd (false≢true (sym c.if-not-are_same_words.true ∙ c.are_same_words.ensures.1 (mine ∙ ap (λ (ws : List ℕ). take (length left) (drop done ws)) same ∙ sym (front_of right (drop done others) (length left) there few)))),
    )

pub returns : goal.returns
returns c =
    let at : c.loop-done.done ≡ c.args.len = omega (arith, c.loop-done.invariant.within, c.loop-done-test.false) in
    let all : take c.args.len (drop c.args.start c.args.self.now) ≡ take c.args.len (drop c.args.other_start c.args.other.now) = rw at at c.loop-done.invariant.same in
    (λ _. all, λ _. refl)
