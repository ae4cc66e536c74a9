use Rattle.std.proofs.Common.{◌≡◌, ◌+◌, ◌-◌, ℕ, List, take, drop, subst, arith}
use Rattle.bsp_model.proofs.SameWords.{one_part_more}
use Rattle.bsp_model.proofs.seq.are_same_words.Goals as goal

pub loop-at-preserved : goal.loop-at-preserved
loop-at-preserved c =
    let left : List ℕ = c.args.left.now in
    let right : List ℕ = c.args.right.now in
    let at : ℕ = c.loop-at.at in
    let count : ℕ = c.min.result in
    let long : at + count - at ≡ count = omega arith in
    record {
      within = omega (arith, c.min.ensures);
      same = one_part_more left right at count c.loop-at.invariant.same (subst (λ m. take m (drop at left) ≡ take m (drop at right)) long (c.difference-in-loop-at.ensures.0 c.if-difference-ne0.false));
    }
