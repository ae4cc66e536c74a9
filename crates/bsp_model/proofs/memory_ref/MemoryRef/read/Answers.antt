use Rattle.std.proofs.Common.{◌≡◌, ◌≤◌, ◌+◌, ◌++◌, List, ℕ, length, take, drop, arith}
use Rattle.std.proofs.Math.Seq.{take-add}
use Rattle.std.proofs.lemmas.Bool.Decides.{nat_tests}
use Rattle.std.proofs.lemmas.Grind.{common_steps}
use Rattle.bsp_model.proofs.memory_ref.MemoryRef.read.Goals as goal

-- the words of a piece follow those that were copied before
read_more : (memory words piece all : List ℕ) (start copied : ℕ) → copied ≤ length words → take copied words ≡ take copied (drop start memory) → piece ≡ take (length piece) (drop (start + copied) memory) → all ≡ take copied words ++ piece ++ drop (copied + length piece) words
    → take (copied + length piece) all ≡ take (copied + length piece) (drop start memory)
read_more memory words piece all start copied within same here e =
    rw (e, take-add copied (length piece) (drop start memory)) (grind (arith, common_steps))

pub loop-copied-smaller : goal.loop-copied-smaller
loop-copied-smaller c =
    let fits : c.args.start + length c.args.words.now ≤ length c.args.self.now = grind (arith, nat_tests, c.len.ensures, c.is_within.ensures, c.if-not-is_within.false) in
    omega (arith, c.piece-piece.ensures.some (omega (arith, fits)) (omega arith))

pub loop-copied-preserved : goal.loop-copied-preserved
loop-copied-preserved c =
    record {
      within = grind (arith, common_steps);
      same = read_more c.args.self.now c.loop-copied.words c.piece-piece.result.now _ c.args.start c.loop-copied.copied c.loop-copied.invariant.within c.loop-copied.invariant.same c.piece-piece.ensures.there c.replace_items.ensures;
    }
