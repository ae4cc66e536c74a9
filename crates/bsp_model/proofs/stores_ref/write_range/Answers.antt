use Rattle.std.proofs.Common.{◌≡◌, ◌+◌, ◌-◌, List, ℕ, length, take, drop, ap, ◌∙◌, arith}
use Rattle.bsp_model.specs.Stores.{records, made_again}
use Rattle.bsp_model.proofs.MadeAgain.{written_piece}
use Rattle.bsp_model.proofs.stores_ref.write_range.Goals as goal

pub loop-done-preserved : goal.loop-done-preserved
loop-done-preserved c =
    let source : List ℕ = c.args.source.now in
    let piece : List ℕ = c.piece-words.result.now in
    let start = c.args.range.start in
    let len = c.args.range.len in
    let done = c.loop-done.done in
    let count = length piece in
    let left : List ℕ → ℕ → ℕ → List ℕ = λ m from many. made_again m (records from (take many (drop from source))) in
    let from : start + (done + count) ≡ start + done + count = omega arith in
    let many : len - (done + count) ≡ len - done - count = omega arith in
    record {
      within = omega (arith, c.piece-words.ensures.few);
      same =
          ap (λ (m : List ℕ). left m (start + (done + count)) (len - (done + count))) c.in_ok-write_inside.ensures
          ∙ ap (λ (n : ℕ). left (made_again c.loop-done.memory (records (start + done) piece)) n (len - (done + count))) from
          ∙ ap (left (made_again c.loop-done.memory (records (start + done) piece)) (start + done + count)) many
          ∙ written_piece c.loop-done.memory source piece (start + done) (len - done) c.piece-words.ensures.there c.piece-words.ensures.few
          ∙ c.loop-done.invariant.same;
    }
