use Rattle.std.proofs.Common.{◌∙◌, ◌++◌, ℕ, List, Option, ap}
use Rattle.bsp_engine.specs.Changes.{other, other_lines, piece_if, same_lines}
use Rattle.bsp_engine.proofs.Changed.{others_told}
use Rattle.bsp_engine.proofs.change_lines.push_all_other_lines.Goals as goal

pub loop-pid-preserved : goal.loop-pid-preserved
loop-pid-preserved c =
    let k = c.loop-pid.pid in
    let told = λ (o : Option (List (List ℕ))) (new : List (List ℕ)). c.loop-pid.text.items ++ piece_if other_lines k (other same_lines o new) in
    others_told other_lines same_lines c.args.text.now.items _ _ c.args.olds.now c.args.news.now k c.index-news-pid.result c.loop-pid-test.true c.index-news-pid.is c.loop-pid.invariant
    (c.in_ok-push_other_lines.ensures ∙ ap (λ (o : Option (List (List ℕ))). told o c.index-news-pid.result) c.item_at.ensures)
