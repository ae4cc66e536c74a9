use Rattle.std.proofs.Common.{◌<◌, ◌∙◌, ◌++◌, ℕ, List, [], Option, ap, length, option_map, unwrap_or, arith}
use Rattle.std.proofs.lemmas.List.{get_or_default}
use Rattle.bsp_engine.specs.Changes.{other, piece_if}
use Rattle.bsp_model.specs.Same.{same_words}
use Rattle.bsp_engine.specs.Text.{memory_line}
use Rattle.bsp_engine.proofs.Changed.{others_told}
use Rattle.bsp_engine.proofs.change_lines.push_other_memories.Goals as goal

pub loop-pid-preserved : goal.loop-pid-preserved
loop-pid-preserved c =
    let news = c.args.news.now in
    let pid = c.loop-pid.pid in
    let within : pid < length news = omega arith in
    others_told memory_line same_words c.args.text.now.items _ _ (unwrap_or (option_map (λ m. m.now) c.args.olds) []) news pid c.get.result within (c.get.ensures ∙ get_or_default news pid [] c.get.result within) c.loop-pid.invariant
    (c.in_ok-push_other_memory.ensures ∙ ap (λ (o : Option (List ℕ)). c.loop-pid.text.items ++ piece_if memory_line pid (other same_words o c.get.result)) c.memory_at.ensures)
