use Rattle.std.proofs.Common.{arith}
use Rattle.bsp_model.proofs.Pages.{words_behind}
use Rattle.bsp_model.proofs.memory.Memory.take_words.Goals as goal

pub returns : goal.returns
returns c = words_behind _ c.swap.new.x.items c.args.words.now.items _ c.clear.ensures.items (omega (arith, c.len-self-inside.ensures, c.args.words.now.ok)) (λ i. (c.swap.ensures.x_after i).items)
