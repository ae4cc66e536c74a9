use Rattle.std.proofs.Common.{refl}
use Rattle.bsp_model.specs.Inside.Pages.{words_of}
use Rattle.bsp_model.proofs.memory.Memory.new.Goals as goal

pub returns : goal.returns
unfolding words_of
returns c = refl
