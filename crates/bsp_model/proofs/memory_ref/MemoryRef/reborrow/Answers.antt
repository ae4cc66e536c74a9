use Rattle.std.proofs.Common.{arith}
use Rattle.bsp_model.proofs.Pages.{words_len}
use Rattle.bsp_model.proofs.memory_ref.MemoryRef.reborrow.Goals as goal

pub returns-clause-fits : goal.returns-clause-fits
returns-clause-fits c = omega (arith, words_len _ _ _ _ c.self.view_is, c.self.invariant.fits)
