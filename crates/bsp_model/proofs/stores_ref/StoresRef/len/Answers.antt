use Rattle.std.proofs.Common.{sym}
use Rattle.bsp_model.proofs.StoredWords.{beside, kept}
use Rattle.bsp_model.proofs.stores_ref.StoresRef.len.Goals as goal

pub returns-in-Some : goal.returns-in-Some
returns-in-Some c = sym (beside c.args.self.now c.in-Some.range _ _ _ c.in-Some.ensures c.self.view_is c.self.invariant.1).count

pub returns-in-None : goal.returns-in-None
returns-in-None c = sym (kept c.args.self.now _ _ c.self.inside.memory (c.in-None.ensures c.self.inside.memory) c.self.view_is c.self.invariant.1).count
