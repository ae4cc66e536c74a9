use Rattle.std.proofs.Common.{arith, get_or, ◌/◌}
use Rattle.std.proofs.lemmas.List.{get_or_default}
use Rattle.bsp_model.proofs.Pages.{loaded_full, loaded_last, loaded_past}
use Rattle.bsp_model.proofs.memory_ref.MemoryRef.load.Goals as goal

pub returns-then-number-self : goal.returns-then-number-self
returns-then-number-self c =
    loaded_full c.self.inside.pages.now (get_or c.self.inside.pages.now (c.args.address / 64) c.index-self-number.result) c.self.inside.last.now _ _ c.args.address _ c.self.view_is c.self.invariant (omega arith) (get_or_default c.self.inside.pages.now (c.args.address / 64) c.index-self-number.result (get_or c.self.inside.pages.now (c.args.address / 64) c.index-self-number.result) (omega arith)) c.load.ensures

pub returns-then-address-self : goal.returns-then-address-self
returns-then-address-self c = loaded_past _ _ _ _ c.args.address c.self.view_is (omega arith)

pub returns : goal.returns
returns c = let count = c.self.invariant.count in loaded_last c.self.inside.pages.now c.self.inside.last.now _ _ c.args.address _ c.self.view_is (omega arith) (omega arith)
