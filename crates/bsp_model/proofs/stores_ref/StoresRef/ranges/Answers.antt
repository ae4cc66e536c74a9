use Rattle.std.proofs.Common.{sym, ap, ◌∙◌}
use Rattle.bsp_model.specs.StoredRanges.{ranges_stored}
use Rattle.bsp_model.proofs.StoredRanges.{ranges-stores_of}
use Rattle.bsp_model.proofs.stores_ref.StoresRef.ranges.Goals as goal

pub returns : goal.returns
returns c = sym (ranges-stores_of c.self.inside.ranges.now _ c.self.invariant.1) ∙ ap ranges_stored c.self.view_is
