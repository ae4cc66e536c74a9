use Rattle.bsp_model.proofs.StoredWords.{beside, kept}
use Rattle.bsp_model.proofs.stores_ref.StoresRef.replay_on.Goals as goal

pub write_range-requires : goal.write_range-requires
write_range-requires c =
    let there = beside c.args.self.now c.in-Some.range _ _ _ c.in-Some.ensures c.self.view_is c.self.invariant.1 in
    record { inside = there.inside; fits = c.self.invariant.0 }

pub returns-in-Some : goal.returns-in-Some
returns-in-Some c =
    let there = beside c.args.self.now c.in-Some.range _ _ _ c.in-Some.ensures c.self.view_is c.self.invariant.1 in
    rw (← there.made) c.write_range.ensures

pub write_ranges-requires : goal.write_ranges-requires
write_ranges-requires c = (kept c.args.self.now _ _ c.self.inside.memory (c.in-None.ensures c.self.inside.memory) c.self.view_is c.self.invariant.1).are

pub returns-in-None : goal.returns-in-None
returns-in-None c =
    let have = kept c.args.self.now _ _ c.self.inside.memory (c.in-None.ensures c.self.inside.memory) c.self.view_is c.self.invariant.1 in
    rw (← have.made) c.write_ranges.ensures
