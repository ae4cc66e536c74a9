use Rattle.std.proofs.Common.{◌≡◌, ◌≤◌, ◌<◌, ◌-◌, ◌++◌, true, length, take, drop, ap, sym, ◌∙◌, arith}
use Rattle.bsp_model.specs.LocalParts.{LocalParts}
use Rattle.bsp_model.specs.Memory.{memory_written}
use Rattle.bsp_model.specs.Stores.{records}
use Rattle.bsp_model.specs.Inside.Ranges.{longer}
use Rattle.bsp_model.proofs.StoredWords.{stored-on, goes_on}
use Rattle.bsp_model.proofs.local_memory.LocalMemory.change.Goals as goal

pub returns-then-branch-clause-ok : goal.returns-then-branch-clause-ok
returns-then-branch-clause-ok g c =
    let l = c.self.inside in
    let start = c.args.start in
    let makes = g.C.Change.makes c.args.change.now in
    let words = makes (take c.args.len (drop start l.memory)) in
    let done : c.in_ok-change.field-0 ≡ true = c.if-branch.true in
    let many : length words ≡ c.args.len = c.in_ok-change.ensures.count done in
    let some : 0 < length words = omega (arith, many, c.if-len-gt0.true) in
    let long : length l.memory ≡ length c.args.self.now.memory = ap (λ (p : LocalParts). length p.memory) c.self.view_is in
    let inside : length words ≤ length l.memory - start = omega (arith, c.requires.inside, long, many) in
    let go = goes_on l.ranges.items _ l.values.items _ start _ c.as_slice.ensures.value c.as_slice-then-len-gt0.ensures.value c.if-go_on.true c.go_on.ensures in
    let more = c.add_words.ensures ∙ (λ i. longer (c.in_ok-reserve.ensures.items i) start (sym many i)) in
    let stored = stored-on l.ranges.items _ l.values.items l.memory _ words start go some inside c.self.invariant more (c.in_ok-change.ensures.made done) in
    λ i. record {
      memory = (c.in_ok-change.ensures.made done ∙ ap (λ (p : LocalParts). memory_written p.memory start (makes (take c.args.len (drop start p.memory)))) c.self.view_is) i;
      stores = (stored.1 ∙ ap (λ (p : LocalParts). p.stores ++ records start (makes (take c.args.len (drop start p.memory)))) c.self.view_is) i;
    }
