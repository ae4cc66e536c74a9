use Rattle.std.proofs.Common.{◌≡◌, ◌≤◌, ◌<◌, ◌-◌, ◌++◌, List, length, ap, ◌∙◌, arith}
use Rattle.std.proofs.lemmas.Bool.Decides.{nat_tests}
use Rattle.bsp_model.specs.LocalParts.{LocalParts}
use Rattle.bsp_model.specs.Memory.{memory_written}
use Rattle.bsp_model.specs.Stores.{records}
use Rattle.bsp_model.specs.declared.range.Range.{Range}
use Rattle.bsp_model.specs.Inside.Ranges.{longer}
use Rattle.bsp_model.proofs.StoredWords.{stored-apart, stored-on, stored-none, last_len-on, goes_on}
use Rattle.bsp_model.proofs.local_memory.LocalMemory.store.Goals as goal

pub invariant_of-self : goal.invariant_of-self
invariant_of-self c =
    let l = c.self.inside in
    let e = c.in_err-store_apart.ensures in
    stored-none l.ranges.items _ l.values.items _ l.memory _ c.self.invariant e.err_ranges e.err_values e.err_memory

pub invariant_of-self-then-not-go_on : goal.invariant_of-self-then-not-go_on
invariant_of-self-then-not-go_on c =
    let l = c.self.inside in
    let some : 0 < length c.args.words.now = grind (arith, nat_tests) in
    (stored-apart l.ranges.items _ l.values.items _ l.memory c.store_apart.new.memory c.args.words.now c.args.start some c.self.invariant c.in_ok-store_apart.ensures.ranges c.in_ok-store_apart.ensures.values).0

pub returns-then-not-go_on-clause-ok : goal.returns-then-not-go_on-clause-ok
returns-then-not-go_on-clause-ok c =
    let l = c.self.inside in
    let start = c.args.start in
    let words = c.args.words.now in
    let some : 0 < length words = grind (arith, nat_tests) in
    let made = stored-apart l.ranges.items _ l.values.items _ l.memory c.store_apart.new.memory words start some c.self.invariant c.in_ok-store_apart.ensures.ranges c.in_ok-store_apart.ensures.values in
    λ i. record {
      memory = (c.in_ok-store_apart.ensures.memory ∙ ap (λ (p : LocalParts). memory_written p.memory start words) c.self.view_is) i;
      stores = (made.1 ∙ ap (λ (p : LocalParts). p.stores ++ records start words) c.self.view_is) i;
    }

pub add_words-requires-clause-fits : goal.add_words-requires-clause-fits
add_words-requires-clause-fits c =
    let l = c.self.inside in
    let words = c.args.words.now in
    let some : 0 < length words = grind (arith, nat_tests) in
    let long : length l.memory ≡ length c.args.self.now.memory = ap (λ (p : LocalParts). length p.memory) c.self.view_is in
    let inside : length words ≤ length l.memory - c.args.start = omega (arith, c.requires.inside, long) in
    let go = goes_on l.ranges.items _ l.values.items _ c.args.start _ c.as_slice.ensures.value c.as_slice-2.ensures.value c.if-not-go_on.false c.go_on.ensures in
    rw c.in_ok-reserve.ensures.items (omega (arith, last_len-on l.ranges.items l.values.items l.memory words c.args.start go some inside, c.requires.short, long))

pub returns-clause-ok : goal.returns-clause-ok
returns-clause-ok c =
    let l = c.self.inside in
    let start = c.args.start in
    let words = c.args.words.now in
    let some : 0 < length words = grind (arith, nat_tests) in
    let long : length l.memory ≡ length c.args.self.now.memory = ap (λ (p : LocalParts). length p.memory) c.self.view_is in
    let inside : length words ≤ length l.memory - start = omega (arith, c.requires.inside, long) in
    let go = goes_on l.ranges.items _ l.values.items _ start _ c.as_slice.ensures.value c.as_slice-2.ensures.value c.if-not-go_on.false c.go_on.ensures in
    let more = c.add_words.ensures ∙ ap (λ (rs : List Range). longer rs start (length words)) c.in_ok-reserve.ensures.items in
    let made = stored-on l.ranges.items _ l.values.items l.memory _ words start go some inside c.self.invariant more c.in_ok-write.ensures.written in
    λ i. record {
      memory = (c.in_ok-write.ensures.written ∙ ap (λ (p : LocalParts). memory_written p.memory start words) c.self.view_is) i;
      stores = (made.1 ∙ ap (λ (p : LocalParts). p.stores ++ records start words) c.self.view_is) i;
    }
