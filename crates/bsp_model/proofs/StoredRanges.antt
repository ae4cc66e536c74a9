-- The ranges that stores fill are those in which they are kept.
use Rattle.std.proofs.Common.{◌≡◌, ◌<◌, ◌+◌, ℕ, true, false, List, [], ◌∷◌, ◌++◌, length, take, drop, refl, sym, ap, ◌∙◌, subst, arith}
use Rattle.std.specs.Prelude.{◌==◌}
use Rattle.std.proofs.lemmas.Bool.Decides.{nat_tests}
use Rattle.std.proofs.lemmas.List.{length-take-le}
use Rattle.bsp_model.specs.declared.request.Store.{Store}
use Rattle.bsp_model.specs.declared.range.Range.{Range}
use Rattle.bsp_model.specs.Stores.{records}
use Rattle.bsp_model.specs.StoredRanges.{range_before, ranges_stored}
use Rattle.bsp_model.specs.Inside.Ranges.{stores_of, IsApart, AreRanges}

-- a store before ranges that do not go on behind it
before-apart : (addr : ℕ) (rs : List Range) → IsApart (record { start = addr; len = 1 }) rs → range_before addr rs ≡ record { start = addr; len = 1 } ∷ rs
before-apart addr [] apart = refl
before-apart addr (r ∷ later) apart =
    let other : (r.start == addr + 1) ≡ false = grind (arith, nat_tests) in
    rw other refl

-- a range that ends at the same place lies apart as well
apart_alike : (r q : Range) (rs : List Range) → q.start + q.len ≡ r.start + r.len → IsApart r rs → IsApart q rs
apart_alike r q [] same apart = tt
apart_alike r q (next ∷ later) same apart = λ on. apart (on ∙ same)

-- stores one behind the other are one range
ranges-records : (start word : ℕ) (words : List ℕ) (more : List Store) → IsApart (record { start = start; len = length words + 1 }) (ranges_stored more)
    → ranges_stored (records start (word ∷ words) ++ more) ≡ record { start = start; len = length words + 1 } ∷ ranges_stored more
ranges-records start word [] more apart = before-apart start (ranges_stored more) apart
ranges-records start word (next ∷ words) more apart =
    let whole : Range = record { start = start; len = length (next ∷ words) + 1 } in
    let part : Range = record { start = start + 1; len = length words + 1 } in
    let there : part.start + part.len ≡ whole.start + whole.len = omega arith in
    let same : (start + 1 == start + 1) ≡ true = grind (arith, nat_tests) in
    let count : length words + 1 + 1 ≡ length (next ∷ words) + 1 = omega arith in
    ap (range_before start) (ranges-records (start + 1) next words more (apart_alike whole part (ranges_stored more) there apart))
    ∙ (rw same (ap (λ (n : ℕ). record { start = start; len = n } ∷ ranges_stored more) count))

-- the words of a range
ranges-part : (r : Range) (words : List ℕ) (more : List Store) → 0 < r.len → length words ≡ r.len → IsApart r (ranges_stored more) → ranges_stored (records r.start words ++ more) ≡ r ∷ ranges_stored more
ranges-part r [] more some count apart = absurd (omega arith)
ranges-part r (word ∷ words) more some count apart =
    let whole : Range = record { start = r.start; len = length words + 1 } in
    let long : length words + 1 ≡ r.len = omega arith in
    let there : whole.start + whole.len ≡ r.start + r.len = omega arith in
    ranges-records r.start word words more (apart_alike r whole (ranges_stored more) there apart)
    ∙ ap (λ (n : ℕ). record { start = r.start; len = n } ∷ ranges_stored more) long

pub ranges-stores_of : (ranges : List Range) (values : List ℕ) → AreRanges ranges values → ranges_stored (stores_of ranges values) ≡ ranges
unfolding stores_of
ranges-stores_of [] values are = refl
ranges-stores_of (r ∷ later) values are =
    let more = stores_of later (drop r.len values) in
    let rest : ranges_stored more ≡ later = ranges-stores_of later (drop r.len values) are.3 in
    ranges-part r (take r.len values) more are.0 (length-take-le r.len values are.1) (subst (IsApart r) (sym rest) are.2)
    ∙ ap (λ (rs : List Range). r ∷ rs) rest
