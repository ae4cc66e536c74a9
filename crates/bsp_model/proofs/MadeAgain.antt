-- Stores that are made again.
use Rattle.std.proofs.Common.{◌≡◌, ◌≤◌, ◌+◌, ◌-◌, ℕ, List, [], ◌∷◌, ◌++◌, length, take, drop, refl, sym, ap, ◌∙◌, arith, inl, inr, min}
use Rattle.std.specs.Prelude.{slice_set}
use Rattle.std.proofs.Math.ListN.{length-set}
use Rattle.std.proofs.lemmas.Bool.{cases_lt}
use Rattle.std.proofs.lemmas.Bool.Decides.{nat_tests}
use Rattle.std.proofs.lemmas.Grind.{common_steps}
use Rattle.std.proofs.lemmas.List.{set_past, take-append-drop, length-take, drop-drop}
use Rattle.std.proofs.Math.Seq.{take-add}
use Rattle.bsp_model.specs.declared.request.Store.{Store}
use Rattle.bsp_model.specs.declared.range.Range.{Range}
use Rattle.bsp_model.specs.Memory.{memory_written}
use Rattle.bsp_model.specs.Stores.{records, made_again}
use Rattle.bsp_model.specs.Inside.Ranges.{stores_of}
use Rattle.bsp_model.proofs.Ranges.{records-append}

pub length-made_again : (m : List ℕ) (stores : List Store) → length (made_again m stores) ≡ length m
length-made_again m [] = refl
length-made_again m (s ∷ later) = length-made_again (slice_set m s.addr s.value) later ∙ length-set m s.addr s.value

pub made_again-append : (m : List ℕ) (stores later : List Store) → made_again m (stores ++ later) ≡ made_again (made_again m stores) later
made_again-append m [] later = refl
made_again-append m (s ∷ stores) later = made_again-append (slice_set m s.addr s.value) stores later

-- what lies past the end is left out
past_end : (m : List ℕ) (start : ℕ) (words : List ℕ) → length m ≤ start → made_again m (records start words) ≡ m
past_end m start [] past = refl
past_end m start (word ∷ words) past =
    ap (λ (n : List ℕ). made_again n (records (start + 1) words)) (set_past m start word past) ∙ past_end m (start + 1) words (omega arith)

-- words inside the memory
inside : (m : List ℕ) (start : ℕ) (words : List ℕ) → start + length words ≤ length m → made_again m (records start words) ≡ take start m ++ words ++ drop (start + length words) m
inside m start [] within = grind (arith, common_steps)
inside m start (word ∷ words) within =
    let long : length (slice_set m start word) ≡ length m = length-set m start word in
    inside (slice_set m start word) (start + 1) words (omega arith) ∙ grind (arith, common_steps)

written : (m : List ℕ) (start : ℕ) (words : List ℕ) → length words ≤ length m - start → memory_written m start words ≡ made_again m (records start words)
written m start [] within = grind (arith, common_steps, nat_tests)
written m start (word ∷ words) within = let whole = inside m start (word ∷ words) (omega arith) in grind (arith, nat_tests)

-- The stores of words from an address on are one write of those that lie inside the memory.
pub written_inside : (m : List ℕ) (start count : ℕ) (words : List ℕ) → count ≡ min (length words) (length m - start) → memory_written m start (take count words) ≡ made_again m (records start words)
written_inside m start count words few =
    let front = take count words in
    let back = drop count words in
    let long : length front ≡ count = omega (arith, length-take count words) in
    let again = made_again m (records start front) in
    let past : made_again again (records (start + length front) back) ≡ again =
    elim (cases_lt (length m - start) (length words)) as (λ _. made_again again (records (start + length front) back) ≡ again) [
      | inl more ↦ past_end again (start + length front) back (omega (arith, long, length-made_again m (records start front)))
      | inr all ↦ let none : back ≡ [] = grind (arith, common_steps) in ap (λ (ws : List ℕ). made_again again (records (start + length front) ws)) none
    ] in
    written m start front (omega (arith, long))
    ∙ sym past
    ∙ sym (made_again-append m (records start front) (records (start + length front) back))
    ∙ ap (made_again m) (sym (records-append start front back))
    ∙ ap (λ (ws : List ℕ). made_again m (records start ws)) (take-append-drop count words)

-- the stores of a range, and then the others
pub made_again-first : (m : List ℕ) (r : Range) (later : List Range) (values : List ℕ) → made_again m (stores_of (r ∷ later) values) ≡ made_again (made_again m (records r.start (take r.len values))) (stores_of later (drop r.len values))
unfolding stores_of
made_again-first m r later values = made_again-append m (records r.start (take r.len values)) (stores_of later (drop r.len values))

-- the words of a piece of a source, and then those behind it
pub written_piece : (m source piece : List ℕ) (start left : ℕ) → piece ≡ take (length piece) (drop start source) → length piece ≤ left
    → made_again (made_again m (records start piece)) (records (start + length piece) (take (left - length piece) (drop (start + length piece) source))) ≡ made_again m (records start (take left (drop start source)))
written_piece m source piece start left there few =
    let count = length piece in
    let behind = take (left - count) (drop (start + count) source) in
    let all : count + (left - count) ≡ left = omega arith in
    let both : piece ++ behind ≡ take left (drop start source) =
    ap (λ (ws : List ℕ). ws ++ behind) there
    ∙ ap (λ (ws : List ℕ). take count (drop start source) ++ take (left - count) ws) (sym (drop-drop count start source))
    ∙ sym (take-add count (left - count) (drop start source))
    ∙ ap (λ (n : ℕ). take n (drop start source)) all in
    sym (made_again-append m (records start piece) (records (start + count) behind))
    ∙ ap (made_again m) (sym (records-append start piece behind) ∙ ap (records start) both)
