-- Whole results are read back from their lines, and from the lines of their changes.
use Rattle.std.proofs.Common.{◌≡◌, ◌<◌, ◌≤◌, ◌+◌, ◌^◌, ℕ, nat_eq, cond, suc, Bool, true, false, List, [], ◌∷◌, ◌++◌, length, map, drop, codes, Option, None, Some, refl, sym, ap, ◌∙◌, subst, arith, append_assoc, append-nil}
use Rattle.std.specs.Prelude.{IfSome}
use Rattle.std.specs.Bool.{Decides}
use Rattle.std.specs.List.{AllZip}
use Rattle.std.proofs.lemmas.Fmt.{decimal_injective}
use Rattle.std.proofs.lemmas.Slice.Zip.{AllZip-long}
use Rattle.bsp_model.specs.declared.cost.CostRow.{CostRow}
use Rattle.bsp_run.specs.declared.result.RunResult.{RunResult}
use Rattle.bsp_engine.specs.Changes.{Changes, changes_lines, changes_of, count_line, other_lines, other_number, others, piece_if, same_lines, same_row}
use Rattle.bsp_model.specs.Same.{same_words}
use Rattle.bsp_text.specs.Lines.{fields, line, numbered}
use Rattle.bsp_engine.specs.Text.{cost_line, memory_line, print_lines, result_lines, status_lines, update_lines}
use Rattle.bsp_engine.specs.Whole.{IsCounted, TextsTellTheRest, count_with, items_with, numbers_of}
use Rattle.bsp_deliver.proofs.SameDelivery.{Decides-words}
use Rattle.bsp_engine.proofs.LineEnds.{AreFrom-test, same_fields, same_numbers}
use Rattle.bsp_engine.proofs.ItemsRead.{IsBehind, Told, items_alike, section_read}
use Rattle.bsp_engine.proofs.LinesRead.{AlikeLines, HeadFrom, HeadFrom-section, costs_read, costs_shown, memories_read, memories_shown, numbers_in, printing_read, printing_shown, status_read}
use Rattle.bsp_engine.proofs.WholeAgain.{Decides-lines, Decides-row, counted, whole_items}

abbrev AlikeWords : List ℕ → List ℕ → Type 0
AlikeWords ws vs = fields ws ≡ fields vs

abbrev AlikeRows : CostRow → CostRow → Type 0
AlikeRows a b = fields (numbers_in a) ≡ fields (numbers_in b)

-- ---- the end of a result: the number of supersteps, where it is told, and the total

abbrev end_of : Option ℕ → ℕ → List ℕ → List ℕ
end_of count total rest = count_line count ++ (line (codes "total") (total ∷ []) ++ rest)

end_head : (count : Option ℕ) (total : ℕ) (rest : List ℕ) → HeadFrom 3 (end_of count total rest)
end_head None total rest = omega arith
end_head (Some n) total rest = omega arith

end_behind : (count : Option ℕ) (total : ℕ) (rest : List ℕ) → IsBehind cost_line (end_of count total rest)
end_behind None total rest = λ n l row later e. let a : ℕ = 116 in let b : ℕ = 99 in let heads : a ≡ b = cc in omega arith
end_behind (Some k) total rest = λ n l row later e. let a : ℕ = 115 in let b : ℕ = 32 in let letters : a ≡ b = cc in omega arith

total_read : (total other : ℕ) (rest tail : List ℕ) → line (codes "total") (total ∷ []) ++ rest ≡ line (codes "total") (other ∷ []) ++ tail → (line (codes "total") (total ∷ []) ≡ line (codes "total") (other ∷ [])) × (rest ≡ tail)
total_read total other rest tail e =
    let cut = same_fields (codes "total") (total ∷ []) (other ∷ []) rest tail (AreFrom-test 11 (codes "total") refl) e in
    (ap (λ t. (codes "total" ++ t) ++ 10 ∷ []) cut.0, cut.1)

abbrev IsFew : Option ℕ → Type 0
IsFew count = IfSome count (λ n. n < 2 ^ 64)

no_count : (n total other : ℕ) (rest tail : List ℕ) → end_of (Some n) total rest ≡ end_of None other tail → ⊥
no_count n total other rest tail e = let a : ℕ = 99 in let b : ℕ = 116 in let heads : a ≡ b = cc in omega arith

end_read : (c d : Option ℕ) (total other : ℕ) (rest tail : List ℕ) → IsFew c → IsFew d → end_of c total rest ≡ end_of d other tail
    → (c ≡ d) × ((line (codes "total") (total ∷ []) ≡ line (codes "total") (other ∷ [])) × (rest ≡ tail))
end_read None None total other rest tail f g e = (refl, total_read total other rest tail e)
end_read None (Some m) total other rest tail f g e = absurd (no_count m other total tail rest (sym e))
end_read (Some n) None total other rest tail f g e = absurd (no_count n total other rest tail e)
end_read (Some n) (Some m) total other rest tail f g e =
    let cut = same_fields (codes "costs") (n ∷ []) (m ∷ []) (line (codes "total") (total ∷ []) ++ rest) (line (codes "total") (other ∷ []) ++ tail) (AreFrom-test 11 (codes "costs") refl) e in
    (ap (λ k. Some k) (decimal_injective n m f g (same_numbers n m [] [] cut.0).0), total_read total other rest tail cut.1)

-- ---- the lines of changes

abbrev costs_on : Changes → List ℕ → List ℕ
costs_on c rest = numbered (piece_if cost_line) 0 c.costs ++ end_of c.supersteps c.total rest

abbrev lines_on : Changes → List ℕ → List ℕ
lines_on c rest = numbered (piece_if other_lines) 0 c.lines ++ costs_on c rest

abbrev memories_on : Changes → List ℕ → List ℕ
memories_on c rest = numbered (piece_if memory_line) 0 c.memories ++ lines_on c rest

told_parts : (c : Changes) (rest : List ℕ) → changes_lines c ++ rest ≡ status_lines c.status ++ memories_on c rest
told_parts c rest = simp append_assoc

costs_head : (c : Changes) (rest : List ℕ) → HeadFrom 3 (costs_on c rest)
costs_head c rest = HeadFrom-section cost_line 3 (λ n row later. omega arith) c.costs 0 _ (end_head c.supersteps c.total rest)

other_head : (n : ℕ) (ls : List (List ℕ)) (later : List ℕ) → HeadFrom 2 (other_lines n ls ++ later)
other_head n [] later = omega arith
other_head n (w ∷ ws) later = omega arith

HeadFrom-less : (least less : ℕ) (cs : List ℕ) → less ≤ least → HeadFrom least cs → HeadFrom less cs
HeadFrom-less least less [] l h = tt
HeadFrom-less least less (c ∷ cs) l h = omega arith

lines_head : (c : Changes) (rest : List ℕ) → HeadFrom 2 (lines_on c rest)
lines_head c rest = HeadFrom-section other_lines 2 other_head c.lines 0 _ (HeadFrom-less 3 2 (costs_on c rest) (omega arith) (costs_head c rest))

memories_head : (c : Changes) (rest : List ℕ) → HeadFrom 1 (memories_on c rest)
memories_head c rest = HeadFrom-section memory_line 1 (λ n ws later. omega arith) c.memories 0 _ (HeadFrom-less 2 1 (lines_on c rest) (omega arith) (lines_head c rest))

lines_behind : (c : Changes) (rest : List ℕ) → IsBehind memory_line (lines_on c rest)
lines_behind c rest = λ n l ws later e. let low : 2 ≤ 1 = subst (HeadFrom 2) e (lines_head c rest) in omega arith

not_printed : (text : List ℕ) (n : ℕ) (ls : List (List ℕ)) (later : List ℕ) → HeadFrom 3 text → text ≡ other_lines n ls ++ later → ⊥
not_printed text n [] later h e = let low : 3 ≤ 2 = subst (HeadFrom 3) e h in omega arith
not_printed text n (w ∷ ws) later h e = let low : 3 ≤ 2 = subst (HeadFrom 3) e h in omega arith

costs_behind : (c : Changes) (rest : List ℕ) → IsBehind other_lines (costs_on c rest)
costs_behind c rest = λ n l ls later e. not_printed (costs_on c rest) n ls later (costs_head c rest) e

record AreFew (c : Changes) : Type 0 where
  memories : length c.memories ≤ 2 ^ 64
  lines : length c.lines ≤ 2 ^ 64
  costs : length c.costs ≤ 2 ^ 64
  supersteps : IsFew c.supersteps

-- The same is told, in items that are alike, and the same stands behind it.
record AreTold (c d : Changes) (rest tail : List ℕ) : Type 0 where
  status : status_lines c.status ≡ status_lines d.status
  memories : AllZip (Told AlikeWords) (numbers_of 0 c.memories) (numbers_of 0 d.memories)
  lines : AllZip (Told AlikeLines) (numbers_of 0 c.lines) (numbers_of 0 d.lines)
  costs : AllZip (Told AlikeRows) (numbers_of 0 c.costs) (numbers_of 0 d.costs)
  supersteps : c.supersteps ≡ d.supersteps
  total : line (codes "total") (c.total ∷ []) ≡ line (codes "total") (d.total ∷ [])
  behind : rest ≡ tail

changes_read : (c d : Changes) (rest tail : List ℕ) → AreFew c → AreFew d → changes_lines c ++ rest ≡ changes_lines d ++ tail → AreTold c d rest tail
changes_read c d rest tail f g e =
    let status = status_read c.status d.status (memories_on c rest) (memories_on d tail) (memories_head c rest) (memories_head d tail) (sym (told_parts c rest) ∙ e ∙ told_parts d tail) in
    let memories = section_read memory_line AlikeWords memories_read c.memories d.memories 0 (lines_on c rest) (lines_on d tail) (omega (arith, f.memories)) (omega (arith, g.memories)) (lines_behind c rest) (lines_behind d tail) status.1 in
    let lines = section_read other_lines AlikeLines printing_read c.lines d.lines 0 (costs_on c rest) (costs_on d tail) (omega (arith, f.lines)) (omega (arith, g.lines)) (costs_behind c rest) (costs_behind d tail) memories.1 in
    let costs = section_read cost_line AlikeRows costs_read c.costs d.costs 0 (end_of c.supersteps c.total rest) (end_of d.supersteps d.total tail) (omega (arith, f.costs)) (omega (arith, g.costs)) (end_behind c.supersteps c.total rest) (end_behind d.supersteps d.total tail) lines.1 in
    let end = end_read c.supersteps d.supersteps c.total d.total rest tail f.supersteps g.supersteps costs.1 in
    record { status = status.0; memories = memories.0; lines = lines.0; costs = costs.0; supersteps = end.0; total = end.1.0; behind = end.1.1 }

-- ---- results

record AreAlike (r s : RunResult) : Type 0 where
  memories : AllZip AlikeWords r.memories s.memories
  lines : AllZip AlikeLines r.lines s.lines
  costs : AllZip AlikeRows r.costs s.costs

-- items over items that were alike, where the changes are told alike
news_alike : {A : Type 0} (Alike : A → A → Type 0) (same : A → A → Bool) → ((x y : A) → Decides (same x y) (x ≡ y)) → (olds news others_before nexts : List A) → length news ≡ length nexts → AllZip Alike olds others_before
    → AllZip (Told Alike) (numbers_of 0 (others same olds news)) (numbers_of 0 (others same others_before nexts)) → AllZip Alike news nexts
news_alike Alike same decides olds news others_before nexts long a told =
    let both = items_alike Alike (length news) 0 olds others_before (numbers_of 0 (others same olds news)) (numbers_of 0 (others same others_before nexts)) a told in
    subst (λ xs. AllZip Alike xs nexts) (whole_items same decides olds news (length news) refl)
    (subst (AllZip Alike (items_with (length news) 0 olds (numbers_of 0 (others same olds news)))) (whole_items same decides others_before nexts (length news) long) both)

length-others : {A : Type 0} (same : A → A → Bool) (olds news : List A) → length (others same olds news) ≡ length news
length-others same olds [] = refl
length-others same olds (y ∷ news) = ap suc (length-others same (drop 1 olds) news)

-- all items are told where there were none
length-all : {A : Type 0} (same : A → A → Bool) (news : List A) (n : ℕ) → length (numbers_of n (others same [] news)) ≡ length news
length-all same [] n = refl
length-all same (y ∷ news) n = ap suc (length-all same news (n + 1))

numbered_all : {A : Type 0} (piece : ℕ → A → List ℕ) (same : A → A → Bool) (news : List A) (n : ℕ) → numbered (piece_if piece) n (others same [] news) ≡ numbered piece n news
numbered_all piece same [] n = refl
numbered_all piece same (y ∷ news) n = ap (λ t. piece n y ++ t) (numbered_all piece same news (n + 1))

-- as many processes without lines
abbrev silent : List (List (List ℕ)) → List (List (List ℕ))
silent ls = map (λ _. []) ls

numbered_silent : (ls : List (List (List ℕ))) (n : ℕ) → numbered (piece_if other_lines) n (others same_lines (silent ls) ls) ≡ numbered print_lines n ls
numbered_silent [] n = refl
numbered_silent ([] ∷ ls) n = numbered_silent ls (n + 1)
numbered_silent ((w ∷ ws) ∷ ls) n = ap (λ t. print_lines n (w ∷ ws) ++ t) (numbered_silent ls (n + 1))

silent_alike : (ls ks : List (List (List ℕ))) → length ls ≡ length ks → AllZip AlikeLines (silent ls) (silent ks)
silent_alike [] [] e = tt
silent_alike [] (k ∷ ks) e = absurd (omega (arith, e))
silent_alike (l ∷ ls) [] e = absurd (omega (arith, e))
silent_alike (l ∷ ls) (k ∷ ks) e = (λ n. refl, silent_alike ls ks (omega (arith, e)))

-- the changes against a result of which nothing was told
abbrev all_of : RunResult → Changes
all_of r =
    record {
      status = r.status;
      memories = others same_words [] r.memories;
      lines = others same_lines (silent r.lines) r.lines;
      costs = others same_row [] r.costs;
      supersteps = None;
      total = r.total;
    }

all_told : (r : RunResult) → changes_lines (all_of r) ≡ result_lines r
all_told r =
    let total = line (codes "total") (r.total ∷ []) in
    ap (λ t. t ++ total) (append-nil (status_lines r.status ++ numbered (piece_if memory_line) 0 (others same_words [] r.memories) ++ numbered (piece_if other_lines) 0 (others same_lines (silent r.lines) r.lines) ++ numbered (piece_if cost_line) 0 (others same_row [] r.costs)))
    ∙ (λ i. status_lines r.status ++ numbered_all memory_line same_words r.memories 0 i ++ numbered_silent r.lines 0 i ++ numbered_all cost_line same_row r.costs 0 i ++ total)

all_few : (n : ℕ) (r : RunResult) → IsCounted n r → AreFew (all_of r)
all_few n r is =
    record {
      memories = omega (arith, is.memories, is.few, length-others same_words [] r.memories);
      lines = omega (arith, is.lines, is.few, length-others same_lines (silent r.lines) r.lines);
      costs = omega (arith, is.supersteps, length-others same_row [] r.costs);
      supersteps = tt;
    }

-- two lists of which all items are told alike
as_many : {A : Type 0} (Alike : A → A → Type 0) (same : A → A → Bool) (xs ys : List A) → AllZip (Told Alike) (numbers_of 0 (others same [] xs)) (numbers_of 0 (others same [] ys)) → length xs ≡ length ys
as_many Alike same xs ys told = sym (length-all same xs 0) ∙ sym (AllZip-long (Told Alike) (numbers_of 0 (others same [] xs)) (numbers_of 0 (others same [] ys)) told) ∙ length-all same ys 0

wholes_alike : (n m : ℕ) (r s : RunResult) (rest tail : List ℕ) → IsCounted n r → IsCounted m s → AreTold (all_of r) (all_of s) rest tail → AreAlike r s
wholes_alike n m r s rest tail is also told =
    let many = as_many AlikeWords same_words r.memories s.memories told.memories in
    let printing : length r.lines ≡ length s.lines = is.lines ∙ sym is.memories ∙ many ∙ also.memories ∙ sym also.lines in
    record {
      memories = news_alike AlikeWords same_words Decides-words [] r.memories [] s.memories many tt told.memories;
      lines = news_alike AlikeLines same_lines Decides-lines (silent r.lines) r.lines (silent s.lines) s.lines printing (silent_alike r.lines s.lines printing) told.lines;
      costs = news_alike AlikeRows same_row Decides-row [] r.costs [] s.costs (as_many AlikeRows same_row r.costs s.costs told.costs) tt told.costs;
    }

count_few : (old new : ℕ) → new < 2 ^ 64 → IsFew (other_number old new)
count_few old new l = elim (nat_eq old new) as (λ b. IsFew (cond b None (Some new))) [ true ↦ tt | false ↦ l ]

changes_few : (n : ℕ) (old new : RunResult) → IsCounted n new → AreFew (changes_of old new)
changes_few n old new is =
    record {
      memories = omega (arith, is.memories, is.few, length-others same_words old.memories new.memories);
      lines = omega (arith, is.lines, is.few, length-others same_lines old.lines new.lines);
      costs = omega (arith, is.supersteps, length-others same_row old.costs new.costs);
      supersteps = count_few (length old.costs) (length new.costs) is.supersteps;
    }

nexts_alike : (n m : ℕ) (old new other next : RunResult) (rest tail : List ℕ) → IsCounted n old → IsCounted n new → IsCounted m other → IsCounted m next → AreAlike old other → AreTold (changes_of old new) (changes_of other next) rest tail → AreAlike new next
nexts_alike n m old new other next rest tail is_old is_new is_other is_next alike told =
    let many : n ≡ m = sym is_old.memories ∙ sym (AllZip-long AlikeWords old.memories other.memories alike.memories) ∙ is_other.memories in
    let rows : length new.costs ≡ length next.costs =
    sym (counted (length old.costs) (length new.costs))
    ∙ (λ i. count_with (sym (AllZip-long AlikeRows old.costs other.costs alike.costs) i) (told.supersteps i))
    ∙ counted (length other.costs) (length next.costs) in
    record {
      memories = news_alike AlikeWords same_words Decides-words old.memories new.memories other.memories next.memories (is_new.memories ∙ many ∙ sym is_next.memories) alike.memories told.memories;
      lines = news_alike AlikeLines same_lines Decides-lines old.lines new.lines other.lines next.lines (is_new.lines ∙ many ∙ sym is_next.lines) alike.lines told.lines;
      costs = news_alike AlikeRows same_row Decides-row old.costs new.costs other.costs next.costs rows alike.costs told.costs;
    }

pub texts_tell_the_rest : TextsTellTheRest
texts_tell_the_rest places n m old new other next is_old is_new is_other is_next before after =
    let run_from = AreFrom-test 11 (codes "run") refl in
    let wholes = same_fields (codes "run") (old.number ∷ []) (other.number ∷ []) _ _ run_from before in
    let changes = same_fields (codes "run") (new.number ∷ []) (next.number ∷ []) _ _ run_from after in
    let told_before = changes_read (all_of old.result) (all_of other.result) (update_lines places old.more old.update) (update_lines places other.more other.update) (all_few n old.result is_old) (all_few m other.result is_other)
    (ap (λ t. t ++ update_lines places old.more old.update) (all_told old.result) ∙ wholes.1 ∙ sym (ap (λ t. t ++ update_lines places other.more other.update) (all_told other.result))) in
    let told = changes_read (changes_of old.result new.result) (changes_of other.result next.result) (update_lines places new.more new.update) (update_lines places next.more next.update) (changes_few n old.result new.result is_new) (changes_few m other.result next.result is_next) changes.1 in
    let alike = nexts_alike n m old.result new.result other.result next.result _ _ is_old is_new is_other is_next (wholes_alike n m old.result other.result _ _ is_old is_other told_before) told in
    λ i. ((codes "run" ++ changes.0 i) ++ 10 ∷ [])
    ++ ((told.status i ++ memories_shown new.result.memories next.result.memories alike.memories i ++ printing_shown new.result.lines next.result.lines alike.lines i
    ++ costs_shown new.result.costs next.result.costs alike.costs i ++ told.total i) ++ told.behind i)
