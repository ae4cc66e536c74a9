-- The words that were stored, where they are kept and where they stand in a memory.
use Rattle.std.proofs.Common.{◌≡◌, ◌<◌, ◌≤◌, ◌+◌, ◌-◌, ℕ, true, List, [], ◌∷◌, ◌++◌, length, get_or, take, drop, nat_le, refl, sym, ap, ◌∙◌, subst, arith, add-zero, zero-add, append_assoc, take-append-drop, append-nil}
use Rattle.std.specs.Prelude.{◌==◌, Bool}
use Rattle.std.specs.Bool.{OnTrue}
use Rattle.std.proofs.lemmas.Bool.Decides.{nat_tests}
use Rattle.std.proofs.lemmas.List.{map-append, length-append, length-map, length-take, length-take-le, length-drop, nil_from_length, take_all, take-take, take-append-le, drop-append-le, drop-drop, drop-take}
use Rattle.bsp_model.specs.declared.request.Store.{Store}
use Rattle.bsp_model.specs.declared.range.Range.{Range}
use Rattle.bsp_model.specs.Stores.{records, words_stored}
use Rattle.bsp_model.specs.Inside.Beside.{words_beside, stores_beside, AreBeside}
use Rattle.bsp_model.specs.Inside.Columns.{pair_at}
use Rattle.bsp_model.specs.Memory.{memory_written}
use Rattle.bsp_model.specs.Inside.Ranges.{stores_of, longer, last_len, AreRanges, GoOn}
use Rattle.bsp_model.proofs.Ranges.{AreRanges-longer, stores_of-longer}

words-records : (start : ℕ) (words : List ℕ) → words_stored (records start words) ≡ words
words-records start [] = refl
words-records start (word ∷ words) = ap (λ (ws : List ℕ). word ∷ ws) (words-records (start + 1) words)

pub words-stores_of : (ranges : List Range) (values : List ℕ) → AreRanges ranges values → words_stored (stores_of ranges values) ≡ values
unfolding stores_of
words-stores_of [] values are = sym (nil_from_length values are)
words-stores_of (r ∷ later) values are =
    map-append (λ (s : Store). s.value) (records r.start (take r.len values)) (stores_of later (drop r.len values))
    ∙ ap (λ (ws : List ℕ). ws ++ words_stored (stores_of later (drop r.len values))) (words-records r.start (take r.len values))
    ∙ ap (λ (ws : List ℕ). take r.len values ++ ws) (words-stores_of later (drop r.len values) are.3)
    ∙ take-append-drop r.len values

-- as many words as stores
pub length-words : (stores : List Store) → length (words_stored stores) ≡ length stores
length-words stores = length-map stores (λ (s : Store). s.value)

-- These words are those of the stores, range by range.
pub record HaveWords (stores : List Store) (ranges : List Range) (words : List ℕ) : Type 0 where
  pub these : words_stored stores ≡ words
  pub count : length stores ≡ length words
  pub made : stores_of ranges words ≡ stores
  pub are : AreRanges ranges words

pub have_words : (stores : List Store) (ranges : List Range) (words : List ℕ) → stores_of ranges words ≡ stores → AreRanges ranges words → HaveWords stores ranges words
have_words stores ranges words made are =
    let these : words_stored stores ≡ words = ap words_stored (sym made) ∙ words-stores_of ranges words are in
    record { these = these; count = sym (length-words stores) ∙ ap length these; made = made; are = are }

-- words that are kept

pub kept : (stores : List Store) (ranges : List Range) (values memory : List ℕ) → words_beside ranges values memory ≡ values → stores_of ranges (words_beside ranges values memory) ≡ stores → AreRanges ranges (words_beside ranges values memory)
    → HaveWords stores ranges values
kept stores ranges values memory same made are =
    subst (HaveWords stores ranges) same (have_words stores ranges (words_beside ranges values memory) made are)

pub kept_some : (ranges : List Range) (values memory : List ℕ) → 0 < length values → words_beside ranges values memory ≡ values
kept_some [] values memory some = refl
kept_some (r ∷ []) [] memory some = absurd (omega arith)
kept_some (r ∷ []) (word ∷ values) memory some = refl
kept_some (r ∷ next ∷ later) values memory some = refl

-- The stores are one range, whose words stand in a memory.
pub record StandThere (stores : List Store) (r : Range) (memory : List ℕ) : Type 0 where
  pub some : 0 < r.len
  pub inside : r.start + r.len ≤ length memory
  pub count : length stores ≡ r.len
  pub these : words_stored stores ≡ take r.len (drop r.start memory)
  pub made : records r.start (take r.len (drop r.start memory)) ≡ stores

stand_there : (stores : List Store) (r : Range) (memory : List ℕ) → stores_of (r ∷ []) (take r.len (drop r.start memory)) ≡ stores → AreRanges (r ∷ []) (take r.len (drop r.start memory)) → StandThere stores r memory
unfolding stores_of
stand_there stores r memory made are =
    let all = take r.len (drop r.start memory) in
    let have = have_words stores (r ∷ []) all made are in
    let long : length all ≤ length memory - r.start = omega (arith, length-take r.len (drop r.start memory), length-drop r.start memory) in
    let count : length all ≡ r.len = omega (arith, are.1, length-take r.len (drop r.start memory)) in
    record {
      some = are.0;
      inside = omega (arith, are.0, are.1, long);
      count = have.count ∙ count;
      these = have.these;
      made = ap (records r.start) (sym (take_all r.len all (omega (arith, count)))) ∙ sym (append-nil _) ∙ made;
    }

-- where none are kept
pub beside : (stores : List Store) (r : Range) (ranges : List Range) (values memory : List ℕ) → (ranges ≡ r ∷ []) × (values ≡ []) → stores_of ranges (words_beside ranges values memory) ≡ stores → AreRanges ranges (words_beside ranges values memory)
    → StandThere stores r memory
beside stores r ranges values memory one =
    let Beside : List Range → List ℕ → Type 0 = λ rs vs. stores_of rs (words_beside rs vs memory) ≡ stores → AreRanges rs (words_beside rs vs memory) → StandThere stores r memory in
    subst (λ rs. Beside rs values) (sym one.0) (subst (λ vs. Beside (r ∷ []) vs) (sym one.1) (stand_there stores r memory))

-- a piece of a memory is one of the words of a range there
pub piece_of_range : (memory piece : List ℕ) (start len from : ℕ) → piece ≡ take (length piece) (drop (start + from) memory) → from ≤ len → length piece ≤ len - from → piece ≡ take (length piece) (drop from (take len (drop start memory)))
piece_of_range memory piece start len from there order few =
    let left = len - from in
    let all : from + left ≡ len = omega arith in
    there
    ∙ ap (take (length piece)) (sym (drop-drop from start memory))
    ∙ sym (take-take (length piece) left (drop from (drop start memory)) few)
    ∙ ap (take (length piece)) (sym (drop-take from left (drop start memory)))
    ∙ ap (λ (n : ℕ). take (length piece) (drop from (take n (drop start memory)))) all

-- the rows of a process that are put beside a memory, if its stores have their words there
pub put_beside : (new : (List (List Range)) × (List (List ℕ))) (place : ℕ) (ranges : List Range) (values memory words : List ℕ) (stores : List Store) → pair_at new place ≡ (ranges, values) → words_beside ranges values memory ≡ words → HaveWords stores ranges words
    → AreBeside new place memory × (stores_beside new place memory ≡ stores)
put_beside new place ranges values memory words stores there same have =
    let Rows : (List Range) × (List ℕ) → Type 0 = λ pair. AreRanges pair.0 (words_beside pair.0 pair.1 memory) × (stores_of pair.0 (words_beside pair.0 pair.1 memory) ≡ stores) in
    subst Rows (sym there) (subst (AreRanges ranges) (sym same) have.are, ap (stores_of ranges) same ∙ have.made)

-- one range, whose words stand in a memory
pub stand_beside : (ranges : List Range) (memory words : List ℕ) → length ranges ≡ 1 → words ≡ take (get_or ranges 0 record { start = 0; len = 0 }).len (drop (get_or ranges 0 record { start = 0; len = 0 }).start memory)
    → words_beside ranges [] memory ≡ words
stand_beside [] memory words one there = absurd (omega arith)
stand_beside (r ∷ []) memory words one there = sym there
stand_beside (r ∷ next ∷ later) memory words one there = absurd (omega arith)

-- Words that are written to a memory stand there, and so do the words in front of them.

-- the words of a memory from an address on, once words are written there
after_write : (memory words : List ℕ) (start : ℕ) → start + length words ≤ length memory
    → memory_written memory start words ≡ take start memory ++ words ++ drop (start + length words) memory
after_write memory words start inside =
    let within : nat_le (start + length words) (length memory) ≡ true = grind (arith, nat_tests) in
    rw within refl

-- a range of it that ends behind them
written_range : (memory words : List ℕ) (from len : ℕ) → from + len + length words ≤ length memory
    → take (len + length words) (drop from (memory_written memory (from + len) words)) ≡ take len (drop from memory) ++ words
written_range memory words from len inside =
    let start = from + len in
    let rest = drop (start + length words) memory in
    let written = after_write memory words start inside in
    let front : length (take start memory) ≡ start = length-take-le start memory (omega arith) in
    let left : drop from (take start memory ++ (words ++ rest)) ≡ drop from (take start memory) ++ (words ++ rest) = drop-append-le from (take start memory) (words ++ rest) (omega (arith, front)) in
    let there : drop from (take start memory) ≡ take len (drop from memory) = drop-take from len memory in
    let long : length (take len (drop from memory)) ≡ len = length-take-le len (drop from memory) (omega (arith, length-drop from memory)) in
    let both : length (take len (drop from memory) ++ words) ≡ len + length words = omega (arith, long, length-append (take len (drop from memory)) words) in
    ap (λ (m : List ℕ). take (len + length words) (drop from m)) (written ∙ append_assoc (take start memory) words rest)
    ∙ ap (take (len + length words)) (left ∙ ap (λ (ws : List ℕ). ws ++ (words ++ rest)) there ∙ sym (append_assoc (take len (drop from memory)) words rest))
    ∙ take-append-le (len + length words) (take len (drop from memory) ++ words) rest (omega (arith, both))
    ∙ take_all (len + length words) (take len (drop from memory) ++ words) (omega (arith, both))

-- stores that go on behind the one range without words of its own
pub beside-longer : (ranges : List Range) (values memory words : List ℕ) (start : ℕ) → GoOn ranges values start → AreRanges ranges (words_beside ranges values memory) → length words ≤ length memory - start → 0 < length words
    → words_beside (longer ranges start (length words)) values (memory_written memory start words) ≡ words_beside ranges values memory ++ words
beside-longer [] [] memory words start on are inside some =
    ap (take (length words)) (ap (λ (n : ℕ). drop start (memory_written memory n words)) (sym (add-zero start))) ∙ ap (λ (n : ℕ). take n (drop start (memory_written memory (start + 0) words))) (sym (zero-add (length words))) ∙ written_range memory words start 0 (omega arith)
beside-longer [] (v ∷ values) memory words start on are inside some = absurd on
beside-longer (r ∷ []) [] memory words start on are inside some =
    let test : (start == r.start + r.len) ≡ true = grind (arith, nat_tests) in
    rw test (ap (λ (n : ℕ). take (r.len + length words) (drop r.start (memory_written memory n words))) on ∙ written_range memory words r.start r.len (omega arith))
beside-longer (r ∷ []) (v ∷ values) memory words start on are inside some = absurd on
beside-longer (r ∷ next ∷ later) values memory words start on are inside some = absurd on

pub no_stores : (ranges : List Range) (values memory : List ℕ) → ranges ≡ [] → stores_of ranges (words_beside ranges values memory) ≡ []
unfolding stores_of
no_stores ranges values memory none = ap (λ (rs : List Range). stores_of rs (words_beside rs values memory)) none

-- where words of a memory are the only ones that were stored
pub one_range : (ranges : List Range) (values memory words : List ℕ) (start len : ℕ) → ranges ≡ record { start = start; len = len } ∷ [] → values ≡ [] → memory ≡ words
    → stores_of ranges (words_beside ranges values memory) ≡ records start (take len (drop start words))
unfolding stores_of
one_range ranges values memory words start len one none same =
    let r : Range = record { start = start; len = len } in
    let all = take len (drop start words) in
    ap (λ (rs : List Range). stores_of rs (words_beside rs values memory)) one
    ∙ ap (λ (vs : List ℕ). stores_of (r ∷ []) (words_beside (r ∷ []) vs memory)) none
    ∙ ap (λ (m : List ℕ). stores_of (r ∷ []) (take len (drop start m))) same
    ∙ append-nil (records start (take len all))
    ∙ ap (records start) (take_all len all (omega (arith, length-take len (drop start words))))

-- once more words are stored
pub stores-more : (ranges ranges' : List Range) (all all' words : List ℕ) (start : ℕ) → 0 < length words → AreRanges ranges all → ranges' ≡ longer ranges start (length words) → all' ≡ all ++ words
    → AreRanges ranges' all' × (stores_of ranges' all' ≡ stores_of ranges all ++ records start words)
stores-more ranges ranges' all all' words start some are more added =
    let Made : List Range → List ℕ → Type 0 = λ rs ws. AreRanges rs ws × (stores_of rs ws ≡ stores_of ranges all ++ records start words) in
    subst (λ rs. Made rs all') (sym more) (subst (Made (longer ranges start (length words))) (sym added) (AreRanges-longer ranges all words start some are, stores_of-longer ranges all words start are))

-- apart from the words of the memory
pub stored-apart : (ranges ranges' : List Range) (values values' memory memory' words : List ℕ) (start : ℕ) → 0 < length words → AreRanges ranges (words_beside ranges values memory)
    → ranges' ≡ longer ranges start (length words) → values' ≡ words_beside ranges values memory ++ words
    → AreRanges ranges' (words_beside ranges' values' memory') × (stores_of ranges' (words_beside ranges' values' memory') ≡ stores_of ranges (words_beside ranges values memory) ++ records start words)
stored-apart ranges ranges' values values' memory memory' words start some are more added =
    let all = words_beside ranges values memory in
    let kept : words_beside ranges' values' memory' ≡ values' = kept_some ranges' values' memory' (omega (arith, some, ap length added, length-append all words)) in
    stores-more ranges ranges' all (words_beside ranges' values' memory') words start some are more (kept ∙ added)

-- where they stand in the memory
pub stored-on : (ranges ranges' : List Range) (values memory memory' words : List ℕ) (start : ℕ) → GoOn ranges values start → 0 < length words → length words ≤ length memory - start
    → AreRanges ranges (words_beside ranges values memory) → ranges' ≡ longer ranges start (length words) → memory' ≡ memory_written memory start words
    → AreRanges ranges' (words_beside ranges' values memory') × (stores_of ranges' (words_beside ranges' values memory') ≡ stores_of ranges (words_beside ranges values memory) ++ records start words)
stored-on ranges ranges' values memory memory' words start on some inside are more written =
    let there : words_beside ranges' values memory' ≡ words_beside (longer ranges start (length words)) values (memory_written memory start words) =
    ap (λ (rs : List Range). words_beside rs values memory') more ∙ ap (λ (m : List ℕ). words_beside (longer ranges start (length words)) values m) written in
    stores-more ranges ranges' (words_beside ranges values memory) (words_beside ranges' values memory') words start some are more (there ∙ beside-longer ranges values memory words start on are inside some)

-- a test that says so
pub goes_on : (ranges ranges' : List Range) (values values' : List ℕ) (start : ℕ) (go : Bool) → ranges' ≡ ranges → values' ≡ values → go ≡ true → OnTrue go (GoOn ranges' values' start) → GoOn ranges values start
goes_on ranges ranges' values values' start go same kept is_on goes =
    subst (λ (rs : List Range). GoOn rs values start) same (subst (λ (vs : List ℕ). GoOn ranges' vs start) kept (subst (λ (b : Bool). OnTrue b (GoOn ranges' values' start)) is_on goes))

pub last_len-on : (ranges : List Range) (values memory words : List ℕ) (start : ℕ) → GoOn ranges values start → 0 < length words → length words ≤ length memory - start → last_len ranges + length words ≤ length memory
last_len-on [] [] memory words start on some inside = omega arith
last_len-on [] (v ∷ values) memory words start on some inside = absurd on
last_len-on (r ∷ []) [] memory words start on some inside = omega arith
last_len-on (r ∷ []) (v ∷ values) memory words start on some inside = absurd on
last_len-on (r ∷ next ∷ later) values memory words start on some inside = absurd on

-- as much is kept where memory was refused
pub stored-none : (ranges ranges' : List Range) (values values' memory memory' : List ℕ) → AreRanges ranges (words_beside ranges values memory) → ranges' ≡ ranges → words_beside ranges values' memory ≡ words_beside ranges values memory → memory' ≡ memory
    → AreRanges ranges' (words_beside ranges' values' memory')
stored-none ranges ranges' values values' memory memory' are same kept unchanged =
    subst (λ (rs : List Range). AreRanges rs (words_beside rs values' memory')) (sym same)
    (subst (λ (m : List ℕ). AreRanges ranges (words_beside ranges values' m)) (sym unchanged) (subst (AreRanges ranges) (sym kept) are))
