-- Writes over a memory, in order, give the word of the last one that covers.
use Rattle.std.proofs.Common.{◌≡◌, ℕ, ◌+◌, ◌-◌, ◌<◌, ◌≤◌, ◌&&◌, Bool, true, false, cond, Option, Some, None, List, [], ◌∷◌, ◌++◌, map, take, drop, length, nat_le, nat_lt, refl, sym, ◌∙◌, ap, arith, get_or}
use Rattle.std.proofs.lemmas.Bool.{le-leb}
use Rattle.std.proofs.lemmas.Bool.Decides.{nat_tests}
use Rattle.std.proofs.lemmas.List.{take_more, map-append, length-append, length-take, length-drop}
use Rattle.std.proofs.lemmas.List.FromFn.{length-map-range_with_len, get_or-map-range_with_len, fill_by_all}
use Rattle.std.proofs.lemmas.Grind.{common_steps}
use Rattle.bsp_model.specs.Memory.{memory_written}
use Rattle.bsp_model.specs.declared.request.Get.{Get}
use Rattle.bsp_step.specs.OutcomeParts.{OutcomeParts, outcome_of}
use Rattle.bsp_deliver.specs.Requests.{each_below, words_read}
use Rattle.bsp_deliver.specs.Delivery.{DeliveryParts, Write, put_write, get_write, later, last_of, covers, word_of, written, next_word, next_memory}
use Rattle.bsp_deliver.specs.Inside.Gathering.{overlay}

pub each_below-same : (n : ℕ) (f g : ℕ → ℕ) → ((a : ℕ) → a < n → f a ≡ g a) → each_below n f ≡ each_below n g
each_below-same n f g h =
    fill_by_all g (each_below n f) n 0 (length-map-range_with_len f 0 n) (λ k l. get_or-map-range_with_len f 0 n k k 0 l (omega arith) ∙ h k l)

later_assoc : {X : Type 0} (x y z : Option X) → later (later x y) z ≡ later x (later y z)
later_assoc x y None = refl
later_assoc x y (Some z) = refl

later-none : {X : Type 0} (x : Option X) → later None x ≡ x
later-none None = refl
later-none (Some x) = refl

last_of-append : {X : Type 0} (test : X → Bool) (xs ys : List X) → last_of test (xs ++ ys) ≡ later (last_of test xs) (last_of test ys)
last_of-append test [] ys = sym (later-none (last_of test ys))
last_of-append test (x ∷ xs) ys =
    ap (λ o. later (cond (test x) (Some x) None) o) (last_of-append test xs ys) ∙ sym (later_assoc (cond (test x) (Some x) None) (last_of test xs) (last_of test ys))

word_of-later : (a word : ℕ) (x y : Option Write) → word_of a (later x y) word ≡ word_of a y (word_of a x word)
word_of-later a word x None = refl
word_of-later a word x (Some y) = refl

pub written-append : (xs ys : List Write) (a word : ℕ) → written (xs ++ ys) a word ≡ written ys a (written xs a word)
written-append xs ys a word =
    ap (λ o. word_of a o word) (last_of-append (covers a) xs ys) ∙ word_of-later a word (last_of (covers a) xs) (last_of (covers a) ys)

pub length-overlay : (m : List ℕ) (ws : List Write) → length (overlay m ws) ≡ length m
length-overlay m ws = length-map-range_with_len (λ a. written ws a (get_or m a 0)) 0 (length m)

pub get_or-overlay : (m : List ℕ) (ws : List Write) (a : ℕ) → a < length m → get_or (overlay m ws) a 0 ≡ written ws a (get_or m a 0)
get_or-overlay m ws a l = get_or-map-range_with_len (λ k. written ws k (get_or m k 0)) 0 (length m) a a 0 l (omega arith)

-- writes over writes are the writes in a row
pub overlay-overlay : (m : List ℕ) (xs ys : List Write) → overlay (overlay m xs) ys ≡ overlay m (xs ++ ys)
overlay-overlay m xs ys =
    ap (λ n. each_below n (λ a. written ys a (get_or (overlay m xs) a 0))) (length-overlay m xs)
    ∙ each_below-same (length m) (λ a. written ys a (get_or (overlay m xs) a 0)) (λ a. written (xs ++ ys) a (get_or m a 0))
    (λ a l. ap (written ys a) (get_or-overlay m xs a l) ∙ sym (written-append xs ys a (get_or m a 0)))

pub overlay-none : (m : List ℕ) → overlay m [] ≡ m
overlay-none m = sym (fill_by_all (λ a. get_or m a 0) m (length m) 0 refl (λ k l. refl))

-- one write alone
written-one : (w : Write) (a word : ℕ) → written (w ∷ []) a word ≡ cond (covers a w) (get_or w.words (a - w.start) 0) word
written-one w a word = elim (covers a w) as (λ b. word_of a (later (cond b (Some w) None) None) word ≡ cond b (get_or w.words (a - w.start) 0) word) [ true ↦ refl | false ↦ refl ]

-- a memory's write is the overlay of one write
written_at : (m ws : List ℕ) (start a : ℕ) → start + length ws ≤ length m → a < length m
    → get_or (take start m ++ ws ++ drop (start + length ws) m) a 0 ≡ cond (nat_le start a && nat_lt a (start + length ws)) (get_or ws (a - start) 0) (get_or m a 0)
written_at m ws start a h l = grind (arith, common_steps, nat_tests)

pub memory_written-overlay : (m ws : List ℕ) (start : ℕ) → start + length ws ≤ length m → memory_written m start ws ≡ overlay m (record { start = start; words = ws } ∷ [])
memory_written-overlay m ws start h =
    ap (λ b. cond b (take start m ++ ws ++ drop (start + length ws) m) m) (le-leb (start + length ws) (length m) h)
    ∙ fill_by_all (λ a. written (record { start = start; words = ws } ∷ []) a (get_or m a 0)) (take start m ++ ws ++ drop (start + length ws) m) (length m) 0
    (omega (arith, length-append (take start m ++ ws) (drop (start + length ws) m), length-append (take start m) ws, length-take start m, length-drop (start + length ws) m))
    (λ a l. written_at m ws start a h l ∙ sym (written-one (record { start = start; words = ws }) a (get_or m a 0)))

-- one write more of a list
pub overlay-more : {R : Type 0} (f : R → Write) (m : List ℕ) (xs : List R) (i : ℕ) (x : R) → i < length xs → x ≡ get_or xs i x
    → overlay (overlay m (map f (take i xs))) (f x ∷ []) ≡ overlay m (map f (take (i + 1) xs))
overlay-more f m xs i x l e =
    overlay-overlay m (map f (take i xs)) (f x ∷ [])
    ∙ ap (overlay m) (sym (map-append f (take i xs) (x ∷ [])) ∙ ap (λ y. map f (take i xs ++ y ∷ [])) e ∙ ap (map f) (sym (take_more xs i x l)))

-- the gets' words, and the puts over them
pub overlay-next_memory : (parts : DeliveryParts) → overlay (overlay parts.memory (map get_write parts.gets)) (map put_write parts.puts) ≡ next_memory parts
unfolding next_memory
overlay-next_memory parts =
    overlay-overlay parts.memory (map get_write parts.gets) (map put_write parts.puts)
    ∙ each_below-same (length parts.memory) _ (next_word parts) (λ a l. written-append (map get_write parts.gets) (map put_write parts.puts) a (get_or parts.memory a 0))

pub length-each_below : {X : Type 0} (n : ℕ) (f : ℕ → X) → length (each_below n f) ≡ n
length-each_below n f = length-map-range_with_len f 0 n

pub length-words_read : (os : List OutcomeParts) (g : Get) → length (words_read os g) ≡ g.len
length-words_read os g = length-each_below g.len (λ i. get_or (outcome_of os g.owner).memory (g.start + i) 0)

pub length-next_memory : (parts : DeliveryParts) → length (next_memory parts) ≡ length parts.memory
unfolding next_memory
length-next_memory parts = length-each_below (length parts.memory) (next_word parts)

-- the words that a get reads
pub get_written : (os : List OutcomeParts) (g : Get) (m words : List ℕ) → g.into + g.len ≤ length m → words ≡ words_read os g → memory_written m g.into words ≡ overlay m (get_write (g, words_read os g) ∷ [])
get_written os g m words room words_is =
    let fits : g.into + length (words_read os g) ≤ length m = omega (arith, room, length-words_read os g) in
    ap (memory_written m g.into) words_is ∙ memory_written-overlay m (words_read os g) g.into fits
