-- Memories of several processes: a column of the full pages of each, and beside it the words behind those.
use Rattle.std.proofs.Common.{◌≡◌, ◌≢◌, ◌<◌, ◌≤◌, ◌+◌, ℕ, ◌-◌, inl, inr, List, [], ◌∷◌, ◌++◌, length, get_or, drop, set, refl, sym, ap, subst, ◌∙◌, arith}
use Rattle.std.specs.Prelude.{slice_range}
use Rattle.std.proofs.Math.ListN.{length-set}
use Rattle.std.proofs.lemmas.Bool.{cases_eq, cases_lt}
use Rattle.std.proofs.lemmas.List.{get_or-set_same, get_or-set_other, get_or_append_left, get_or-append_right, get_or-take, get_or-drop, length-append, ext_get_or}
use Rattle.std.proofs.lemmas.List.Edits.{length-between}
use Rattle.std.proofs.lemmas.List.FromFn.{length-map-range_with_len, get_or-map-range_with_len}
use Rattle.bsp_model.specs.Columns.{row_at, IsPut, AreTaken}
use Rattle.bsp_model.specs.Inside.Pages.{words_of, HasPages}
use Rattle.bsp_model.specs.Inside.Memories.{count_of, memory_of, memories_of, ArePaged}
use Rattle.bsp_model.proofs.Pages.{words_len}

pub length-memories_of : (pages : List (List (List ℕ))) (lasts : List (List ℕ)) → length (memories_of pages lasts) ≡ length lasts
unfolding memories_of
length-memories_of pages lasts = length-map-range_with_len (λ k. memory_of (row_at pages k) (row_at lasts k)) 0 (length lasts)

pub no_memories : memories_of [] [] ≡ []
unfolding memories_of
no_memories = refl

-- the memory of a process
pub memory_at : (pages : List (List (List ℕ))) (lasts : List (List ℕ)) (k : ℕ) → k < length lasts → get_or (memories_of pages lasts) k [] ≡ memory_of (row_at pages k) (row_at lasts k)
unfolding memories_of
memory_at pages lasts k within = get_or-map-range_with_len (λ i. memory_of (row_at pages i) (row_at lasts i)) 0 (length lasts) k k [] within (omega arith)

-- these are the memories, if each of them is
memories_are : (pages : List (List (List ℕ))) (lasts memories : List (List ℕ)) → length memories ≡ length lasts → ((k : ℕ) → k < length lasts → memory_of (row_at pages k) (row_at lasts k) ≡ get_or memories k []) → memories_of pages lasts ≡ memories
memories_are pages lasts memories long each =
    ext_get_or [] (memories_of pages lasts) memories (length-memories_of pages lasts ∙ sym long)
    (λ k within. let inside : k < length lasts = omega (arith, within, length-memories_of pages lasts) in memory_at pages lasts k inside ∙ each k inside)

-- What is known of the memory of a process.
pub record IsMemory (pages : List (List (List ℕ))) (lasts : List (List ℕ)) (memories : List (List ℕ)) (pid : ℕ) : Type 0 where
  pub within : pid < length lasts
  pub has : HasPages (row_at pages pid) (row_at lasts pid) (count_of (row_at pages pid) (row_at lasts pid))
  pub is : memory_of (row_at pages pid) (row_at lasts pid) ≡ get_or memories pid []
  pub long : length (get_or memories pid []) ≡ count_of (row_at pages pid) (row_at lasts pid)

pub memory_of_process : (pages : List (List (List ℕ))) (lasts memories : List (List ℕ)) (pid : ℕ) → ArePaged pages lasts → memories_of pages lasts ≡ memories → pid < length memories → IsMemory pages lasts memories pid
memory_of_process pages lasts memories pid are is within =
    let there : pid < length lasts = omega (arith, within, length-memories_of pages lasts, ap length is) in
    let same : memory_of (row_at pages pid) (row_at lasts pid) ≡ get_or memories pid [] = sym (memory_at pages lasts pid there) ∙ ap (λ (ms : List (List ℕ)). get_or ms pid []) is in
    record { within = there; has = are pid there; is = same; long = sym (words_len _ _ _ _ same) }

-- what is known of full pages and last words holds of the same ones
same_has : (full full' : List (List ℕ)) (last last' : List ℕ) → full' ≡ full → last' ≡ last → HasPages full last (count_of full last) → HasPages full' last' (count_of full' last')
same_has full full' last last' pages words has = rw (pages, words) has

same_memory : (full full' : List (List ℕ)) (last last' : List ℕ) → full' ≡ full → last' ≡ last → memory_of full' last' ≡ memory_of full last
same_memory full full' last last' pages words = rw (pages, words) refl

-- The full pages of processes that have no last words don't matter.

pub ArePaged-same : (pages pages' : List (List (List ℕ))) (lasts : List (List ℕ)) → ArePaged pages lasts → ((k : ℕ) → k < length lasts → row_at pages' k ≡ row_at pages k) → ArePaged pages' lasts
ArePaged-same pages pages' lasts are before k within = same_has (row_at pages k) (row_at pages' k) (row_at lasts k) (row_at lasts k) (before k within) refl (are k within)

pub memories_of-same : (pages pages' : List (List (List ℕ))) (lasts memories : List (List ℕ)) → memories_of pages lasts ≡ memories → ((k : ℕ) → k < length lasts → row_at pages' k ≡ row_at pages k) → memories_of pages' lasts ≡ memories
memories_of-same pages pages' lasts memories is before =
    memories_are pages' lasts memories (sym (ap length is) ∙ length-memories_of pages lasts)
    (λ k within.
    same_memory (row_at pages k) (row_at pages' k) (row_at lasts k) (row_at lasts k) (before k within) refl
    ∙ sym (memory_at pages lasts k within)
    ∙ ap (λ (ms : List (List ℕ)). get_or ms k []) is)

-- memories behind others

ArePaged-append : (pages pages' : List (List (List ℕ))) (lasts others : List (List ℕ)) (full : ℕ → List (List ℕ)) → ArePaged pages lasts
    → ((k : ℕ) → k < length lasts → row_at pages' k ≡ row_at pages k)
    → ((j : ℕ) → j < length others → row_at pages' (length lasts + j) ≡ full j)
    → ((j : ℕ) → j < length others → HasPages (full j) (row_at others j) (count_of (full j) (row_at others j)))
    → ArePaged pages' (lasts ++ others)
ArePaged-append pages pages' lasts others full are before behind also k within =
    elim (cases_lt k (length lasts)) [
      | inl below ↦ same_has (row_at pages k) (row_at pages' k) (row_at lasts k) (row_at (lasts ++ others) k) (before k below) (get_or_append_left lasts others [] k below) (are k below)
      | inr above ↦
          let j = k - length lasts in
          let inside : j < length others = omega (arith, within, length-append lasts others) in
          let there : k ≡ length lasts + j = omega arith in
          same_has (full j) (row_at pages' k) (row_at others j) (row_at (lasts ++ others) k) (ap (row_at pages') there ∙ behind j inside) (get_or-append_right lasts others (length lasts) k [] refl above)
          (also j inside)
    ]

memories_of-append : (pages pages' : List (List (List ℕ))) (lasts others memories more : List (List ℕ)) (full : ℕ → List (List ℕ)) → memories_of pages lasts ≡ memories
    → ((k : ℕ) → k < length lasts → row_at pages' k ≡ row_at pages k)
    → ((j : ℕ) → j < length others → row_at pages' (length lasts + j) ≡ full j)
    → length more ≡ length others
    → ((j : ℕ) → j < length others → memory_of (full j) (row_at others j) ≡ get_or more j [])
    → memories_of pages' (lasts ++ others) ≡ memories ++ more
memories_of-append pages pages' lasts others memories more full is before behind long each =
    let count : length memories ≡ length lasts = sym (ap length is) ∙ length-memories_of pages lasts in
    memories_are pages' (lasts ++ others) (memories ++ more) (omega (arith, length-append memories more, length-append lasts others, long, count))
    (λ k within.
    elim (cases_lt k (length lasts)) [
      | inl below ↦
          same_memory (row_at pages k) (row_at pages' k) (row_at lasts k) (row_at (lasts ++ others) k) (before k below) (get_or_append_left lasts others [] k below)
          ∙ sym (memory_at pages lasts k below)
          ∙ ap (λ (ms : List (List ℕ)). get_or ms k []) is
          ∙ sym (get_or_append_left memories more [] k (omega (arith, below, count)))
      | inr above ↦
          let j = k - length lasts in
          let inside : j < length others = omega (arith, within, length-append lasts others) in
          let there : k ≡ length lasts + j = omega arith in
          same_memory (full j) (row_at pages' k) (row_at others j) (row_at (lasts ++ others) k) (ap (row_at pages') there ∙ behind j inside) (get_or-append_right lasts others (length lasts) k [] refl above)
          ∙ each j inside
          ∙ sym (get_or-append_right memories more (length lasts) k [] count above)
    ])

-- the memories between two processes

at_between : {X : Type 0} (rows : List (List X)) (from to j : ℕ) → j < to - from → row_at (slice_range rows from to) j ≡ row_at rows (from + j)
at_between rows from to j inside = get_or-take (to - from) (drop from rows) j [] inside ∙ get_or-drop from rows j []

-- the full pages of the processes behind the others
taken_behind : (pages more pages' : List (List (List ℕ))) (n from to j : ℕ) → AreTaken [] (row_at pages) n (row_at more) from to (row_at pages') → j < to - from → row_at pages' (n + j) ≡ row_at more (from + j)
taken_behind pages more pages' n from to j taken inside =
    let same : (n + j) - n ≡ j = omega arith in
    taken.taken (n + j) (omega arith) (omega (arith, inside)) ∙ ap (λ (i : ℕ). row_at more (from + i)) same

pub ArePaged-more : (pages more pages' : List (List (List ℕ))) (lasts others : List (List ℕ)) (from to : ℕ) → to ≤ length others → ArePaged pages lasts → ArePaged more others
    → AreTaken [] (row_at pages) (length lasts) (row_at more) from to (row_at pages')
    → ArePaged pages' (lasts ++ slice_range others from to)
ArePaged-more pages more pages' lasts others from to within are also taken =
    let long = length-between others from to within in
    ArePaged-append pages pages' lasts (slice_range others from to) (λ j. row_at more (from + j)) are taken.before
    (λ j inside. taken_behind pages more pages' (length lasts) from to j taken (omega (arith, inside, long)))
    (λ j inside.
    let there : j < to - from = omega (arith, inside, long) in
    same_has (row_at more (from + j)) (row_at more (from + j)) (row_at others (from + j)) (row_at (slice_range others from to) j) refl (at_between others from to j there) (also (from + j) (omega (arith, there, within))))

pub memories_of-more : (pages more pages' : List (List (List ℕ))) (lasts others memories others' : List (List ℕ)) (from to : ℕ) → to ≤ length others → memories_of pages lasts ≡ memories → memories_of more others ≡ others'
    → AreTaken [] (row_at pages) (length lasts) (row_at more) from to (row_at pages')
    → memories_of pages' (lasts ++ slice_range others from to) ≡ memories ++ slice_range others' from to
memories_of-more pages more pages' lasts others memories others' from to within is also taken =
    let long = length-between others from to within in
    let count : length others' ≡ length others = sym (ap length also) ∙ length-memories_of more others in
    memories_of-append pages pages' lasts (slice_range others from to) memories (slice_range others' from to) (λ j. row_at more (from + j)) is taken.before
    (λ j inside. taken_behind pages more pages' (length lasts) from to j taken (omega (arith, inside, long)))
    (length-between others' from to (omega (arith, within, count)) ∙ sym long)
    (λ j inside.
    let there : j < to - from = omega (arith, inside, long) in
    same_memory (row_at more (from + j)) (row_at more (from + j)) (row_at others (from + j)) (row_at (slice_range others from to) j) refl (at_between others from to j there)
    ∙ sym (memory_at more others (from + j) (omega (arith, there, within)))
    ∙ ap (λ (ms : List (List ℕ)). get_or ms (from + j) []) also
    ∙ sym (at_between others' from to j there))

-- one memory more

pub ArePaged-push : (pages pages' : List (List (List ℕ))) (lasts : List (List ℕ)) (full : List (List ℕ)) (last : List ℕ) (len : ℕ) → ArePaged pages lasts → IsPut [] (row_at pages) (length lasts) full (row_at pages') → HasPages full last len
    → ArePaged pages' (lasts ++ last ∷ [])
ArePaged-push pages pages' lasts full last len are put has =
    ArePaged-append pages pages' lasts (last ∷ []) (λ j. full) are put.before
    (λ j inside. let here : length lasts + j ≡ length lasts = omega (arith, inside) in ap (row_at pages') here ∙ put.there)
    (λ j inside.
    let first : j ≡ 0 = omega (arith, inside) in
    same_has full full last (row_at (last ∷ []) j) refl (ap (row_at (last ∷ [])) first) (subst (HasPages full last) has.count has))

pub memories_of-push : (pages pages' : List (List (List ℕ))) (lasts memories : List (List ℕ)) (full : List (List ℕ)) (last words : List ℕ) (len : ℕ) → memories_of pages lasts ≡ memories → IsPut [] (row_at pages) (length lasts) full (row_at pages')
    → HasPages full last len → words_of full last len ≡ words → memories_of pages' (lasts ++ last ∷ []) ≡ memories ++ words ∷ []
memories_of-push pages pages' lasts memories full last words len is put has made =
    memories_of-append pages pages' lasts (last ∷ []) memories (words ∷ []) (λ j. full) is put.before
    (λ j inside. let here : length lasts + j ≡ length lasts = omega (arith, inside) in ap (row_at pages') here ∙ put.there)
    refl
    (λ j inside.
    let first : j ≡ 0 = omega (arith, inside) in
    same_memory full full last (row_at (last ∷ []) j) refl (ap (row_at (last ∷ [])) first)
    ∙ ap (words_of full last) (sym has.count)
    ∙ made
    ∙ sym (ap (row_at (words ∷ [])) first))

-- the memory of one process is another

pub ArePaged-set : (pages pages' : List (List (List ℕ))) (lasts : List (List ℕ)) (i : ℕ) (full : List (List ℕ)) (last : List ℕ) → ArePaged pages lasts → i < length lasts
    → ((k : ℕ) → k ≢ i → row_at pages' k ≡ row_at pages k) → row_at pages' i ≡ full → HasPages full last (count_of full last) → ArePaged pages' (set lasts i last)
ArePaged-set pages pages' lasts i full last are there other now has k within =
    elim (cases_eq k i) [
      | inl same ↦
          same_has full (row_at pages' k) last (row_at (set lasts i last) k) (ap (row_at pages') same ∙ now) (ap (row_at (set lasts i last)) same ∙ get_or-set_same lasts i last [] there) has
      | inr apart ↦
          same_has (row_at pages k) (row_at pages' k) (row_at lasts k) (row_at (set lasts i last) k) (other k apart) (get_or-set_other lasts i k last [] apart) (are k (omega (arith, within, length-set lasts i last)))
    ]

pub memories_of-set : (pages pages' : List (List (List ℕ))) (lasts memories : List (List ℕ)) (i : ℕ) (full : List (List ℕ)) (last : List ℕ) → memories_of pages lasts ≡ memories → i < length lasts
    → ((k : ℕ) → k ≢ i → row_at pages' k ≡ row_at pages k) → row_at pages' i ≡ full → memories_of pages' (set lasts i last) ≡ set memories i (memory_of full last)
memories_of-set pages pages' lasts memories i full last is there other now =
    let count : length memories ≡ length lasts = sym (ap length is) ∙ length-memories_of pages lasts in
    let new = set memories i (memory_of full last) in
    memories_are pages' (set lasts i last) new (omega (arith, count, length-set lasts i last, length-set memories i (memory_of full last)))
    (λ k within.
    elim (cases_eq k i) [
      | inl same ↦
          same_memory full (row_at pages' k) last (row_at (set lasts i last) k) (ap (row_at pages') same ∙ now) (ap (row_at (set lasts i last)) same ∙ get_or-set_same lasts i last [] there)
          ∙ sym (ap (row_at new) same ∙ get_or-set_same memories i (memory_of full last) [] (omega (arith, there, count)))
      | inr apart ↦
          same_memory (row_at pages k) (row_at pages' k) (row_at lasts k) (row_at (set lasts i last) k) (other k apart) (get_or-set_other lasts i k last [] apart)
          ∙ sym (memory_at pages lasts k (omega (arith, within, length-set lasts i last)))
          ∙ ap (λ (ms : List (List ℕ)). get_or ms k []) is
          ∙ sym (get_or-set_other memories i k (memory_of full last) [] apart)
    ])
