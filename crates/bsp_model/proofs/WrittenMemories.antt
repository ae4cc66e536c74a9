-- What a write leaves of the memories of several processes.
use Rattle.std.proofs.Common.{◌≡◌, ◌≢◌, ◌≤◌, ◌<◌, ℕ, ◌+◌, ◌*◌, ◌-◌, List, [], length, get_or, set, min, refl, ap, subst, ◌∙◌, arith}
use Rattle.std.proofs.lemmas.List.{length-take, length-drop}
use Rattle.bsp_model.specs.Columns.{row_at}
use Rattle.bsp_model.specs.Memory.{memory_written}
use Rattle.bsp_model.specs.Inside.Cut.{IsCut}
use Rattle.bsp_model.specs.Inside.Pages.{words_of, AreWritten}
use Rattle.bsp_model.specs.Inside.Memories.{count_of, memories_of, ArePaged}
use Rattle.bsp_model.specs.declared.paging.Cut.{Cut}
use Rattle.bsp_model.proofs.RowReplaced.{with_part, length-with_part}
use Rattle.bsp_model.proofs.Writes.{cut_written, last_written}
use Rattle.bsp_model.proofs.PagedMemories.{IsMemory, memories_of-set, ArePaged-set, memory_of_process}

-- the parts lie in the full pages and behind them
pub cut_fits : (full behind len start : ℕ) (words : List ℕ) (cut : Cut) → IsCut full len start words cut → len ≡ full + behind → (cut.start + length cut.front.now ≤ full) × (cut.place + length cut.behind.now ≤ behind)
cut_fits full behind len start words cut is all =
    let n = min (length words) (full - start) in
    let inside = is.inside in
    let first = is.start in
    let place = is.place in
    let front : length cut.front.now ≡ min n (length words) = ap length is.front ∙ length-take n words in
    let rest : length cut.behind.now ≡ length words - n = ap length is.behind ∙ length-drop n words in
    (omega arith, omega arith)

-- the memories once that of a process is written, in these full pages and last words
memory_written_in : (pages pages' : List (List (List ℕ))) (lasts memories : List (List ℕ)) (pid : ℕ) (last' words : List ℕ) (start : ℕ) → IsMemory pages lasts memories pid → ArePaged pages lasts → memories_of pages lasts ≡ memories
    → ((k : ℕ) → k ≢ pid → row_at pages' k ≡ row_at pages k) → length (row_at pages' pid) ≡ length (row_at pages pid) → length last' ≡ length (row_at lasts pid)
    → words_of (row_at pages' pid) last' (count_of (row_at pages pid) (row_at lasts pid)) ≡ memory_written (get_or memories pid []) start words
    → ArePaged pages' (set lasts pid last') × (memories_of pages' (set lasts pid last') ≡ set memories pid (memory_written (get_or memories pid []) start words))
memory_written_in pages pages' lasts memories pid last' words start m are is other same long now =
    let full = row_at pages pid in
    let full' = row_at pages' pid in
    let small = m.has.fits in
    let all : count_of full' last' ≡ count_of full (row_at lasts pid) = omega (arith, same, long) in (
      ArePaged-set pages pages' lasts pid full' last' are m.within other refl (record { count = refl; fits = omega (arith, all, small) }),
      memories_of-set pages pages' lasts memories pid full' last' is m.within other refl ∙ ap (set memories pid) (ap (words_of full' last') all ∙ now),
    )

-- a process's new full pages and last words
pub memory_replaced : (pages pages' : List (List (List ℕ))) (lasts memories : List (List ℕ)) (pid : ℕ) (words : List ℕ) (count len start : ℕ) (cut : Cut) → ArePaged pages lasts → memories_of pages lasts ≡ memories → pid < length memories
    → count ≡ 64 * length (row_at pages pid) → len ≡ count_of (row_at pages pid) (row_at lasts pid) → IsCut count len start words cut
    → ((k : ℕ) → k ≢ pid → row_at pages' k ≡ row_at pages k) → length (row_at pages' pid) ≡ length (row_at pages pid)
    → AreWritten (row_at pages pid) cut.start cut.front.now (row_at pages' pid)
    → ArePaged pages' (set lasts pid (with_part (row_at lasts pid) cut.place cut.behind.now))
    × (memories_of pages' (set lasts pid (with_part (row_at lasts pid) cut.place cut.behind.now)) ≡ set memories pid (memory_written (get_or memories pid []) start words))
memory_replaced pages pages' lasts memories pid words count len start cut are is within count_is len_is cut_is other same changed =
    let m = memory_of_process pages lasts memories pid are is within in
    let last = row_at lasts pid in
    let last' = with_part last cut.place cut.behind.now in
    let fits = cut_fits count (length last) len start words cut cut_is (omega (arith, len_is, count_is)) in
    memory_written_in pages pages' lasts memories pid last' words start m are is other same (length-with_part last cut.behind.now cut.place fits.1)
    (cut_written (row_at pages pid) (row_at pages' pid) last last' words (get_or memories pid []) (count_of (row_at pages pid) last) count start cut m.is m.has count_is (subst (λ n. IsCut count n start words cut) len_is cut_is) same changed refl)

-- a process's new last words, where it has no full page
pub last_replaced : (pages : List (List (List ℕ))) (lasts memories : List (List ℕ)) (pid : ℕ) (words : List ℕ) (start : ℕ) → ArePaged pages lasts → memories_of pages lasts ≡ memories → pid < length memories
    → length (row_at pages pid) ≡ 0 → start + length words ≤ length (row_at lasts pid)
    → ArePaged pages (set lasts pid (with_part (row_at lasts pid) start words))
    × (memories_of pages (set lasts pid (with_part (row_at lasts pid) start words)) ≡ set memories pid (memory_written (get_or memories pid []) start words))
last_replaced pages lasts memories pid words start are is within none inside =
    let m = memory_of_process pages lasts memories pid are is within in
    let full = row_at pages pid in
    let last = row_at lasts pid in
    memory_written_in pages pages lasts memories pid (with_part last start words) words start m are is (λ k apart. refl) refl (length-with_part last words start inside)
    (last_written full last (with_part last start words) words (get_or memories pid []) (count_of full last) start m.is m.has none (omega (arith, none, inside)) refl)
