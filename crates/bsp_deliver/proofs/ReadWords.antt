-- The words that a get reads, piece by piece.
use Rattle.std.proofs.Common.{◌≡◌, ◌≤◌, ◌<◌, ◌+◌, ◌-◌, ◌%◌, ◌++◌, ℕ, List, [], length, take, drop, set, get_or, cond, ap, sym, ◌∙◌, arith, length-take, length-append, length-drop, append_assoc, append-nil}
use Rattle.std.proofs.Math.Seq.{take-add, take-append_seam, drop-append-add}
use Rattle.std.proofs.lemmas.Bool.{le-leb}
use Rattle.std.proofs.lemmas.List.{ext_get_or, get_or-map, get_or-take, get_or-drop, length-take-le, drop-drop, set-set, set-get_or, get_or-set_same, take-append-drop}
use Rattle.std.proofs.lemmas.List.FromFn.{fill_by_all, get_or-map-range_with_len}
use Rattle.bsp_model.specs.Memory.{memory_written, rest_of_page}
use Rattle.bsp_model.specs.declared.request.Get.{Get}
use Rattle.bsp_step.specs.OutcomeParts.{OutcomeParts, outcome_of, no_outcome}
use Rattle.bsp_deliver.specs.Readable.{IsReadable}
use Rattle.bsp_deliver.specs.Requests.{each_below, words_read}
use Rattle.bsp_deliver.proofs.Writes.{length-each_below}

-- those of a page are the next ones
pub piece_read : (memory rest words : List ℕ) (start len done here : ℕ) → rest ≡ rest_of_page memory (start + done) → here ≤ length rest → done + here ≤ len → words ≡ each_below len (λ i. get_or memory (start + i) 0)
    → take (done + here) words ≡ take done words ++ take here rest
piece_read memory rest words start len done here rest_is few within words_is =
    let n = 64 - (start + done) % 64 in
    let long : length words ≡ len = ap length words_is ∙ length-each_below len (λ i. get_or memory (start + i) 0) in
    let same : take here (drop done words) ≡ take here rest =
    ext_get_or 0 (take here (drop done words)) (take here rest)
    (length-take-le here (drop done words) (omega (arith, length-drop done words, long, within)) ∙ sym (length-take-le here rest few))
    (λ k l.
    let inside : k < here = omega (arith, l, length-take here (drop done words)) in
    let on_page : k < n = omega (arith, inside, few, ap length rest_is, length-take n (drop (start + done) memory)) in
    get_or-take here (drop done words) k 0 inside
    ∙ get_or-drop done words k 0
    ∙ ap (λ (ws : List ℕ). get_or ws (done + k) 0) words_is
    ∙ get_or-map-range_with_len (λ i. get_or memory (start + i) 0) 0 len (done + k) (done + k) 0 (omega (arith, inside, within)) (omega arith)
    ∙ ap (λ i. get_or memory i 0) (omega arith)
    ∙ sym (get_or-drop (start + done) memory k 0)
    ∙ sym (get_or-take n (drop (start + done) memory) k 0 on_page)
    ∙ sym (ap (λ (ws : List ℕ). get_or ws k 0) rest_is)
    ∙ sym (get_or-take here rest k 0 inside)) in
    take-add done here words ∙ ap (λ (ws : List ℕ). take done words ++ ws) same

-- at least one word stands on a page that is not past the end
pub some_read : (memory rest : List ℕ) (address : ℕ) → rest ≡ rest_of_page memory address → address < length memory → 0 < length rest
some_read memory rest address rest_is within =
    omega (arith, ap length rest_is, length-take (64 - address % 64) (drop address memory), length-drop address memory)

inside : (m ws : List ℕ) (start : ℕ) → start + length ws ≤ length m → memory_written m start ws ≡ take start m ++ ws ++ drop (start + length ws) m
inside m ws start fits = ap (λ b. cond b (take start m ++ ws ++ drop (start + length ws) m) m) (le-leb (start + length ws) (length m) fits)

pub length-written : (m ws : List ℕ) (start : ℕ) → start + length ws ≤ length m → length (memory_written m start ws) ≡ length m
length-written m ws start fits =
    ap length (inside m ws start fits)
    ∙ omega (arith, fits, length-append (take start m ++ ws) (drop (start + length ws) m), length-append (take start m) ws, length-take start m, length-drop (start + length ws) m)

-- words behind those that were written are written with them
pub written_on : (m xs ys : List ℕ) (start : ℕ) → start + (length xs + length ys) ≤ length m → memory_written (memory_written m start xs) (start + length xs) ys ≡ memory_written m start (xs ++ ys)
written_on m xs ys start fits =
    let k = start + length xs in
    let front = take start m ++ xs in
    let rest = drop (k + length ys) m in
    let first = memory_written m start xs in
    let both = length-append xs ys in
    let count : length front ≡ k = omega (arith, fits, length-append (take start m) xs, length-take start m) in
    let whole : first ≡ front ++ drop k m = inside m xs start (omega (arith, fits)) in
    let before : take k first ≡ front = ap (λ n. take n first) (sym count) ∙ ap (take (length front)) whole ∙ take-append_seam front (drop k m) in
    let behind : drop (k + length ys) first ≡ rest =
    ap (λ n. drop (n + length ys) first) (sym count) ∙ ap (drop (length front + length ys)) whole ∙ drop-append-add front (drop k m) (length ys) ∙ drop-drop (length ys) k m in
    let last : k + length ys ≡ start + length (xs ++ ys) = omega (arith, both) in
    inside first ys k (omega (arith, fits, length-written m xs start (omega (arith, fits))))
    ∙ ap (λ (ws : List ℕ). ws ++ ys ++ drop (k + length ys) first) before
    ∙ ap (λ (ws : List ℕ). front ++ ys ++ ws) behind
    ∙ ap (λ (ws : List ℕ). ws ++ rest) (append_assoc (take start m) xs ys)
    ∙ ap (λ n. take start m ++ (xs ++ ys) ++ drop n m) last
    ∙ sym (inside m (xs ++ ys) start (omega (arith, fits, both)))

-- where no word is written yet
pub nothing_written : (ms : List (List ℕ)) (place start : ℕ) → start ≤ length (get_or ms place []) → ms ≡ set ms place (memory_written (get_or ms place []) start [])
nothing_written ms place start fits =
    let m = get_or ms place [] in
    let end : start + length {A = ℕ} [] ≡ start = omega arith in
    sym (ap (set ms place) (inside m [] start (omega arith) ∙ ap (λ n. take start m ++ [] ++ drop n m) end ∙ ap (λ (ws : List ℕ). ws ++ drop start m) (append-nil (take start m)) ∙ take-append-drop start m) ∙ set-get_or ms place [])

-- the next piece at one place of several
pub piece_written : (first ms now : List (List ℕ)) (place start : ℕ) (xs ys zs : List ℕ) → place < length first → start + (length xs + length ys) ≤ length (get_or first place [])
    → ms ≡ set first place (memory_written (get_or first place []) start xs)
    → now ≡ set ms place (memory_written (get_or ms place []) (start + length xs) ys)
    → zs ≡ xs ++ ys
    → now ≡ set first place (memory_written (get_or first place []) start zs)
piece_written first ms now place start xs ys zs within fits ms_is now_is all =
    let old = get_or first place [] in
    let so_far = memory_written old start xs in
    let there : get_or ms place [] ≡ so_far = ap (λ (all : List (List ℕ)). get_or all place []) ms_is ∙ get_or-set_same first place so_far [] within in
    now_is
    ∙ ap (λ (m : List ℕ). set ms place (memory_written m (start + length xs) ys)) there
    ∙ ap (λ (l : List (List ℕ)). set l place (memory_written so_far (start + length xs) ys)) ms_is
    ∙ set-set first place so_far (memory_written so_far (start + length xs) ys)
    ∙ ap (set first place) (written_on old xs ys start fits)
    ∙ ap (λ (ws : List ℕ). set first place (memory_written old start ws)) (sym all)

-- those that lie together are a part of the memory
pub words_together : (memory : List ℕ) (start len : ℕ) → start + len ≤ length memory → take len (drop start memory) ≡ each_below len (λ i. get_or memory (start + i) 0)
words_together memory start len fits =
    fill_by_all (λ i. get_or memory (start + i) 0) (take len (drop start memory)) len 0 (length-take-le len (drop start memory) (omega (arith, fits, length-drop start memory)))
    (λ k l. get_or-take len (drop start memory) k 0 l ∙ get_or-drop start memory k 0)

-- a get's words stand in the owner's memory
pub readable_inside : (os : List OutcomeParts) (g : Get) → IsReadable os g → g.start + g.len ≤ length (outcome_of os g.owner).memory
readable_inside os g h = omega (arith, h.inside, get_or-map (λ (o : OutcomeParts). length o.memory) os g.owner no_outcome 0 h.known)

pub read_together : (os : List OutcomeParts) (g : Get) (memory : List ℕ) → IsReadable os g → memory ≡ (outcome_of os g.owner).memory → take g.len (drop g.start memory) ≡ words_read os g
read_together os g memory h is =
    ap (λ (m : List ℕ). take g.len (drop g.start m)) is ∙ words_together (outcome_of os g.owner).memory g.start g.len (readable_inside os g h)
