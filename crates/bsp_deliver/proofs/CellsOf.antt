-- The memories of several processes, and beside them a column of their queues.
use Rattle.std.proofs.Common.{◌≡◌, ◌<◌, ◌≤◌, ◌+◌, ℕ, ◌-◌, inl, inr, List, [], ◌∷◌, ◌++◌, length, get_or, drop, map, refl, sym, ap, ◌∙◌, arith}
use Rattle.std.specs.Prelude.{slice_range}
use Rattle.std.proofs.Math.Seq.{get_or-append_seam}
use Rattle.std.proofs.lemmas.Bool.{cases_lt}
use Rattle.std.proofs.lemmas.List.{length-map, length_push, get_or-map, get_or_past, get_or_append_left, get_or-append_right, get_or-take, get_or-drop, length-append, ext_get_or}
use Rattle.std.proofs.lemmas.List.Edits.{length-between}
use Rattle.std.proofs.lemmas.List.FromFn.{length-map-range_with_len, get_or-map-range_with_len}
use Rattle.bsp_model.specs.declared.request.Message.{Message}
use Rattle.bsp_model.specs.Columns.{row_at, IsPut, AreTaken}
use Rattle.bsp_deliver.specs.Inside.Cells.{cells_of}

pub length-cells_of : (memories : List (List ℕ)) (queues : List (List Message)) → length (cells_of memories queues) ≡ length memories
unfolding cells_of
length-cells_of memories queues = length-map-range_with_len (λ k. (row_at memories k, row_at queues k)) 0 (length memories)

pub no_cells : cells_of [] [] ≡ []
unfolding cells_of
no_cells = refl

-- the cell of a process
pub cell_at : (memories : List (List ℕ)) (queues : List (List Message)) (k : ℕ) → k < length memories → get_or (cells_of memories queues) k ([], []) ≡ (row_at memories k, row_at queues k)
unfolding cells_of
cell_at memories queues k within = get_or-map-range_with_len (λ i. (row_at memories i, row_at queues i)) 0 (length memories) k k ([], []) within (omega arith)

-- the cell of a process of cells that are known
pub cell_now : (memories : List (List ℕ)) (queues : List (List Message)) (cells : List (List ℕ × List Message)) (k : ℕ) → cells_of memories queues ≡ cells → k < length cells → (row_at memories k, row_at queues k) ≡ get_or cells k ([], [])
cell_now memories queues cells k is within =
    sym (cell_at memories queues k (omega (arith, within, length-cells_of memories queues, ap length is))) ∙ ap (λ (cs : List (List ℕ × List Message)). get_or cs k ([], [])) is

-- these are the cells, if each of them is
cells_are : (memories : List (List ℕ)) (queues : List (List Message)) (cells : List (List ℕ × List Message)) → length cells ≡ length memories → ((k : ℕ) → k < length memories → (row_at memories k, row_at queues k) ≡ get_or cells k ([], []))
    → cells_of memories queues ≡ cells
cells_are memories queues cells long each =
    ext_get_or ([], []) (cells_of memories queues) cells (length-cells_of memories queues ∙ sym long)
    (λ k within. let inside : k < length memories = omega (arith, within, length-cells_of memories queues) in cell_at memories queues k inside ∙ each k inside)

same_cell : (memory memory' : List ℕ) (queue queue' : List Message) → memory' ≡ memory → queue' ≡ queue → ◌≡◌ {A = List ℕ × List Message} (memory', queue') (memory, queue)
same_cell memory memory' queue queue' first second = rw (first, second) refl

-- The queues of processes that have no memory don't matter.
pub cells_of-same : (memories : List (List ℕ)) (queues queues' : List (List Message)) (cells : List (List ℕ × List Message)) → cells_of memories queues ≡ cells → ((k : ℕ) → k < length memories → row_at queues' k ≡ row_at queues k)
    → cells_of memories queues' ≡ cells
cells_of-same memories queues queues' cells is before =
    cells_are memories queues' cells (sym (ap length is) ∙ length-cells_of memories queues)
    (λ k within.
    same_cell (row_at memories k) (row_at memories k) (row_at queues k) (row_at queues' k) refl (before k within)
    ∙ sym (cell_at memories queues k within)
    ∙ ap (λ (cs : List (List ℕ × List Message)). get_or cs k ([], [])) is)

-- cells behind others
cells_of-append : (memories others : List (List ℕ)) (queues queues' : List (List Message)) (cells more : List (List ℕ × List Message)) → cells_of memories queues ≡ cells
    → ((k : ℕ) → k < length memories → row_at queues' k ≡ row_at queues k)
    → length more ≡ length others
    → ((j : ℕ) → j < length others → (row_at others j, row_at queues' (length memories + j)) ≡ get_or more j ([], []))
    → cells_of (memories ++ others) queues' ≡ cells ++ more
cells_of-append memories others queues queues' cells more is before long each =
    let count : length cells ≡ length memories = sym (ap length is) ∙ length-cells_of memories queues in
    cells_are (memories ++ others) queues' (cells ++ more) (omega (arith, length-append cells more, length-append memories others, long, count))
    (λ k within.
    elim (cases_lt k (length memories)) [
      | inl below ↦
          same_cell (row_at memories k) (row_at (memories ++ others) k) (row_at queues k) (row_at queues' k) (get_or_append_left memories others [] k below) (before k below)
          ∙ sym (cell_at memories queues k below)
          ∙ ap (λ (cs : List (List ℕ × List Message)). get_or cs k ([], [])) is
          ∙ sym (get_or_append_left cells more ([], []) k (omega (arith, below, count)))
      | inr above ↦
          let j = k - length memories in
          let inside : j < length others = omega (arith, within, length-append memories others) in
          let there : k ≡ length memories + j = omega arith in
          same_cell (row_at others j) (row_at (memories ++ others) k) (row_at queues' (length memories + j)) (row_at queues' k) (get_or-append_right memories others (length memories) k [] refl above) (ap (row_at queues') there)
          ∙ each j inside
          ∙ sym (get_or-append_right cells more (length memories) k ([], []) count above)
    ])

-- one process more
pub cells_of-push : (memories : List (List ℕ)) (queues queues' : List (List Message)) (cells : List (List ℕ × List Message)) (memory : List ℕ) (queue : List Message) → cells_of memories queues ≡ cells
    → IsPut [] (row_at queues) (length memories) queue (row_at queues') → cells_of (memories ++ memory ∷ []) queues' ≡ cells ++ (memory, queue) ∷ []
cells_of-push memories queues queues' cells memory queue is put =
    cells_of-append memories (memory ∷ []) queues queues' cells ((memory, queue) ∷ []) is put.before refl
    (λ j inside.
    let first : j ≡ 0 = omega (arith, inside) in
    let here : length memories + j ≡ length memories = omega (arith, inside) in
    same_cell memory (row_at (memory ∷ []) j) queue (row_at queues' (length memories + j)) (ap (row_at (memory ∷ [])) first) (ap (row_at queues') here ∙ put.there)
    ∙ sym (ap (λ (n : ℕ). get_or ((memory, queue) ∷ []) n ([], [])) first))

-- the cells between two processes

at_between : {X : Type 0} (items : List X) (from to j : ℕ) (none : X) → j < to - from → get_or (slice_range items from to) j none ≡ get_or items (from + j) none
at_between items from to j none inside = get_or-take (to - from) (drop from items) j none inside ∙ get_or-drop from items j none

pub cells_of-more : (memories others : List (List ℕ)) (queues more queues' : List (List Message)) (cells others' : List (List ℕ × List Message)) (from to : ℕ) → to ≤ length others → cells_of memories queues ≡ cells → cells_of others more ≡ others'
    → AreTaken [] (row_at queues) (length memories) (row_at more) from to (row_at queues')
    → cells_of (memories ++ slice_range others from to) queues' ≡ cells ++ slice_range others' from to
cells_of-more memories others queues more queues' cells others' from to within is also taken =
    let long = length-between others from to within in
    let count : length others' ≡ length others = sym (ap length also) ∙ length-cells_of others more in
    cells_of-append memories (slice_range others from to) queues queues' cells (slice_range others' from to) is taken.before
    (length-between others' from to (omega (arith, within, count)) ∙ sym long)
    (λ j inside.
    let there : j < to - from = omega (arith, inside, long) in
    let same : (length memories + j) - length memories ≡ j = omega arith in
    same_cell (row_at others (from + j)) (row_at (slice_range others from to) j) (row_at more (from + j)) (row_at queues' (length memories + j)) (at_between others from to j [] there)
    (taken.taken (length memories + j) (omega arith) (omega (arith, there)) ∙ ap (λ (i : ℕ). row_at more (from + i)) same)
    ∙ sym (cell_at others more (from + j) (omega (arith, there, within)))
    ∙ ap (λ (cs : List (List ℕ × List Message)). get_or cs (from + j) ([], [])) also
    ∙ sym (at_between others' from to j ([], []) there))

-- what is made for each of several processes
pub cells_of-maps : (f : ℕ → List ℕ) (g : ℕ → List Message) (ps : List ℕ) (memories : List (List ℕ)) (queues : List (List Message)) → memories ≡ map f ps → ((k : ℕ) → row_at queues k ≡ row_at (map g ps) k)
    → cells_of memories queues ≡ map (λ p. (f p, g p)) ps
cells_of-maps f g ps memories queues first second =
    let count : length memories ≡ length ps = ap length first ∙ length-map ps f in
    cells_are memories queues (map (λ p. (f p, g p)) ps) (length-map ps (λ p. (f p, g p)) ∙ sym count)
    (λ k within.
    let inside : k < length ps = omega (arith, within, count) in
    same_cell (f (get_or ps k 0)) (row_at memories k) (g (get_or ps k 0)) (row_at queues k) (ap (λ (ms : List (List ℕ)). row_at ms k) first ∙ get_or-map f ps k 0 [] inside) (second k ∙ get_or-map g ps k 0 [] inside)
    ∙ sym (get_or-map (λ p. (f p, g p)) ps k 0 ([], []) inside))

-- a list is put behind those that a column has so far
pub row_at-push : {X : Type 0} (rows rows' done : List (List X)) (place : ℕ) (row : List X) → place ≡ length done → ((k : ℕ) → row_at rows k ≡ row_at done k) → IsPut [] (row_at rows) place row (row_at rows') → (k : ℕ) → row_at rows' k ≡ row_at (done ++ row ∷ []) k
row_at-push rows rows' done place row end same put k =
    elim (cases_lt k place) [
      | inl below ↦ put.before k below ∙ same k ∙ sym (get_or_append_left done (row ∷ []) [] k (omega (arith, below, end)))
      | inr above ↦ elim (cases_lt place k) [
        | inl behind ↦ put.behind k behind ∙ sym (get_or_past (done ++ row ∷ []) k [] (omega (arith, behind, end, length_push done row)))
        | inr there ↦
            let here : k ≡ place = omega arith in
            ap (row_at rows') here ∙ put.there ∙ sym (ap (row_at (done ++ row ∷ [])) (here ∙ end) ∙ get_or-append_seam done row [] [])
      ]
    ]
