-- Gets that pass their checks, and the memory after a delivery with gets.
use Rattle.std.proofs.Common.{◌+◌, ◌++◌, ◌<◌, All, List, None, Some, [], ap, arith, get_or, length, map, nat_le, nat_lt, refl, suc, sym, true, ℕ, ◌∙◌, ◌∷◌, ◌≡◌, ◌≤◌}
use Rattle.std.proofs.lemmas.Bool.{le-leb, lt-ltb}
use Rattle.std.proofs.lemmas.List.FromFn.{fill_by_all}
use Rattle.bsp_model.specs.Limits.{most_requests}
use Rattle.bsp_model.specs.declared.fault.Fault.TheVariants.{BadLocal, BadPid, OutOfArea, TooManyRequests}
use Rattle.bsp_model.specs.declared.request.Get.{Get}
use Rattle.bsp_table.specs.declared.area.Area.{Area}
use Rattle.bsp_step.specs.Act.{get}
use Rattle.bsp_step.specs.Context.{Context}
use Rattle.bsp_step.specs.OutcomeParts.{OutcomeParts, outcome_of}
use Rattle.bsp_step.specs.Perform.{area_fault, count_of_requests, fault_unless, first_fault, perform, performed, start_of, target_area}
use Rattle.bsp_deliver.specs.Delivery.{Write, delivery_parts, get_write, next_memory, next_word, put_write, written}
use Rattle.bsp_deliver.specs.Requests.{all_puts, each_below, words_read}
use Rattle.bsp_right.proofs.WordsWritten.{outcome_of-each_below, written-all, written_by}

-- A get that is allowed.
pub perform-get : (c : Context) (pid area offset into len : ℕ) (a : Area) → c.fault ≡ None → count_of_requests c < most_requests → pid < c.view.nprocs → target_area c.view pid area ≡ Some a → offset + len ≤ a.len → into + len ≤ length c.memory
    → perform c (get pid area offset into len) ≡ record c { gets = c.gets ++ record { owner = pid; start = a.start + offset; len = len; into = into } ∷ [] }
perform-get c pid area offset into len a faultless few known at inside own =
    let room : nat_lt (count_of_requests c) most_requests ≡ true = lt-ltb (count_of_requests c) most_requests few in
    let below : nat_lt pid c.view.nprocs ≡ true = lt-ltb pid c.view.nprocs known in
    let fits : nat_le (offset + len) a.len ≡ true = le-leb (offset + len) a.len inside in
    let there : nat_le (into + len) (length c.memory) ≡ true = le-leb (into + len) (length c.memory) own in
    (λ i. performed (faultless i) (first_fault (fault_unless (room i) TooManyRequests) (first_fault (fault_unless (below i) (BadPid pid)) (first_fault (area_fault (at i) area (offset + len)) (fault_unless (there i) BadLocal)))) c
    (record c { gets = c.gets ++ record { owner = pid; start = start_of (at i) + offset; len = len; into = into } ∷ [] }))
    ∙ ap (λ b. performed None (first_fault (fault_unless b OutOfArea) None) c (record c { gets = c.gets ++ record { owner = pid; start = a.start + offset; len = len; into = into } ∷ [] })) fits

-- what a get writes: words of its owner
abbrev pub read_by : (ℕ → OutcomeParts) → Get → Write
read_by out g = record { start = g.into; words = each_below g.len (λ i. get_or (out g.owner).memory (g.start + i) 0) }

reads : (out : ℕ → OutcomeParts) (n : ℕ) (gets : List Get) → All (λ (g : Get). g.owner < n) gets → map get_write (map (λ (g : Get). (g, words_read (each_below n out) g)) gets) ≡ map (read_by out) gets
reads out n [] h = refl
reads out n (g ∷ gs) h =
    let owner : outcome_of (each_below n out) g.owner ≡ out g.owner = outcome_of-each_below out n g.owner (h 0 g (omega arith)) in
    let own : Write = read_by out g in
    let same : get_write (g, words_read (each_below n out) g) ≡ own = λ i. record { start = g.into; words = each_below g.len (λ j. get_or (owner i).memory (g.start + j) 0) } in
    λ i. same i ∷ reads out n gs (λ k d l. h (suc k) d (omega arith)) i

-- The next memory of a process, word by word: its gets write first, and then the puts.
pub next_memory-reads : (n d : ℕ) (out : ℕ → OutcomeParts) (new : List ℕ) → d < n → All (λ (g : Get). g.owner < n) (out d).gets → length new ≡ length (out d).memory
    → ((a : ℕ) → a < length new → written_by d a out 0 n (written (map (read_by out) (out d).gets) a (get_or (out d).memory a 0)) ≡ get_or new a 0) → next_memory (delivery_parts (each_below n out) d) ≡ new
unfolding next_memory delivery_parts all_puts
next_memory-reads n d out new l known long h =
    let os = each_below n out in
    let own : outcome_of os d ≡ out d = outcome_of-each_below out n d l in
    let memory : (outcome_of os d).memory ≡ (out d).memory = ap (λ (o : OutcomeParts). o.memory) own in
    let parts = delivery_parts os d in
    let gets : map get_write parts.gets ≡ map (read_by out) (out d).gets = ap (λ (o : OutcomeParts). map get_write (map (λ (g : Get). (g, words_read os g)) o.gets)) own ∙ reads out n (out d).gets known in
    let word : (a : ℕ) → a < length new → next_word parts a ≡ get_or new a 0 = λ a m.
    ap (λ ws. written (map put_write parts.puts) a (written ws a (get_or parts.memory a 0))) gets
    ∙ ap (λ (ws : List ℕ). written (map put_write parts.puts) a (written (map (read_by out) (out d).gets) a (get_or ws a 0))) memory
    ∙ written-all d a out n 0 (written (map (read_by out) (out d).gets) a (get_or (out d).memory a 0))
    ∙ h a m
    in
    let size : length new ≡ length parts.memory = long ∙ ap (λ (ws : List ℕ). length ws) (sym memory) in
    sym (fill_by_all (next_word parts) new (length parts.memory) 0 size (λ k m. sym (word k (omega (arith, size)))))
