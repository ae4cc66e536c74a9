-- What arrives: where every process of a superstep makes the first half of a collective call, the words that its second half reads are those that the name says.
use Rattle.std.proofs.Common.{◌≡◌, ◌<◌, ◌+◌, ◌==◌, ◌∙◌, ◌++◌, ℕ, true, false, cond, List, [], ◌∷◌, map, length, ap, sym, arith, inl, inr}
use Rattle.std.specs.List.{flat_map, range_with_len}
use Rattle.std.proofs.lemmas.Bool.{cases_lt}
use Rattle.std.proofs.lemmas.Bool.Decides.{nat_tests}
use Rattle.std.proofs.lemmas.List.Concat.{flat_map_single}
use Rattle.bsp_model.specs.declared.request.Message.{Message}
use Rattle.bsp_model.specs.declared.request.Send.{Send}
use Rattle.bsp_step.specs.Act.{Act}
use Rattle.bsp_step.specs.OutcomeParts.{OutcomeParts}
use Rattle.bsp_step.specs.ViewParts.{ViewParts}
use Rattle.bsp_deliver.specs.Delivery.{delivery_parts, next_queue}
use Rattle.bsp_collectives.specs.declared.operation.Operation.{Operation as Operations}
use Rattle.bsp_collectives.specs.Messages.{joined, moves}
use Rattle.bsp_collectives.specs.Operation.{combined}
use Rattle.bsp_collectives.specs.Halves.{all_gather, all_reduce, block, block_size, broadcast, exchange, exchange_parts, forward, gather, part, reduce, scan, scatter, spread}
use Rattle.bsp_collectives.specs.Arrivals.{AllMake, arrived, arrived_apart, sends_made}
use Rattle.bsp_collectives.proofs.Joining.{blocks-joined, flat_map-agree, flat_map-first, flat_map-none, flat_map-one}
use Rattle.bsp_collectives.proofs.MessagesSent.{sends_made-append, sends_made-moves, read_to, read_to-one, words_to, words_to-one, words_to-other}
use Rattle.bsp_collectives.proofs.MessagesArrived.{arrived-read}

-- The words that the half of process p sends to process d.
abbrev sent : (ℕ → ViewParts → List Act) → (ℕ → ViewParts) → ℕ → ℕ → List ℕ
sent half view d p = words_to d (sends_made (half p (view p)))

-- Whatever the first half: the words that process 0 sends, then those that process 1 sends, and so on.
pub arrived-sent : (half : ℕ → ViewParts → List Act) (view : ℕ → ViewParts) (os : List OutcomeParts) (d : ℕ) → AllMake half view os
    → arrived os d ≡ flat_map (sent half view d) (range_with_len 0 (length os))
arrived-sent half view os d all =
    arrived-read (λ (m : Message). m.words) os d ∙ flat_map-agree _ (sent half view d) 0 (length os) (λ p low high. ap (λ (ms : List Send). words_to d ms) (all.sent p (omega arith)))

-- where all send to d
from_all : (half : ℕ → ViewParts → List Act) (view : ℕ → ViewParts) (os : List OutcomeParts) (d : ℕ) (words : ℕ → List ℕ) → AllMake half view os
    → ((p : ℕ) → p < length os → sent half view d p ≡ words p) → arrived os d ≡ flat_map words (range_with_len 0 (length os))
from_all half view os d words all each =
    arrived-sent half view os d all ∙ flat_map-agree (sent half view d) words 0 (length os) (λ p low high. each p (omega arith))

-- where one process does
from_root : (half : ℕ → ViewParts → List Act) (view : ℕ → ViewParts) (os : List OutcomeParts) (d root : ℕ) → AllMake half view os → root < length os
    → ((p : ℕ) → p < length os → (p ≡ root → ⊥) → sent half view d p ≡ []) → arrived os d ≡ sent half view d root
from_root half view os d root all known others =
    arrived-sent half view os d all ∙ flat_map-one (sent half view d) root 0 (length os) (omega arith) (omega arith) (λ p low high other. others p (omega arith) other)

-- All-gather: the words of all processes, in the order of their numbers.
pub all_gather-arrives : (words : ℕ → List ℕ) (view : ℕ → ViewParts) (os : List OutcomeParts) (d : ℕ) → AllMake (λ p v. all_gather v (words p)) view os → d < length os
    → arrived os d ≡ flat_map words (range_with_len 0 (length os))
all_gather-arrives words view os d all known =
    from_all _ view os d words all (λ p l. words_to-one (view p) (λ _. words p) d 0 (view p).nprocs (omega arith) (omega (arith, all.nprocs p l)))

-- Total exchange: the block d of all processes, in the order of their numbers.
pub exchange-arrives : (words : ℕ → List ℕ) (size : ℕ → ℕ) (view : ℕ → ViewParts) (os : List OutcomeParts) (d : ℕ) → AllMake (λ p v. exchange v (words p) (size p)) view os → d < length os
    → arrived os d ≡ flat_map (λ p. block (words p) (size p) d) (range_with_len 0 (length os))
exchange-arrives words size view os d all known =
    from_all _ view os d _ all (λ p l. words_to-one (view p) (block (words p) (size p)) d 0 (view p).nprocs (omega arith) (omega (arith, all.nprocs p l)))

-- Parts of any lengths: the part d of all processes, in the order of their numbers.
pub exchange_parts-arrives : (words lengths : ℕ → List ℕ) (view : ℕ → ViewParts) (os : List OutcomeParts) (d : ℕ) → AllMake (λ p v. exchange_parts v (words p) (lengths p)) view os → d < length os
    → arrived os d ≡ flat_map (λ p. part (words p) (lengths p) d) (range_with_len 0 (length os))
exchange_parts-arrives words lengths view os d all known =
    from_all _ view os d _ all (λ p l. words_to-one (view p) (part (words p) (lengths p)) d 0 (view p).nprocs (omega arith) (omega (arith, all.nprocs p l)))

-- Gather: the words of all processes at the root, in the order of their numbers,
pub gather-arrives : (root : ℕ) (words : ℕ → List ℕ) (view : ℕ → ViewParts) (os : List OutcomeParts) → AllMake (λ p v. gather v root (words p)) view os
    → arrived os root ≡ flat_map words (range_with_len 0 (length os))
gather-arrives root words view os all =
    from_all _ view os root words all (λ p l. words_to-one (view p) (λ _. words p) root root 1 (omega arith) (omega arith))

-- and none elsewhere.
pub gather-elsewhere : (root : ℕ) (words : ℕ → List ℕ) (view : ℕ → ViewParts) (os : List OutcomeParts) (d : ℕ) → AllMake (λ p v. gather v root (words p)) view os → (d ≡ root → ⊥)
    → arrived os d ≡ []
gather-elsewhere root words view os d all other =
    arrived-sent _ view os d all
    ∙ flat_map-none _ 0 (length os) (λ p low high. elim (cases_lt d root) [
      | inl below ↦ words_to-other (view p) (λ _. words p) d root 1 (inl below)
      | inr past ↦ words_to-other (view p) (λ _. words p) d root 1 (inr (omega (arith, other)))
    ])

-- the half of a process that is the root, and of one that is not
at_root : (v : ViewParts) (root : ℕ) (acts : List Act) → v.pid ≡ root → cond (v.pid == root) acts [] ≡ acts
at_root v root acts same = let test : (v.pid == root) ≡ true = grind (arith, nat_tests) in ap (λ b. cond b acts []) test

not_at_root : (v : ViewParts) (root : ℕ) (acts : List Act) → (v.pid ≡ root → ⊥) → cond (v.pid == root) acts [] ≡ []
not_at_root v root acts other = let test : (v.pid == root) ≡ false = grind (arith, nat_tests) in ap (λ b. cond b acts []) test

-- Broadcast: the root's words.
pub broadcast-arrives : (root : ℕ) (words : ℕ → List ℕ) (view : ℕ → ViewParts) (os : List OutcomeParts) (d : ℕ) → AllMake (λ p v. broadcast v root (words p)) view os → root < length os → d < length os
    → arrived os d ≡ words root
broadcast-arrives root words view os d all is_process known =
    from_root _ view os d root all is_process (λ p l other. ap (λ acts. words_to d (sends_made acts)) (not_at_root (view p) root _ (λ e. other (sym (all.pid p l) ∙ e))))
    ∙ ap (λ acts. words_to d (sends_made acts)) (at_root (view root) root _ (all.pid root is_process))
    ∙ words_to-one (view root) (λ _. words root) d 0 (view root).nprocs (omega arith) (omega (arith, all.nprocs root is_process))

-- Scatter: block d of the root's words.
pub scatter-arrives : (root : ℕ) (words : ℕ → List ℕ) (size : ℕ → ℕ) (view : ℕ → ViewParts) (os : List OutcomeParts) (d : ℕ) → AllMake (λ p v. scatter v root (words p) (size p)) view os → root < length os → d < length os
    → arrived os d ≡ block (words root) (size root) d
scatter-arrives root words size view os d all is_process known =
    from_root _ view os d root all is_process (λ p l other. ap (λ acts. words_to d (sends_made acts)) (not_at_root (view p) root _ (λ e. other (sym (all.pid p l) ∙ e))))
    ∙ ap (λ acts. words_to d (sends_made acts)) (at_root (view root) root _ (all.pid root is_process))
    ∙ words_to-one (view root) (block (words root) (size root)) d 0 (view root).nprocs (omega arith) (omega (arith, all.nprocs root is_process))

-- Broadcast in two supersteps: after the first a block of the root's words for each process,
pub spread-arrives : (root : ℕ) (words : ℕ → List ℕ) (view : ℕ → ViewParts) (os : List OutcomeParts) (d : ℕ) → AllMake (λ p v. spread v root (words p)) view os → root < length os → d < length os
    → arrived os d ≡ block (words root) (block_size (length (words root)) (length os)) d
spread-arrives root words view os d all is_process known =
    scatter-arrives root words (λ p. block_size (length (words p)) (view p).nprocs) view os d record { nprocs = all.nprocs; pid = all.pid; sent = all.sent } is_process known
    ∙ ap (λ n. block (words root) (block_size (length (words root)) n) d) (all.nprocs root is_process)

-- and after the second all of them.
pub forward-arrives : (words : List ℕ) (view : ℕ → ViewParts) (os : List OutcomeParts) (d : ℕ) → AllMake (λ p v. forward v v.queue) view os
    → ((p : ℕ) → p < length os → joined (view p).queue ≡ block words (block_size (length words) (length os)) p) → d < length os
    → arrived os d ≡ words
forward-arrives words view os d all blocks known =
    let n = length os in
    from_all _ view os d (block words (block_size (length words) n)) all (λ p l.
    let v = view p in
    ap (λ ms. words_to d ms) (sends_made-append (moves v.queue) (all_gather v (joined v.queue)))
    ∙ ap (λ ms. words_to d (ms ++ sends_made (all_gather v (joined v.queue)))) (sends_made-moves v.queue)
    ∙ words_to-one v (λ _. joined v.queue) d 0 v.nprocs (omega arith) (omega (arith, all.nprocs p l))
    ∙ blocks p l)
    ∙ blocks-joined words n (omega arith)

-- Reduce: what the operation makes of the words of all processes, at the root.
pub reduce-arrives : (operation : Operations) (root : ℕ) (word : ℕ → ℕ) (view : ℕ → ViewParts) (os : List OutcomeParts) → AllMake (λ p v. reduce v root (word p)) view os
    → combined operation (arrived os root) ≡ combined operation (map word (range_with_len 0 (length os)))
reduce-arrives operation root word view os all =
    ap (combined operation) (gather-arrives root (λ p. word p ∷ []) view os all ∙ flat_map_single word (range_with_len 0 (length os)))

-- All-reduce: the same, at every process.
pub all_reduce-arrives : (operation : Operations) (word : ℕ → ℕ) (view : ℕ → ViewParts) (os : List OutcomeParts) (d : ℕ) → AllMake (λ p v. all_reduce v (word p)) view os → d < length os
    → combined operation (arrived os d) ≡ combined operation (map word (range_with_len 0 (length os)))
all_reduce-arrives operation word view os d all known =
    ap (combined operation) (all_gather-arrives (λ p. word p ∷ []) view os d all known ∙ flat_map_single word (range_with_len 0 (length os)))

-- Inclusive scan: what the operation makes of the words of the processes from 0 to the own one.
pub scan-arrives : (operation : Operations) (word : ℕ → ℕ) (view : ℕ → ViewParts) (os : List OutcomeParts) (d : ℕ) → AllMake (λ p v. scan v (word p)) view os → d < length os
    → combined operation (arrived os d) ≡ combined operation (map word (range_with_len 0 (d + 1)))
scan-arrives operation word view os d all known =
    let half : ℕ → ViewParts → List Act = λ p v. scan v (word p) in
    let n = length os in
    let later : flat_map (sent half view d) (range_with_len 0 n) ≡ flat_map (sent half view d) (range_with_len 0 (d + 1)) =
    flat_map-first (sent half view d) 0 (d + 1) n (omega arith) (λ p low high. words_to-other (view p) (λ _. word p ∷ []) d (view p).pid _ (inl (omega (arith, all.pid p (omega arith))))) in
    let upto : flat_map (sent half view d) (range_with_len 0 (d + 1)) ≡ flat_map (λ p. word p ∷ []) (range_with_len 0 (d + 1)) =
    flat_map-agree (sent half view d) (λ p. word p ∷ []) 0 (d + 1) (λ p low high.
    let l : p < n = omega arith in
    words_to-one (view p) (λ _. word p ∷ []) d (view p).pid _ (omega (arith, all.pid p l)) (omega (arith, all.pid p l, all.nprocs p l))) in
    ap (combined operation) (arrived-sent half view os d all ∙ later ∙ upto ∙ flat_map_single word (range_with_len 0 (d + 1)))

-- The words of each message, where each process sends d one.
apart_from_all : (half : ℕ → ViewParts → List Act) (view : ℕ → ViewParts) (os : List OutcomeParts) (d : ℕ) (words : ℕ → List ℕ) → AllMake half view os
    → ((p : ℕ) → p < length os → read_to (λ (m : Message). m.words ∷ []) d (sends_made (half p (view p))) ≡ words p ∷ []) → arrived_apart os d ≡ map words (range_with_len 0 (length os))
apart_from_all half view os d words all each =
    let read : Message → List (List ℕ) = λ m. m.words ∷ [] in
    sym (flat_map_single (λ (m : Message). m.words) (next_queue (delivery_parts os d)))
    ∙ arrived-read read os d
    ∙ flat_map-agree _ (λ p. words p ∷ []) 0 (length os) (λ p low high. ap (read_to read d) (all.sent p (omega arith)) ∙ each p (omega arith))
    ∙ flat_map_single words (range_with_len 0 (length os))

-- Gather: those of all processes, at the root.
pub gather-arrives_apart : (root : ℕ) (words : ℕ → List ℕ) (view : ℕ → ViewParts) (os : List OutcomeParts) → AllMake (λ p v. gather v root (words p)) view os
    → arrived_apart os root ≡ map words (range_with_len 0 (length os))
gather-arrives_apart root words view os all =
    apart_from_all _ view os root words all (λ p l. read_to-one (λ (m : Message). m.words ∷ []) (view p) (λ _. words p) root root 1 (omega arith) (omega arith))

-- All-gather: the same at each process.
pub all_gather-arrives_apart : (words : ℕ → List ℕ) (view : ℕ → ViewParts) (os : List OutcomeParts) (d : ℕ) → AllMake (λ p v. all_gather v (words p)) view os → d < length os
    → arrived_apart os d ≡ map words (range_with_len 0 (length os))
all_gather-arrives_apart words view os d all known =
    apart_from_all _ view os d words all (λ p l. read_to-one (λ (m : Message). m.words ∷ []) (view p) (λ _. words p) d 0 (view p).nprocs (omega arith) (omega (arith, all.nprocs p l)))

-- Parts of any lengths: the part d of all.
pub exchange_parts-arrives_apart : (words lengths : ℕ → List ℕ) (view : ℕ → ViewParts) (os : List OutcomeParts) (d : ℕ) → AllMake (λ p v. exchange_parts v (words p) (lengths p)) view os → d < length os
    → arrived_apart os d ≡ map (λ p. part (words p) (lengths p) d) (range_with_len 0 (length os))
exchange_parts-arrives_apart words lengths view os d all known =
    apart_from_all _ view os d (λ p. part (words p) (lengths p) d) all (λ p l. read_to-one (λ (m : Message). m.words ∷ []) (view p) (part (words p) (lengths p)) d 0 (view p).nprocs (omega arith) (omega (arith, all.nprocs p l)))
