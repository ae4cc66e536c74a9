-- The turns of a product before it is computed.
use Rattle.std.proofs.Common.{◌*◌, ◌+◌, ◌-◌, ◌==◌, Bool, List, Some, [], ap, arith, cond, drop, false, get_or, inl, inr, length, map, refl, sym, take, true, ℕ, ◌∙◌, ◌∷◌, ◌≡◌, ◌≢◌, ◌≤◌}
use Rattle.std.proofs.lemmas.Bool.{cases_lt, eqb-false, le-ltb}
use Rattle.std.proofs.lemmas.Nat.{mul-le}
use Rattle.std.proofs.lemmas.Option.{slice_get-get_or}
use Rattle.std.proofs.lemmas.List.FromFn.{length-map-range_with_len, get_or-map-range_with_len}
use Rattle.std.proofs.lemmas.Bool.Decides.{nat_tests}
use Rattle.std.proofs.lemmas.Grind.{common_steps, same_number_lists}
use Rattle.std.specs.List.{range_with_len}
use Rattle.std.specs.Prelude.{nat_le, nat_lt, slice_get}
use Rattle.bsp_model.specs.Limits.{most_line_words, most_processes}
use Rattle.bsp_model.specs.declared.fault.End.TheVariants.{Abort, Sync}
use Rattle.bsp_step.specs.Act.{set_tagsize}
use Rattle.bsp_step.specs.Blocks.{words_at}
use Rattle.bsp_step.specs.Context.{Context, fresh}
use Rattle.bsp_step.specs.OutcomeParts.{OutcomeParts}
use Rattle.bsp_step.specs.Plan.{does, given_argument, given_word}
use Rattle.bsp_step.specs.Turn.{closed}
use Rattle.bsp_step.specs.ViewParts.{ViewParts}
use Rattle.bsp_programs.specs.MatVec.{block_start, given_words, matvec_checking, matvec_working, product_start, sends_to_all}
use Rattle.bsp_right.specs.Multiplied.{matvec_turn}
use Rattle.bsp_right.proofs.ActsAllowed.{message_to, perform_all-sends}
use Rattle.bsp_right.proofs.DescribedStates.{no_queue, of_plan, quiet, view_described}

-- these words of a memory
abbrev pub words_from : List ℕ → ℕ → ℕ → List ℕ
words_from memory start len = map (λ a. get_or memory a 0) (range_with_len start len)

pub words_at-all : (memory : List ℕ) (len start : ℕ) → start + len ≤ length memory → words_at memory start len ≡ Some (words_from memory start len)
words_at-all memory len start h =
    let test : nat_le (start + len) (length memory) ≡ true = grind (arith, nat_tests) in
    let long : length (take len (drop start memory)) ≡ len = grind (arith, common_steps) in
    rw test
    (ap Some (same_number_lists (take len (drop start memory)) (words_from memory start len) (long ∙ sym (length-map-range_with_len (λ a. get_or memory a 0) start len)) (λ k within.
    let here : get_or (take len (drop start memory)) k 0 ≡ get_or memory (start + k) 0 = grind (arith, common_steps) in
    here ∙ sym (get_or-map-range_with_len (λ a. get_or memory a 0) start len k (start + k) 0 (omega arith) refl))))

-- the own block of the vector
abbrev pub block_of : ℕ → ℕ → List ℕ → List ℕ
block_of n b memory = words_from memory (block_start n b) b

-- the turns
abbrev pub chooses_tags : (ℕ → List ℕ) → ℕ → OutcomeParts
chooses_tags memory p = record (quiet (memory p)) { tag = Some 1 }

abbrev pub sends_block : ℕ → ℕ → (ℕ → List ℕ) → ℕ → OutcomeParts
sends_block n b memory p = record (quiet (memory p)) { sends = map (message_to (p ∷ []) (block_of n b (memory p))) (range_with_len 0 n) }

-- the turn where argument 0 is b
pub turn_working : (v : ViewParts) (b : ℕ) → slice_get v.args 0 ≡ Some b → b ≤ most_line_words → matvec_turn v ≡ of_plan v (matvec_working v v.memory v.queue b)
turn_working v b named few =
    ap (λ o. of_plan v (given_argument o (λ rows. cond (nat_lt most_line_words rows) (does [] (Abort 2)) (matvec_working v v.memory v.queue rows)))) named
    ∙ ap (λ t. of_plan v (cond t (does [] (Abort 2)) (matvec_working v v.memory v.queue b))) (le-ltb most_line_words b few)

checks_if : (t : Bool) (v : ViewParts) (b : ℕ) → ((product_start v.nprocs b + b) == 0) ≡ t → product_start v.nprocs b + b ≤ length v.memory → of_plan v (matvec_checking v.nprocs b v.memory) ≡ record (quiet v.memory) { tag = Some 1 }
checks_if true v b e h =
    ap (λ t. of_plan v (cond t (does (set_tagsize 1 ∷ []) Sync) (given_word (slice_get v.memory (product_start v.nprocs b + b - 1)) (λ last. does (set_tagsize 1 ∷ []) Sync)))) e
checks_if false v b e h =
    let apart : product_start v.nprocs b + b ≢ 0 = eqb-false (product_start v.nprocs b + b) 0 e in
    let some : 1 ≤ product_start v.nprocs b + b = omega arith in
    ap (λ t. of_plan v (cond t (does (set_tagsize 1 ∷ []) Sync) (given_word (slice_get v.memory (product_start v.nprocs b + b - 1)) (λ last. does (set_tagsize 1 ∷ []) Sync)))) e
    ∙ ap (λ o. of_plan v (given_word o (λ last. does (set_tagsize 1 ∷ []) Sync))) (slice_get-get_or v.memory (product_start v.nprocs b + b - 1) 0 (omega arith))

pub turn_chooses : (args : List (List ℕ)) (n b : ℕ) (memory : ℕ → List ℕ) (p : ℕ) → slice_get (get_or args p []) 0 ≡ Some b → b ≤ most_line_words → product_start n b + b ≤ length (memory p)
    → matvec_turn (view_described args 0 n memory no_queue [] 0 p) ≡ chooses_tags memory p
turn_chooses args n b memory p named few h =
    let v = view_described args 0 n memory no_queue [] 0 p in
    turn_working v b named few ∙ checks_if ((product_start n b + b) == 0) v b refl h

pub turn_sends : (args : List (List ℕ)) (n b : ℕ) (memory : ℕ → List ℕ) (p : ℕ) → n ≤ most_processes → slice_get (get_or args p []) 0 ≡ Some b → b ≤ most_line_words → product_start n b + b ≤ length (memory p)
    → matvec_turn (view_described args 1 n memory no_queue [] 1 p) ≡ sends_block n b memory p
turn_sends args n b memory p small named few h =
    let v = view_described args 1 n memory no_queue [] 1 p in
    let m = memory p in
    let block = block_of n b m in
    turn_working v b named few
    ∙ ap (λ o. of_plan v (given_words o (λ words. does (sends_to_all p words (range_with_len 0 n)) Sync))) (words_at-all m b (block_start n b) (omega arith))
    ∙ ap (λ (c : Context). closed c Sync) (perform_all-sends (p ∷ []) block n 0 (fresh v) refl (omega arith) (omega arith) refl (omega (arith, length-map-range_with_len (λ a. get_or m a 0) (block_start n b) b)))
