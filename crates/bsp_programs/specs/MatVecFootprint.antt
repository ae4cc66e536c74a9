-- A matrix product depends on the words at which it looks, and on no others.
use Rattle.std.proofs.Common.{◌≡◌, ℕ, ◌+◌, ◌-◌, ◌*◌, ◌<◌, ◌≤◌, Bool, true, Option, None, Some, List, [], ◌∷◌, ◌||◌, zero, suc, length, refl, sym, ap, ◌∙◌, ◌⊎◌, inl, inr, ◌==◌, nat_lt, arith}
use Rattle.std.proofs.lemmas.Bool.Decides.{nat_tests}
use Rattle.std.specs.List.{slice_get}
use Rattle.bsp_model.specs.Limits.{most_line_words}
use Rattle.bsp_model.specs.declared.request.Message.{Message}
use Rattle.bsp_step.specs.Act.{move_into}
use Rattle.bsp_step.specs.ViewParts.{ViewParts}
use Rattle.bsp_step.specs.Footprint.{IsFootprint}
use Rattle.bsp_step.specs.Plan.{Plan, after, given_word}
use Rattle.bsp_programs.specs.MatVec.{columns, block_start, vector_start, product_start, sender_of, given_sender, is_within, matvec_multiplying, matvec_receiving, matvec_plan, matvec_looks}
use Rattle.bsp_step.specs.Footprints.{if-alike, given_argument-alike}
use Rattle.bsp_step.specs.Reads.{IsFootprint-of_reads, words_at-alike, stored-alike}
use Rattle.bsp_step.specs.Blocks.{stores, stored}
use Rattle.bsp_step.proofs.Storing.{length-stored}

given_sender-alike : (o : Option ℕ) (f g : ℕ → Plan) → ((j : ℕ) → f j ≡ g j) → given_sender o f ≡ given_sender o g
given_sender-alike None f g same = refl
given_sender-alike (Some j) f g same = same j

-- whether a word is there is decided by the memory's length
given_word-there : (m n : List ℕ) (a : ℕ) (plan : Plan) → length m ≡ length n → given_word (slice_get m a) (λ word. plan) ≡ given_word (slice_get n a) (λ word. plan)
given_word-there [] [] a plan e = refl
given_word-there [] (y ∷ n) a plan e = absurd (omega arith)
given_word-there (x ∷ m) [] a plan e = absurd (omega arith)
given_word-there (x ∷ m) (y ∷ n) zero plan e = refl
given_word-there (x ∷ m) (y ∷ n) (suc a) plan e = given_word-there m n a plan (omega arith)

matvec_multiplying-alike : (nprocs b : ℕ) (m n : List ℕ) → length m ≡ length n → ((a : ℕ) → a < block_start nprocs b → slice_get m a ≡ slice_get n a) → ((a : ℕ) → vector_start nprocs b ≤ a → a < vector_start nprocs b + columns nprocs b → slice_get m a ≡ slice_get n a) → matvec_multiplying nprocs b m ≡ matvec_multiplying nprocs b n
matvec_multiplying-alike nprocs b m n long matrix vector =
    rw (words_at-alike m n 0 (block_start nprocs b) long (λ a low high. matrix a (omega arith)), words_at-alike m n (vector_start nprocs b) (columns nprocs b) long vector) refl

matvec_receiving-alike : (nprocs b : ℕ) (m n : List ℕ) (queue : List Message) → length m ≡ length n → ((a : ℕ) → a < block_start nprocs b → slice_get m a ≡ slice_get n a) → ((a : ℕ) → vector_start nprocs b ≤ a → a < vector_start nprocs b + columns nprocs b → slice_get m a ≡ slice_get n a) → matvec_receiving nprocs b m queue ≡ matvec_receiving nprocs b n queue
matvec_receiving-alike nprocs b m n [] long matrix vector = matvec_multiplying-alike nprocs b m n long matrix vector
matvec_receiving-alike nprocs b m n (message ∷ later) long matrix vector =
    given_sender-alike (sender_of nprocs b message) _ _ (λ j.
    let place = vector_start nprocs b + j * b in
    ap (after (move_into b ∷ stores place message.words))
    (matvec_receiving-alike nprocs b (stored m place message.words) (stored n place message.words) later (length-stored m place message.words ∙ long ∙ sym (length-stored n place message.words))
    (λ a high. stored-alike m n place message.words a (matrix a high))
    (λ a low high. stored-alike m n place message.words a (vector a low high))))

within : (start len a : ℕ) → start ≤ a → a < start + len → is_within start len a ≡ true
within start len a low high = grind (arith, nat_tests)

either : (end a : ℕ) (other : Bool) → (a < end) ⊎ (other ≡ true) → (nat_lt a end || other) ≡ true
either end a other h = grind (arith, nat_tests)

matvec_plan-alike : (v : ViewParts) (n : List ℕ) → length v.memory ≡ length n → ((a : ℕ) → matvec_looks v a ≡ true → slice_get v.memory a ≡ slice_get n a) → matvec_plan v v.memory v.queue ≡ matvec_plan v n v.queue
matvec_plan-alike v n long same =
    given_argument-alike (slice_get v.args 0) _ _ (λ b has.
    if-alike (nat_lt most_line_words b) _ _ _ _ (λ large. refl) (λ small.
    if-alike (v.step == 0) _ _ _ _
    (λ first. if-alike (product_start v.nprocs b + b == 0) _ _ _ _ (λ nothing. refl) (λ some. given_word-there v.memory n (product_start v.nprocs b + b - 1) _ long))
    (λ later. if-alike (v.step == 1) _ _ _ _
    (λ second. rw (words_at-alike v.memory n (block_start v.nprocs b) b long (λ a low high. same a (rw (has, small, later, second) (within (block_start v.nprocs b) b a low high)))) refl)
    (λ others. matvec_receiving-alike v.nprocs b v.memory n v.queue long
    (λ a high. same a (rw (has, small, later, others) (either (block_start v.nprocs b) a _ (inl high))))
    (λ a low high. same a (rw (has, small, later, others) (either (block_start v.nprocs b) a _ (inr (within (vector_start v.nprocs b) (columns v.nprocs b) a low high)))))))))

pub matvec_footprint : IsFootprint (λ v. (matvec_plan v v.memory v.queue).acts) (λ v. (matvec_plan v v.memory v.queue).ending) matvec_looks
matvec_footprint = IsFootprint-of_reads (λ v. matvec_plan v v.memory v.queue) matvec_looks matvec_plan-alike (λ v n long a. refl)
