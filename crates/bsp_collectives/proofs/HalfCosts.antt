-- The h-relation of the first halves in which all processes send.
use Rattle.std.proofs.Common.{◌≡◌, ◌<◌, ◌+◌, ◌==◌, ◌∙◌, ◌++◌, ℕ, zero, suc, Bool, true, false, cond, not, List, [], ◌∷◌, filter, map, length, ap, sym, refl, arith, inl, inr}
use Rattle.std.specs.List.{range_with_len, sum, sum_by}
use Rattle.std.proofs.lemmas.Bool.{cases_lt, eq-eqb, ne_eqb}
use Rattle.std.proofs.lemmas.Bool.Decides.{nat_tests}
use Rattle.std.proofs.lemmas.List.{length-append, length-replicate}
use Rattle.std.proofs.lemmas.List.Sums.{sum_by-cons}
use Rattle.bsp_model.specs.declared.request.Send.{Send}
use Rattle.bsp_step.specs.OutcomeParts.{OutcomeParts}
use Rattle.bsp_step.specs.ViewParts.{ViewParts}
use Rattle.bsp_deliver.specs.Cost.{h_relation}
use Rattle.bsp_collectives.specs.Arrivals.{sends_made}
use Rattle.bsp_collectives.specs.Costs.{AllMakeAlone, between, message_size, most_moved}
use Rattle.bsp_collectives.specs.Halves.{all_gather, block, everyone, exchange, exchange_parts, gather, part}
use Rattle.bsp_collectives.specs.Messages.{blank_tag, sends}
use Rattle.bsp_collectives.proofs.MessageCosts.{counted, h_relation-of_messages, leaving, sum-one}
use Rattle.bsp_collectives.proofs.MessagesSent.{read_to, read_to-one, read_to-other}

length-blank : (v : ViewParts) → length (blank_tag v) ≡ v.tag_size
length-blank v = let word : ℕ = 0 in length-replicate v.tag_size word

size-is : (v : ViewParts) (words : List ℕ) → length (blank_tag v ++ words) ≡ message_size v words
size-is v words = omega (arith, length-append (blank_tag v) words, length-blank v)

same_test : (a b : ℕ) → (a == b) ≡ (b == a)
same_test a b = grind (arith, nat_tests)

-- what leaves a process that sends to n processes from k on
leaving-range : (v : ViewParts) (words : ℕ → List ℕ) (p n k : ℕ) → leaving p (sends_made (sends v words (range_with_len k n))) ≡ sum (map (λ d. between (λ _ d. message_size v (words d)) p d) (range_with_len k n))
leaving-range v words p zero k = refl
leaving-range v words p (suc n) k =
    let m : Send = record { target = k; tag = blank_tag v; words = words k } in
    let size : Send → ℕ = λ m. length m.tag + length m.words in
    let rest : List Send = filter (λ (x : Send). not (x.target == p)) (sends_made (sends v words (range_with_len (k + 1) n))) in
    let own : size m ≡ message_size v (words k) = omega (arith, length-blank v) in
    ap (λ b. sum_by size (cond (not b) (m ∷ rest) rest)) (same_test k p)
    ∙ elim (p == k) as (λ b. sum_by size (cond (not b) (m ∷ rest) rest) ≡ cond b 0 (message_size v (words k)) + sum_by size rest) [
      | true ↦ omega arith
      | false ↦ sum_by-cons size m rest ∙ ap (λ x. x + sum_by size rest) own
    ]
    ∙ ap (λ x. cond (p == k) 0 (message_size v (words k)) + x) (leaving-range v words p n (k + 1))
    ∙ sym (sum_by-cons (λ (x : ℕ). x) (cond (p == k) 0 (message_size v (words k))) (map (λ d. between (λ _ d. message_size v (words d)) p d) (range_with_len (k + 1) n)))

-- where each process sends something to each
to_everyone : (words : ℕ → ℕ → List ℕ) (view : ℕ → ViewParts) (os : List OutcomeParts) → AllMakeAlone (λ p v. sends v (words p) (everyone v)) view os
    → h_relation os ≡ most_moved (length os) (λ p d. message_size (view p) (words p d))
to_everyone words view os all =
    let n = length os in
    h_relation-of_messages (λ p v. sends v (words p) (everyone v)) view os (λ p d. message_size (view p) (words p d)) all
    (λ p l. ap (λ k. leaving p (sends_made (sends (view p) (words p) (range_with_len 0 k)))) (all.make.nprocs p l) ∙ leaving-range (view p) (words p) p n 0)
    (λ p d l m. ap length (read_to-one counted (view p) (words p) d 0 (view p).nprocs (omega arith) (omega (arith, all.make.nprocs p l))) ∙ size-is (view p) (words p d))

pub all_gather-costs : (words : ℕ → List ℕ) (view : ℕ → ViewParts) (os : List OutcomeParts) → AllMakeAlone (λ p v. all_gather v (words p)) view os
    → h_relation os ≡ most_moved (length os) (λ p d. message_size (view p) (words p))
all_gather-costs words view os all = to_everyone (λ p d. words p) view os all

pub exchange-costs : (words : ℕ → List ℕ) (size : ℕ → ℕ) (view : ℕ → ViewParts) (os : List OutcomeParts) → AllMakeAlone (λ p v. exchange v (words p) (size p)) view os
    → h_relation os ≡ most_moved (length os) (λ p d. message_size (view p) (block (words p) (size p) d))
exchange-costs words size view os all = to_everyone (λ p d. block (words p) (size p) d) view os all

pub exchange_parts-costs : (words lengths : ℕ → List ℕ) (view : ℕ → ViewParts) (os : List OutcomeParts) → AllMakeAlone (λ p v. exchange_parts v (words p) (lengths p)) view os
    → h_relation os ≡ most_moved (length os) (λ p d. message_size (view p) (part (words p) (lengths p) d))
exchange_parts-costs words lengths view os all = to_everyone (λ p d. part (words p) (lengths p) d) view os all

by_test : (b c : Bool) (x : ℕ) → c ≡ false → cond b 0 (cond c x 0) ≡ 0
by_test true c x off = refl
by_test false c x off = ap (λ t. cond t x 0) off

-- Gather: the root receives, and each other process sends.
gather-leaving : (v : ViewParts) (root p : ℕ) (words : List ℕ) → leaving p (sends_made (gather v root words)) ≡ cond (p == root) 0 (message_size v words)
gather-leaving v root p words =
    let m : Send = record { target = root; tag = blank_tag v; words = words } in
    let size : Send → ℕ = λ m. length m.tag + length m.words in
    ap (λ b. sum_by size (cond (not b) (m ∷ []) [])) (same_test root p)
    ∙ elim (p == root) as (λ b. sum_by size (cond (not b) (m ∷ []) []) ≡ cond b 0 (message_size v words)) [
      | true ↦ refl
      | false ↦ omega (arith, sum_by-cons size m [], length-blank v)
    ]

gather-brought : (v : ViewParts) (root d : ℕ) (words : List ℕ) → length (read_to counted d (sends_made (gather v root words))) ≡ cond (d == root) (message_size v words) 0
gather-brought v root d words =
    elim (cases_lt d root) [
      | inl less ↦
          let off : (d == root) ≡ false = grind (arith, nat_tests, less) in
          ap length (read_to-other counted v (λ _. words) d root 1 (inl less)) ∙ ap (λ b. cond b (message_size v words) 0) (sym off)
      | inr most ↦
          elim (cases_lt root d) [
            | inl more ↦
                let off : (d == root) ≡ false = grind (arith, nat_tests, more) in
                ap length (read_to-other counted v (λ _. words) d root 1 (inr (omega (arith, more)))) ∙ ap (λ b. cond b (message_size v words) 0) (sym off)
            | inr least ↦
                let on : (d == root) ≡ true = grind (arith, nat_tests, most, least) in
                ap length (read_to-one counted v (λ _. words) d root 1 most (omega (arith, least))) ∙ size-is v words ∙ ap (λ b. cond b (message_size v words) 0) (sym on)
          ]
    ]

pub gather-costs : (root : ℕ) (words : ℕ → List ℕ) (view : ℕ → ViewParts) (os : List OutcomeParts) → AllMakeAlone (λ p v. gather v root (words p)) view os → root < length os
    → h_relation os ≡ most_moved (length os) (λ p d. cond (d == root) (message_size (view p) (words p)) 0)
gather-costs root words view os all known =
    let n = length os in
    let count : ℕ → ℕ → ℕ = λ p d. cond (d == root) (message_size (view p) (words p)) 0 in
    h_relation-of_messages (λ p v. gather v root (words p)) view os count all
    (λ p l.
    gather-leaving (view p) root p (words p)
    ∙ ap (λ b. cond (p == root) 0 (cond b (message_size (view p) (words p)) 0)) (sym (eq-eqb root root refl))
    ∙ sym (sum-one (λ d. between count p d) root n 0 (omega arith) (omega arith) (λ d low high other. by_test (p == d) (d == root) (message_size (view p) (words p)) (ne_eqb d root other))))
    (λ p d l m. gather-brought (view p) root d (words p))
