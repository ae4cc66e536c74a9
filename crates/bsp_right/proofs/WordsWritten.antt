-- The memory after a delivery, from what each process writes there.
use Rattle.std.proofs.Common.{◌+◌, ◌<◌, ◌==◌, Bool, List, [], ap, arith, cond, false, filter, get_or, inl, inr, length, map, refl, suc, sym, true, zero, ℕ, ◌∙◌, ◌∷◌, ◌≡◌, ◌≤◌}
use Rattle.std.proofs.lemmas.Bool.{cases_lt}
use Rattle.std.proofs.lemmas.List.FromFn.{fill_by_all, get_or-map-range_with_len}
use Rattle.std.proofs.lemmas.List.{map-append}
use Rattle.std.proofs.lemmas.List.Elements.{filter-append}
use Rattle.std.specs.List.{range_with_len}
use Rattle.bsp_model.specs.declared.request.Get.{Get}
use Rattle.bsp_model.specs.declared.request.Put.{Put}
use Rattle.bsp_step.specs.OutcomeParts.{OutcomeParts, no_outcome, outcome_of}
use Rattle.bsp_deliver.specs.Delivery.{Write, delivery_parts, get_write, next_memory, next_word, put_write, write_of, written}
use Rattle.bsp_deliver.specs.Requests.{all_puts, each_below, requests_from, words_read}
use Rattle.bsp_deliver.proofs.Writes.{written-append}

-- what a process writes to process d
abbrev pub writes_to : ℕ → OutcomeParts → List Write
writes_to d o = map write_of (filter (λ (q : Put). q.target == d) o.puts)

-- a word after the writes of these outcomes to d, one process after the other
abbrev pub written_by : ℕ → ℕ → (ℕ → OutcomeParts) → ℕ → ℕ → ℕ → ℕ
written_by d a out from zero word = word
written_by d a out from (suc n) word = written_by d a out (from + 1) n (written (writes_to d (out from)) a word)

own_puts : (d k : ℕ) (puts : List Put) → map put_write (filter (λ (p : ℕ × Put). p.1.target == d) (map (λ (r : Put). (k, r)) puts)) ≡ map write_of (filter (λ (q : Put). q.target == d) puts)
own_puts d k [] = refl
own_puts d k (q ∷ qs) =
    elim (q.target == d) as (λ b. map put_write (cond b ((k, q) ∷ filter (λ (p : ℕ × Put). p.1.target == d) (map (λ (r : Put). (k, r)) qs)) (filter (λ (p : ℕ × Put). p.1.target == d) (map (λ (r : Put). (k, r)) qs))) ≡ map write_of (cond b (q ∷ filter (λ (r : Put). r.target == d) qs) (filter (λ (r : Put). r.target == d) qs))) [
      | true ↦ ap (λ ws. write_of q ∷ ws) (own_puts d k qs)
      | false ↦ own_puts d k qs
    ]

pub written-all : (d a : ℕ) (out : ℕ → OutcomeParts) (n k word : ℕ) → written (map put_write (filter (λ (p : ℕ × Put). p.1.target == d) (requests_from (λ o. o.puts) k (map out (range_with_len k n))))) a word ≡ written_by d a out k n word
written-all d a out zero k word = refl
written-all d a out (suc n) k word =
    let test : ℕ × Put → Bool = λ (p : ℕ × Put). p.1.target == d in
    let own = map (λ (r : Put). (k, r)) (out k).puts in
    let others = requests_from (λ o. o.puts) (k + 1) (map out (range_with_len (k + 1) n)) in
    ap (λ ps. written (map put_write ps) a word) (filter-append test own others)
    ∙ ap (λ ws. written ws a word) (map-append put_write (filter test own) (filter test others))
    ∙ written-append (map put_write (filter test own)) (map put_write (filter test others)) a word
    ∙ ap (λ ws. written (map put_write (filter test others)) a (written ws a word)) (own_puts d k (out k).puts)
    ∙ written-all d a out n (k + 1) (written (writes_to d (out k)) a word)

-- no process writes there
pub written_by-none : (d a : ℕ) (out : ℕ → OutcomeParts) (n k word : ℕ) → ((p : ℕ) → k ≤ p → p < k + n → written (writes_to d (out p)) a word ≡ word) → written_by d a out k n word ≡ word
written_by-none d a out zero k word h = refl
written_by-none d a out (suc n) k word h =
    ap (written_by d a out (k + 1) n) (h k (omega arith) (omega arith)) ∙ written_by-none d a out n (k + 1) word (λ p l m. h p (omega arith) (omega arith))

-- process s writes a word there, and none after it changes that
pub written_by-last : (d a s v : ℕ) (out : ℕ → OutcomeParts) (n k word : ℕ) → k ≤ s → s < k + n → ((w : ℕ) → written (writes_to d (out s)) a w ≡ v) → ((p : ℕ) → s < p → p < k + n → written (writes_to d (out p)) a v ≡ v) → written_by d a out k n word ≡ v
written_by-last d a s v out zero k word l m h after = absurd (omega arith)
written_by-last d a s v out (suc n) k word l m h after =
    elim (cases_lt k s) [
      | inl less ↦ written_by-last d a s v out n (k + 1) (written (writes_to d (out k)) a word) (omega arith) (omega arith) h (λ p q r. after p q (omega arith))
      | inr more ↦
          let same : k ≡ s = omega arith in
          ap (λ j. written_by d a out (k + 1) n (written (writes_to d (out j)) a word)) same
          ∙ ap (written_by d a out (k + 1) n) (h word)
          ∙ written_by-none d a out n (k + 1) v (λ p q r. after p (omega arith) (omega arith))
    ]

pub outcome_of-each_below : (out : ℕ → OutcomeParts) (n p : ℕ) → p < n → outcome_of (each_below n out) p ≡ out p
outcome_of-each_below out n p l = get_or-map-range_with_len out 0 n p p no_outcome l (omega arith)

-- The next memory of a process without gets, word by word.
pub next_memory-is : (n d : ℕ) (out : ℕ → OutcomeParts) (new : List ℕ) → d < n → (out d).gets ≡ [] → length new ≡ length (out d).memory
    → ((a : ℕ) → a < length new → written_by d a out 0 n (get_or (out d).memory a 0) ≡ get_or new a 0) → next_memory (delivery_parts (each_below n out) d) ≡ new
unfolding next_memory delivery_parts all_puts
next_memory-is n d out new l none long h =
    let os = each_below n out in
    let own : outcome_of os d ≡ out d = outcome_of-each_below out n d l in
    let gets : (outcome_of os d).gets ≡ [] = ap (λ (o : OutcomeParts). o.gets) own ∙ none in
    let memory : (outcome_of os d).memory ≡ (out d).memory = ap (λ (o : OutcomeParts). o.memory) own in
    let parts = delivery_parts os d in
    let word : (a : ℕ) → a < length new → next_word parts a ≡ get_or new a 0 = λ a m.
    ap (λ gs. written (map put_write parts.puts) a (written (map get_write (map (λ (g : Get). (g, words_read os g)) gs)) a (get_or parts.memory a 0))) gets
    ∙ ap (λ (ws : List ℕ). written (map put_write parts.puts) a (get_or ws a 0)) memory
    ∙ written-all d a out n 0 (get_or (out d).memory a 0)
    ∙ h a m
    in
    let size : length new ≡ length parts.memory = long ∙ ap (λ (ws : List ℕ). length ws) (sym memory) in
    sym (fill_by_all (next_word parts) new (length parts.memory) 0 size (λ k m. sym (word k (omega (arith, size)))))
