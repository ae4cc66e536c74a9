-- Words that travel again are paid for, and so is the synchronisation that they ask for.
use Rattle.std.proofs.Common.{◌≡◌, ◌≢◌, ℕ, zero, suc, ◌+◌, ◌*◌, ◌<◌, ◌≤◌, ◌==◌, ◌&&◌, ◌||◌, Bool, true, false, cond, not, List, [], ◌∷◌, ◌++◌, Option, Some, filter, length, map, get_or, sum_by, refl, sym, ap, ◌∙◌, arith, subst, inl, inr}
use Rattle.std.specs.List.{Contains, list_any, range_with_len}
use Rattle.std.proofs.lemmas.Bool.{cases_Bool, cases_eq, cases_lt, eq-eqb, ne_eqb}
use Rattle.std.proofs.lemmas.List.{get_or_past}
use Rattle.std.proofs.lemmas.List.Folds.{list_any_at}
use Rattle.bsp_model.specs.Same.{same_words}
use Rattle.bsp_model.specs.declared.cost.CostRow.{CostRow}
use Rattle.bsp_model.specs.declared.request.Get.{Get}
use Rattle.bsp_model.specs.declared.request.Put.{Put}
use Rattle.bsp_model.specs.declared.request.Send.{Send}
use Rattle.bsp_step.specs.OutcomeParts.{OutcomeParts, no_outcome, outcome_of}
use Rattle.bsp_deliver.specs.Cost.{Transfer, get_transfer, put_transfer, send_transfer, transfers, count_sent, count_received, largest, h_relation}
use Rattle.bsp_deliver.specs.Requests.{all_gets, all_puts, all_sends, requests_from, words_read}
use Rattle.bsp_deliver.proofs.SameDelivery.{Decides-words}
use Rattle.bsp_run.specs.Run.{Run}
use Rattle.bsp_run.specs.Supersteps.{supersteps_of}
use Rattle.bsp_run.proofs.OneRun.{front}
use Rattle.bsp_incr.specs.declared.reply.Place.{Place}
use Rattle.bsp_incr.specs.declared.reply.Update.{Update}
use Rattle.bsp_causes.specs.Inside.Travel.{reads_other}
use Rattle.bsp_causes.specs.Travel.{has_requests, has_some, outcomes_again, requests_again}
use Rattle.bsp_causes.specs.UpdateCost.{have_other_tables, is_one_of, is_redone, is_synchronised, outcomes_at, processes_at, row_again, step_cost, travelling, update_cost, views_after, work_of}
use Rattle.bsp_causes.proofs.Travelling.{length-again, outcome-again_at}
use Rattle.bsp_laws.specs.Costs.{IsAskedAgain, IsIssuedAgain, IsPaid, TravelsArePaid}
use Rattle.bsp_causes.proofs.Sums.{total}
use Rattle.bsp_laws.proofs.AtMost.{total-cons}
use Rattle.bsp_laws.proofs.PlacesAt.{here, there, is_listed}
use Rattle.bsp_laws.proofs.RowsOf.{row_delivered}

-- members of lists

contains_range : (a n k : ℕ) → a ≤ k → k < a + n → Contains (range_with_len a n) k
contains_range a zero k l m = absurd (omega arith)
contains_range a (suc n) k l m =
    elim (cases_eq a k) [
      | inl e ↦ (0, omega arith, e)
      | inr ne ↦ there a (range_with_len (a + 1) n) k (contains_range (a + 1) n k (omega arith) (omega arith))
    ]

contains_filter : {X : Type 0} (test : X → Bool) (xs : List X) (x : X) → test x ≡ true → Contains xs x → Contains (filter test xs) x
contains_filter test [] x t c = absurd (omega (arith, c.1))
contains_filter test (y ∷ ys) x t (zero, inside, is) =
    subst (λ zs. Contains zs x) (sym (ap (λ b. cond b (y ∷ filter test ys) (filter test ys)) (ap test is ∙ t))) (0, omega arith, is)
contains_filter test (y ∷ ys) x t (suc k, inside, is) =
    let rest = contains_filter test ys x t (k, omega (arith, inside), is) in
    elim (test y) as (λ b. Contains (cond b (y ∷ filter test ys) (filter test ys)) x) [ true ↦ there y (filter test ys) x rest | false ↦ rest ]

contains_map : {X Y : Type 0} (f : X → Y) (xs : List X) (x : X) → Contains xs x → Contains (map f xs) (f x)
contains_map f [] x c = absurd (omega (arith, c.1))
contains_map f (y ∷ ys) x (zero, inside, is) = (0, omega arith, ap f is)
contains_map f (y ∷ ys) x (suc k, inside, is) = there (f y) (map f ys) (f x) (contains_map f ys x (k, omega (arith, inside), is))

contains_left : {X : Type 0} (xs ys : List X) (x : X) → Contains xs x → Contains (xs ++ ys) x
contains_left [] ys x c = absurd (omega (arith, c.1))
contains_left (z ∷ xs) ys x (zero, inside, is) = (0, omega arith, is)
contains_left (z ∷ xs) ys x (suc k, inside, is) = there z (xs ++ ys) x (contains_left xs ys x (k, omega (arith, inside), is))

contains_right : {X : Type 0} (xs ys : List X) (x : X) → Contains ys x → Contains (xs ++ ys) x
contains_right [] ys x c = c
contains_right (z ∷ xs) ys x c = there z (xs ++ ys) x (contains_right xs ys x c)

-- a request of a process is one of all

request_from : {R : Type 0} (of : OutcomeParts → List R) (n m : ℕ) (us : List OutcomeParts) (p : ℕ) (r : R) → m ≡ n + p → p < length us → Contains (of (outcome_of us p)) r → Contains {X = ℕ × R} (requests_from of n us) (m, r)
request_from {R = R} of n m [] p r e l c = absurd (omega arith)
request_from {R = R} of n m (u ∷ us) zero r e l c =
    let k : n ≡ m = omega arith in
    contains_left (map (λ x. (n, x)) (of u)) (requests_from of (n + 1) us) (m, r) (subst (λ j. Contains {X = ℕ × R} (map (λ x. (n, x)) (of u)) (j, r)) k (contains_map (λ x. (n, x)) (of u) r c))
request_from {R = R} of n m (u ∷ us) (suc p) r e l c =
    contains_right (map (λ x. (n, x)) (of u)) (requests_from of (n + 1) us) (m, r) (request_from of (n + 1) m us p r (omega arith) (omega arith) c)

put_moves : (us : List OutcomeParts) (p : ℕ) (r : Put) → p < length us → Contains (outcome_of us p).puts r → Contains (transfers us) (put_transfer p r)
unfolding transfers all_puts all_gets all_sends
put_moves us p r l c =
    let puts = map (λ (x : ℕ × Put). put_transfer x.0 x.1) (requests_from (λ o. o.puts) 0 us) in
    let gets = map (λ (x : ℕ × Get). get_transfer x.0 x.1) (requests_from (λ o. o.gets) 0 us) in
    let sends = map (λ (x : ℕ × Send). send_transfer x.0 x.1) (requests_from (λ o. o.sends) 0 us) in
    contains_left (puts ++ gets) sends (put_transfer p r)
    (contains_left puts gets (put_transfer p r) (contains_map (λ (x : ℕ × Put). put_transfer x.0 x.1) (requests_from (λ o. o.puts) 0 us) (p, r) (request_from (λ o. o.puts) 0 p us p r (omega arith) l c)))

get_moves : (us : List OutcomeParts) (p : ℕ) (r : Get) → p < length us → Contains (outcome_of us p).gets r → Contains (transfers us) (get_transfer p r)
unfolding transfers all_puts all_gets all_sends
get_moves us p r l c =
    let puts = map (λ (x : ℕ × Put). put_transfer x.0 x.1) (requests_from (λ o. o.puts) 0 us) in
    let gets = map (λ (x : ℕ × Get). get_transfer x.0 x.1) (requests_from (λ o. o.gets) 0 us) in
    let sends = map (λ (x : ℕ × Send). send_transfer x.0 x.1) (requests_from (λ o. o.sends) 0 us) in
    contains_left (puts ++ gets) sends (get_transfer p r)
    (contains_right puts gets (get_transfer p r) (contains_map (λ (x : ℕ × Get). get_transfer x.0 x.1) (requests_from (λ o. o.gets) 0 us) (p, r) (request_from (λ o. o.gets) 0 p us p r (omega arith) l c)))

send_moves : (us : List OutcomeParts) (p : ℕ) (r : Send) → p < length us → Contains (outcome_of us p).sends r → Contains (transfers us) (send_transfer p r)
unfolding transfers all_puts all_gets all_sends
send_moves us p r l c =
    let puts = map (λ (x : ℕ × Put). put_transfer x.0 x.1) (requests_from (λ o. o.puts) 0 us) in
    let gets = map (λ (x : ℕ × Get). get_transfer x.0 x.1) (requests_from (λ o. o.gets) 0 us) in
    let sends = map (λ (x : ℕ × Send). send_transfer x.0 x.1) (requests_from (λ o. o.sends) 0 us) in
    contains_right (puts ++ gets) sends (send_transfer p r)
    (contains_map (λ (x : ℕ × Send). send_transfer x.0 x.1) (requests_from (λ o. o.sends) 0 us) (p, r) (request_from (λ o. o.sends) 0 p us p r (omega arith) l c))

-- the words that one process sends or receives are at most the h-relation

member_total : (P : Transfer → Bool) (ts : List Transfer) (t : Transfer) → P t ≡ true → Contains ts t → t.count ≤ total P ts
member_total P [] t e c = absurd (omega (arith, c.1))
member_total P (x ∷ ts) t e (zero, inside, is) =
    let same : cond (P x) x.count 0 ≡ t.count = (λ i. cond (P (is i)) (is i).count 0) ∙ ap (λ b. cond b t.count 0) e in
    omega (arith, same, total-cons P x ts)
member_total P (x ∷ ts) t e (suc k, inside, is) = omega (arith, member_total P ts t e (k, omega (arith, inside), is), total-cons P x ts)

largest_from : (f : ℕ → ℕ) (a n p : ℕ) → a ≤ p → p < a + n → f p ≤ largest (map f (range_with_len a n))
largest_from f a zero p l m = absurd (omega arith)
largest_from f a (suc n) p l m =
    elim (cases_eq a p) [
      | inl e ↦ let same : f p ≡ f a = ap f (sym e) in omega (arith, same)
      | inr ne ↦ omega (arith, largest_from f (a + 1) n p (omega arith) (omega arith))
    ]

both_true : (b c : Bool) → b ≡ true → c ≡ false → (b && not c) ≡ true
both_true b c e f = λ i. e i && not (f i)

sent_within : (us : List OutcomeParts) (p : ℕ) (t : Transfer) → p < length us → t.source ≡ p → (t.target ≡ p → ⊥) → Contains (transfers us) t → t.count ≤ h_relation us
unfolding h_relation
sent_within us p t l from other c =
    let P : Transfer → Bool = λ x. (x.source == p) && not (x.target == p) in
    let words : t.count ≤ count_sent (transfers us) p = member_total P (transfers us) t (both_true (t.source == p) (t.target == p) (eq-eqb t.source p from) (ne_eqb t.target p other)) c in
    omega (arith, words, largest_from (count_sent (transfers us)) 0 (length us) p (omega arith) (omega arith))

received_within : (us : List OutcomeParts) (p : ℕ) (t : Transfer) → p < length us → t.target ≡ p → (t.source ≡ p → ⊥) → Contains (transfers us) t → t.count ≤ h_relation us
unfolding h_relation
received_within us p t l to other c =
    let P : Transfer → Bool = λ x. (x.target == p) && not (x.source == p) in
    let words : t.count ≤ count_received (transfers us) p = member_total P (transfers us) t (both_true (t.target == p) (t.source == p) (eq-eqb t.target p to) (ne_eqb t.source p other)) c in
    omega (arith, words, largest_from (count_received (transfers us)) 0 (length us) p (omega arith) (omega arith))

-- there is a request

or_true : (b : Bool) → (b || true) ≡ true
or_true true = refl
or_true false = refl

some_there : {R : Type 0} (rs : List R) (r : R) → Contains rs r → has_some rs ≡ true
some_there [] r c = absurd (omega (arith, c.1))
some_there (x ∷ rs) r c = refl

have_requests_at : (us : List OutcomeParts) (p : ℕ) → p < length us → has_requests (outcome_of us p) ≡ true → list_any has_requests us ≡ true
have_requests_at us p l e = list_any_at has_requests us p no_outcome l e

-- a process that has a request is there
is_there : {R : Type 0} (of : OutcomeParts → List R) (os : List OutcomeParts) (p : ℕ) (r : R) → of no_outcome ≡ [] → Contains (of (outcome_of os p)) r → p < length os
is_there of os p r none c =
    elim (cases_lt p (length os)) [
      | inl l ↦ l
      | inr m ↦ let empty : of (outcome_of os p) ≡ [] = ap of (get_or_past os p no_outcome m) ∙ none in absurd (omega (arith, c.1, ap (λ rs. length rs) empty))
    ]

-- its places tell that it did something again
one_of : (places : List Place) (s p : ℕ) → Contains places (record { step = s; pid = p }) → is_one_of (processes_at places s) p ≡ true
one_of places s p c =
    let listed = is_listed places s p c in
    list_any_at (λ q. q == p) (processes_at places s) listed.0 p listed.1 (eq-eqb (get_or (processes_at places s) listed.0 p) p listed.2)

redone_turn : (update : Update) (s p : ℕ) → Contains update.executed (record { step = s; pid = p }) → is_redone update s ≡ true
redone_turn update s p c = ap (λ b. b || has_some (processes_at update.redelivered s)) (some_there (processes_at update.executed s) p (is_listed update.executed s p c))

redone_delivery : (update : Update) (s p : ℕ) → Contains update.redelivered (record { step = s; pid = p }) → is_redone update s ≡ true
redone_delivery update s p c = ap (λ b. has_some (processes_at update.executed s) || b) (some_there (processes_at update.redelivered s) p (is_listed update.redelivered s p c)) ∙ or_true (has_some (processes_at update.executed s))

synchronised : (old : Option Run) (run : Run) (s : ℕ) (ts ds : List ℕ) → list_any has_requests (travelling old run s ts ds (outcomes_at (Some run) s)) ≡ true → is_synchronised old run s ts ds ≡ true
unfolding is_synchronised
synchronised old run s ts ds h =
    let tables = have_other_tables (views_after old s) (views_after (Some run) s) in
    let gone = list_any has_requests (travelling old run s ts ds (outcomes_at old s)) in
    ap (λ b. (tables || b) || gone) h ∙ ap (λ b. b || gone) (or_true tables)

-- the row of a superstep in which so many words travelled
row_paid : (old : Option Run) (run : Run) (update : Update) (s words : ℕ) → s < length run.past → is_redone update s ≡ true
    → (let us = travelling old run s (processes_at update.executed s) (processes_at update.redelivered s) (outcomes_at (Some run) s) in (list_any has_requests us ≡ true) × (words ≤ h_relation us)) → IsPaid (update_cost old run update) run s words
unfolding update_cost
row_paid old run update s words inside redone moved =
    let ts = processes_at update.executed s in
    let ds = processes_at update.redelivered s in
    let os = outcomes_at (Some run) s in
    let us = travelling old run s ts ds os in
    let f = step_cost old run update in
    let at = (front run s inside).0 in
    let row : row_again old run s ts ds ≡ record { work = work_of ts os; h = h_relation us; cost = work_of ts os + h_relation us * run.g + run.l } =
    row_delivered old run s ts ds inside
    ∙ ap (λ b. record { work = work_of ts os; h = h_relation us; cost = work_of ts os + h_relation us * run.g + cond b run.l 0 }) (synchronised old run s ts ds moved.0) in
    let work = ap (λ (r : CostRow). r.work) row in
    let h = ap (λ (r : CostRow). r.h) row in
    let cost = ap (λ (r : CostRow). r.cost) row in
    let price : (row_again old run s ts ds).h * run.g ≡ h_relation us * run.g = ap (λ n. n * run.g) h in
    record {
      row = f s;
      stands = contains_map f (filter (is_redone update) (range_with_len 0 (length (supersteps_of run)))) s
          (contains_filter (is_redone update) (range_with_len 0 (length (supersteps_of run))) s redone (contains_range 0 (length (supersteps_of run)) s (omega arith) (omega (arith, at))));
      step = refl;
      h = omega (arith, moved.1, h);
      paid = omega (arith, work, price, cost);
    }

-- what a process whose turn was taken again issues again
issued_again : (old : Option Run) (run : Run) (update : Update) (s p : ℕ) → p < length (outcomes_at (Some run) s) → Contains update.executed (record { step = s; pid = p })
    → (let us = travelling old run s (processes_at update.executed s) (processes_at update.redelivered s) (outcomes_at (Some run) s) in (p < length us) × (outcome_of us p ≡ requests_again true (is_one_of (processes_at update.redelivered s)) (λ g. true) (outcome_of (outcomes_at (Some run) s) p)))
issued_again old run update s p l c =
    let T = is_one_of (processes_at update.executed s) in
    let D = is_one_of (processes_at update.redelivered s) in
    let os = outcomes_at (Some run) s in
    let R = reads_other (outcomes_at old s) os in
    (omega (arith, l, length-again T D R 0 os), outcome-again_at T D R os p l ∙ ap (λ b. requests_again b D (λ g. D p && R g) (outcome_of os p)) (one_of update.executed s p c))

paid_puts : (old : Option Run) (run : Run) (update : Update) (s p : ℕ) → s < length run.past → (put : Put) → Contains (outcome_of (outcomes_at (Some run) s) p).puts put → IsIssuedAgain update s p put.target
    → IsPaid (update_cost old run update) run s (length put.words)
paid_puts old run update s p inside put c h =
    let os = outcomes_at (Some run) s in
    let ds = processes_at update.redelivered s in
    let us = travelling old run s (processes_at update.executed s) ds os in
    let there = is_there (λ o. o.puts) os p put refl c in
    let own = issued_again old run update s p there h.sender in
    let member : Contains (outcome_of us p).puts put =
    subst (λ (o : OutcomeParts). Contains o.puts put) (sym own.1) (contains_filter (λ (r : Put). is_one_of ds r.target) (outcome_of os p).puts put (one_of update.redelivered s put.target h.receiver) c) in
    let some : has_requests (outcome_of us p) ≡ true = ap (λ b. (b || has_some (outcome_of us p).gets) || has_some (outcome_of us p).sends) (some_there (outcome_of us p).puts put member) in
    row_paid old run update s (length put.words) inside (redone_turn update s p h.sender)
    (have_requests_at us p own.0 some, sent_within us p (put_transfer p put) own.0 refl h.other (put_moves us p put own.0 member))

paid_sends : (old : Option Run) (run : Run) (update : Update) (s p : ℕ) → s < length run.past → (send : Send) → Contains (outcome_of (outcomes_at (Some run) s) p).sends send → IsIssuedAgain update s p send.target
    → IsPaid (update_cost old run update) run s (length send.tag + length send.words)
paid_sends old run update s p inside send c h =
    let os = outcomes_at (Some run) s in
    let ds = processes_at update.redelivered s in
    let us = travelling old run s (processes_at update.executed s) ds os in
    let there = is_there (λ o. o.sends) os p send refl c in
    let own = issued_again old run update s p there h.sender in
    let member : Contains (outcome_of us p).sends send =
    subst (λ (o : OutcomeParts). Contains o.sends send) (sym own.1) (contains_filter (λ (r : Send). is_one_of ds r.target) (outcome_of os p).sends send (one_of update.redelivered s send.target h.receiver) c) in
    let some : has_requests (outcome_of us p) ≡ true =
    ap (λ b. (has_some (outcome_of us p).puts || has_some (outcome_of us p).gets) || b) (some_there (outcome_of us p).sends send member) ∙ or_true (has_some (outcome_of us p).puts || has_some (outcome_of us p).gets) in
    row_paid old run update s (length send.tag + length send.words) inside (redone_turn update s p h.sender)
    (have_requests_at us p own.0 some, sent_within us p (send_transfer p send) own.0 refl h.other (send_moves us p send own.0 member))

-- a get that is among those that travel again
paid_get : (old : Option Run) (run : Run) (update : Update) (s p : ℕ) (get : Get) → s < length run.past → is_redone update s ≡ true → get.owner ≢ p
    → (let us = travelling old run s (processes_at update.executed s) (processes_at update.redelivered s) (outcomes_at (Some run) s) in (p < length us) × Contains (outcome_of us p).gets get) → IsPaid (update_cost old run update) run s get.len
paid_get old run update s p get inside redone other own =
    let us = travelling old run s (processes_at update.executed s) (processes_at update.redelivered s) (outcomes_at (Some run) s) in
    let some : has_requests (outcome_of us p) ≡ true =
    ap (λ b. (has_some (outcome_of us p).puts || b) || has_some (outcome_of us p).sends) (some_there (outcome_of us p).gets get own.1)
    ∙ ap (λ b. b || has_some (outcome_of us p).sends) (or_true (has_some (outcome_of us p).puts)) in
    row_paid old run update s get.len inside redone (have_requests_at us p own.0 some, received_within us p (get_transfer p get) own.0 refl other (get_moves us p get own.0 own.1))

-- a get that reads other words, whether the turn was taken again or not
read_there : (T : Bool) (D : ℕ → Bool) (r : Get → Bool) (o : OutcomeParts) (get : Get) → r get ≡ true → Contains o.gets get → Contains (requests_again T D r o).gets get
read_there true D r o get e c = c
read_there false D r o get e c = contains_filter r o.gets get e c

reads_other_words : (before after : List OutcomeParts) (get : Get) → words_read before get ≢ words_read after get → reads_other before after get ≡ true
reads_other_words before after get other =
    elim (cases_Bool (same_words (words_read before get) (words_read after get))) [
      | inl t ↦ absurd (other ((Decides-words (words_read before get) (words_read after get)).0 t))
      | inr f ↦ ap not f
    ]

paid_gets : (old : Option Run) (run : Run) (update : Update) (s p : ℕ) → s < length run.past → (get : Get) → Contains (outcome_of (outcomes_at (Some run) s) p).gets get → IsAskedAgain old run update s p get
    → IsPaid (update_cost old run update) run s get.len
paid_gets old run update s p inside get c h =
    let os = outcomes_at (Some run) s in
    let there = is_there (λ o. o.gets) os p get refl c in
    elim h.travels [
      | inl executed ↦
          let own = issued_again old run update s p there executed in
          paid_get old run update s p get inside (redone_turn update s p executed) h.other (own.0, subst (λ (o : OutcomeParts). Contains o.gets get) (sym own.1) c)
      | inr redelivered ↦
          let T = is_one_of (processes_at update.executed s) in
          let D = is_one_of (processes_at update.redelivered s) in
          let R = reads_other (outcomes_at old s) os in
          let reads : (D p && R get) ≡ true = (λ i. one_of update.redelivered s p redelivered.0 i && reads_other_words (outcomes_at old s) os get redelivered.1 i) in
          paid_get old run update s p get inside (redone_delivery update s p redelivered.0) h.other (
            omega (arith, there, length-again T D R 0 os),
            subst (λ (o : OutcomeParts). Contains o.gets get) (sym (outcome-again_at T D R os p there)) (read_there (T p) D (λ g. D p && R g) (outcome_of os p) get reads c),
          )
    ]

pub travels_paid : TravelsArePaid
travels_paid old run update s p inside = record { puts = paid_puts old run update s p inside; gets = paid_gets old run update s p inside; sends = paid_sends old run update s p inside }
