-- The outcomes with the requests alone that travel again.
use Rattle.std.proofs.Common.{◌≡◌, ℕ, zero, suc, ◌+◌, ◌<◌, ◌≤◌, ◌^◌, ◌&&◌, ◌||◌, Bool, true, false, cond, not, nat_eq, List, [], ◌∷◌, All, filter, length, get_or, refl, sym, ap, ◌∙◌, arith, inl, inr}
use Rattle.std.specs.List.{list_any}
use Rattle.std.proofs.lemmas.Bool.{cases_Bool, ne_eqb}
use Rattle.std.proofs.lemmas.List.{get_or-map}
use Rattle.std.proofs.lemmas.List.Elements.{All-head, All-tail, All-weaker}
use Rattle.std.proofs.lemmas.List.FromFn.{get_or-map-range_with_len}
use Rattle.bsp_model.specs.Limits.{most_processes}
use Rattle.bsp_model.specs.Same.{same_words}
use Rattle.bsp_model.specs.declared.request.Get.{Get}
use Rattle.bsp_model.specs.declared.request.Put.{Put}
use Rattle.bsp_model.specs.declared.request.Send.{Send}
use Rattle.bsp_step.specs.OutcomeParts.{OutcomeParts, outcome_of}
use Rattle.bsp_deliver.specs.Requests.{words_read}
use Rattle.bsp_deliver.specs.Condition.{sizes_of, AreRequestsInside, AreDeliverable}
use Rattle.bsp_deliver.proofs.SameDelivery.{Decides-words}
use Rattle.bsp_deliver.proofs.Senders.{length-sizes_of}
use Rattle.bsp_deliver.proofs.Writes.{each_below-same}
use Rattle.bsp_causes.specs.Inside.Travel.{reads_other}
use Rattle.bsp_causes.specs.Travel.{has_requests, has_some, outcomes_again, requests_again}
use Rattle.bsp_causes.specs.Inside.Travel.{AreBounded, AreTargetsBelow, HasAddresses}

abbrev pub no_get : Get
no_get = record { owner = 0; start = 0; len = 0; into = 0 }

-- a get reads other words where one of them is another

abbrev word_at : List OutcomeParts → Get → ℕ → ℕ
word_at os g i = get_or (outcome_of os g.owner).memory (g.start + i) 0

pub other_read : (before after : List OutcomeParts) (g : Get) (i : ℕ) → i < g.len → (word_at before g i ≡ word_at after g i → ⊥) → true ≡ reads_other before after g
other_read before after g i l other =
    let word : (os : List OutcomeParts) → get_or (words_read os g) i 0 ≡ word_at os g i = λ os. get_or-map-range_with_len (word_at os g) 0 g.len i i 0 l (omega arith) in
    elim (cases_Bool (same_words (words_read before g) (words_read after g))) [
      | inl t ↦ absurd (other (sym (word before) ∙ ap (λ (ws : List ℕ). get_or ws i 0) ((Decides-words (words_read before g) (words_read after g)).0 t) ∙ word after))
      | inr f ↦ sym (ap not f)
    ]

pub same_read : (before after : List OutcomeParts) (g : Get) → ((i : ℕ) → i < g.len → word_at before g i ≡ word_at after g i) → false ≡ reads_other before after g
same_read before after g same =
    sym (ap not ((Decides-words (words_read before g) (words_read after g)).1 (each_below-same g.len (word_at before g) (word_at after g) same)))

-- some requests pass a test where one does
pub has_some-filter : {R : Type 0} (test : R → Bool) (rs : List R) → has_some (filter test rs) ≡ list_any test rs
has_some-filter test [] = refl
has_some-filter test (r ∷ rs) =
    elim (test r) as (λ b. has_some (cond b (r ∷ filter test rs) (filter test rs)) ≡ (b || list_any test rs)) [ true ↦ refl | false ↦ has_some-filter test rs ]

-- process by process

pub length-again : (T D : ℕ → Bool) (R : Get → Bool) (a : ℕ) (os : List OutcomeParts) → length (outcomes_again T D R a os) ≡ length os
length-again T D R a [] = refl
length-again T D R a (o ∷ os) = ap (λ n. suc n) (length-again T D R (a + 1) os)

pub outcome-again : (T D : ℕ → Bool) (R : Get → Bool) (a : ℕ) (os : List OutcomeParts) (p : ℕ) → p < length os
    → outcome_of (outcomes_again T D R a os) p ≡ requests_again (T (a + p)) D (λ g. D (a + p) && R g) (outcome_of os p)
outcome-again T D R a [] p l = absurd (omega arith)
outcome-again T D R a (o ∷ os) zero l = let here : a ≡ a + 0 = omega arith in ap (λ n. requests_again (T n) D (λ g. D n && R g) o) here
outcome-again T D R a (o ∷ os) (suc p) l =
    let there : a + 1 + p ≡ a + suc p = omega arith in
    outcome-again T D R (a + 1) os p (omega arith) ∙ ap (λ n. requests_again (T n) D (λ g. D n && R g) (outcome_of os p)) there

-- of the first process 0
pub outcome-again_at : (T D : ℕ → Bool) (R : Get → Bool) (os : List OutcomeParts) (p : ℕ) → p < length os
    → outcome_of (outcomes_again T D R 0 os) p ≡ requests_again (T p) D (λ g. D p && R g) (outcome_of os p)
outcome-again_at T D R os p l =
    let here : 0 + p ≡ p = omega arith in
    outcome-again T D R 0 os p l ∙ ap (λ n. requests_again (T n) D (λ g. D n && R g) (outcome_of os p)) here

-- tests that answer the same for all processes find the same

abbrev AreSameBelow : ℕ → (ℕ → Bool) → (ℕ → Bool) → Type 0
AreSameBelow n f g = (p : ℕ) → p < n → f p ≡ g p

filter-agree : {R : Type 0} (f g : R → Bool) (rs : List R) → All (λ r. f r ≡ g r) rs → filter f rs ≡ filter g rs
filter-agree f g [] h = refl
filter-agree f g (r ∷ rs) h =
    let here : f r ≡ g r = All-head (λ x. f x ≡ g x) r rs h in
    let rest = filter-agree f g rs (All-tail (λ x. f x ≡ g x) r rs h) in
    (λ i. cond (here i) (r ∷ rest i) (rest i))

requests-agree : (b : Bool) (D E : ℕ → Bool) (d e : Bool) (R : Get → Bool) (n : ℕ) (o : OutcomeParts) → AreSameBelow n D E → d ≡ e → AreTargetsBelow n o
    → requests_again b D (λ g. d && R g) o ≡ requests_again b E (λ g. e && R g) o
requests-agree true D E d e R n o same here below =
    let puts = filter-agree (λ (p : Put). D p.target) (λ (p : Put). E p.target) o.puts (λ k x l. same (get_or o.puts k x).target (below.puts k x l)) in
    let sends = filter-agree (λ (m : Send). D m.target) (λ (m : Send). E m.target) o.sends (λ k x l. same (get_or o.sends k x).target (below.sends k x l)) in
    λ i. record o { puts = puts i; sends = sends i }
requests-agree false D E d e R n o same here below = ap (λ b. record o { puts = []; gets = filter (λ g. b && R g) o.gets; sends = [] }) here

pub again-agree : (T U D E : ℕ → Bool) (R : Get → Bool) (n a : ℕ) (os : List OutcomeParts) → AreSameBelow n T U → AreSameBelow n D E → a + length os ≤ n → All (AreTargetsBelow n) os
    → outcomes_again T D R a os ≡ outcomes_again U E R a os
again-agree T U D E R n a [] turned delivered few below = refl
again-agree T U D E R n a (o ∷ os) turned delivered few below =
    let first = ap (λ b. requests_again b D (λ g. D a && R g) o) (turned a (omega arith)) ∙ requests-agree (U a) D E (D a) (E a) R n o delivered (delivered a (omega arith)) (All-head (AreTargetsBelow n) o os below) in
    let later = again-agree T U D E R n (a + 1) os turned delivered (omega arith) (All-tail (AreTargetsBelow n) o os below) in
    (λ i. first i ∷ later i)

-- what can be delivered is to processes that there are ..
pub targets_below : (n : ℕ) (os : List OutcomeParts) → length os ≤ n → AreDeliverable os → All (AreTargetsBelow n) os
targets_below n os few h =
    let long : length (sizes_of os) ≡ length os = length-sizes_of os in
    All-weaker (AreRequestsInside (sizes_of os)) (AreTargetsBelow n)
    (λ o x. record { puts = λ k d l. let w = x.puts k d l in omega (arith, w.known, long, few); sends = λ k d l. let w = x.sends k d l in omega (arith, w, long, few) }) os h.inside

-- .. and the words that its gets read have addresses
have_addresses : (os : List OutcomeParts) → AreDeliverable os → All (λ o. All HasAddresses o.gets) os
have_addresses os h =
    let long : length (sizes_of os) ≡ length os = length-sizes_of os in
    All-weaker (AreRequestsInside (sizes_of os)) (λ o. All HasAddresses o.gets)
    (λ o x. λ k d l. let g : Get = get_or o.gets k d in
    let w = x.gets k d l in
    let known : g.owner < length os = omega (arith, w.known, long) in
    record { within = omega (arith, w.inside, get_or-map (λ (u : OutcomeParts). length u.memory) os g.owner (outcome_of os g.owner) 0 known, h.short g.owner (outcome_of os g.owner) known) }) os h.inside

pub bounded : (os : List OutcomeParts) → AreDeliverable os → AreBounded os
bounded os h = record { few = h.few; targets = targets_below most_processes os h.few h; addresses = have_addresses os h }

pub none_bounded : AreBounded []
none_bounded = record { few = omega arith; targets = λ k d l. absurd (omega arith); addresses = λ k d l. absurd (omega arith) }

-- what one process issues again

all_false : {R : Type 0} (rs : List R) → list_any (λ r. false) rs ≡ false
all_false [] = refl
all_false (r ∷ rs) = all_false rs

is_some : {R : Type 0} (rs : List R) → not (nat_eq (length rs) 0) ≡ has_some rs
is_some [] = refl
is_some (r ∷ rs) = ap not (ne_eqb (length (r ∷ rs)) 0 (λ e. omega (arith, e)))

pub issued : (D : ℕ → Bool) (R : Get → Bool) (o : OutcomeParts)
    → (list_any (λ p. D p.target) o.puts || not (nat_eq (length o.gets) 0) || list_any (λ m. D m.target) o.sends) ≡ has_requests (requests_again true D R o)
issued D R o =
    let puts = sym (has_some-filter (λ (p : Put). D p.target) o.puts) in
    let gets = is_some o.gets in
    let sends = sym (has_some-filter (λ (m : Send). D m.target) o.sends) in
    λ i. puts i || gets i || sends i

or_false : (b : Bool) → (b || false) ≡ b
or_false true = refl
or_false false = refl

-- what one process reads again
pub read_again : (D : ℕ → Bool) (d : Bool) (R : Get → Bool) (o : OutcomeParts) → (d && list_any R o.gets) ≡ has_requests (requests_again false D (λ g. d && R g) o)
read_again D true R o = sym (or_false (has_some (filter R o.gets)) ∙ has_some-filter R o.gets)
read_again D false R o = sym (or_false (has_some (filter (λ g. false) o.gets)) ∙ has_some-filter (λ (g : Get). false) o.gets ∙ all_false o.gets)
