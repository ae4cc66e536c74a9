-- Senders that put nothing to the processes whose memories are written are passed over.
use Rattle.std.proofs.Common.{◌≡◌, ◌≤◌, ◌<◌, ℕ, zero, suc, ◌+◌, Bool, true, false, List, [], ◌∷◌, length, get_or, take, fold, All, refl, sym, ap, ◌∙◌, subst, arith, inl, inr}
use Rattle.std.specs.Prelude.{slice_index, slice_index_or}
use Rattle.std.proofs.lemmas.Bool.{cases_lt}
use Rattle.std.proofs.lemmas.List.{set_past, take_all}
use Rattle.std.proofs.lemmas.List.Elements.{All-head, All-tail}
use Rattle.bsp_model.specs.declared.request.Put.{Put}
use Rattle.bsp_model.specs.PutsTo.{AreToNone}
use Rattle.bsp_step.specs.OutcomeParts.{OutcomeParts, outcome_of}
use Rattle.bsp_deliver.specs.Requests.{requests_from}
use Rattle.bsp_deliver.specs.Condition.{sizes_of, AreRequestsInside}
use Rattle.bsp_deliver.specs.Inside.Gathering.{put_at, put_into, ArePlaces, AreTargets}
use Rattle.bsp_deliver.proofs.Gathered.{folded_more, length-gathered}
use Rattle.bsp_deliver.proofs.Senders.{at_item, outcome_at, length-sizes_of}

-- puts to no place change nothing
none_written : (places : List ℕ) (targets : List Bool) (memories : List (List ℕ)) (puts : List Put) → AreTargets (length memories) places targets → All (λ p. p.target < length places) puts
    → AreToNone targets puts → fold (put_at places) memories puts ≡ memories
none_written places targets memories [] are known none = refl
none_written places targets memories (p ∷ puts) are known none =
    let past = are p.target (All-head (λ q. q.target < length places) p puts known) (All-head (λ q. slice_index_or targets q.target false ≡ false) p puts none) in
    let kept : put_at places memories p ≡ memories =
    set_past memories (get_or places p.target 0) (put_into (slice_index_or memories (get_or places p.target 0) []) p) past in
    ap (λ ms. fold (put_at places) ms puts) kept
    ∙ none_written places targets memories puts are (All-tail (λ q. q.target < length places) p puts known) (All-tail (λ q. slice_index_or targets q.target false ≡ false) p puts none)

-- the memories after the puts of the first senders
abbrev pub after_senders : List ℕ → List (List ℕ) → List OutcomeParts → ℕ → List (List ℕ)
after_senders places memories os n = fold (λ ms s. put_at places ms s.1) memories (requests_from (λ (o : OutcomeParts). o.puts) 0 (take n os))

length-after : (places : List ℕ) (memories : List (List ℕ)) (os : List OutcomeParts) (n : ℕ) → length (after_senders places memories os n) ≡ length memories
length-after places memories os n =
    length-gathered (λ memory (s : ℕ × Put). put_into memory s.1) [] (λ s. slice_index places s.1.target) memories (requests_from (λ (o : OutcomeParts). o.puts) 0 (take n os))

pub targets_known : (places : List ℕ) (os : List OutcomeParts) (p : ℕ) → All (AreRequestsInside (sizes_of os)) os → length places ≡ length os → p < length os → All (λ (r : Put). r.target < length places) (outcome_of os p).puts
targets_known places os p inside count here =
    let o = outcome_of os p in
    let requests = at_item (AreRequestsInside (sizes_of os)) os p o inside here (outcome_at os p here) in
    λ k r l. omega (arith, (requests.puts k r l).known, length-sizes_of os, count)

one_skipped : (places : List ℕ) (targets : List Bool) (memories : List (List ℕ)) (os : List OutcomeParts) (p : ℕ) → All (AreRequestsInside (sizes_of os)) os → length places ≡ length os → AreTargets (length memories) places targets
    → AreToNone targets (outcome_of os p).puts → after_senders places memories os (p + 1) ≡ after_senders places memories os p
one_skipped places targets memories os p inside count are none =
    elim (cases_lt p (length os)) [
      | inl here ↦
          let o = outcome_of os p in
          let before = after_senders places memories os p in
          let long : length before ≡ length memories = length-after places memories os p in
          folded_more (λ (o : OutcomeParts). o.puts) (put_at places) memories os p o here (outcome_at os p here)
          ∙ none_written places targets before o.puts (subst (λ n. AreTargets n places targets) (sym long) are) (targets_known places os p inside count here) none
      | inr past ↦ ap (λ xs. fold (λ ms s. put_at places ms s.1) memories (requests_from (λ (o : OutcomeParts). o.puts) 0 xs)) (take_all (p + 1) os (omega (arith, past)) ∙ sym (take_all p os past))
    ]

pub senders_skipped : (places : List ℕ) (targets : List Bool) (memories : List (List ℕ)) (os : List OutcomeParts) (from n next : ℕ) → All (AreRequestsInside (sizes_of os)) os → length places ≡ length os → AreTargets (length memories) places targets
    → from + n ≡ next → ((p : ℕ) → from ≤ p → p < next → AreToNone targets (outcome_of os p).puts) → after_senders places memories os next ≡ after_senders places memories os from
senders_skipped places targets memories os from zero next inside count are far none = ap (after_senders places memories os) (omega (arith, far))
senders_skipped places targets memories os from (suc n) next inside count are far none =
    let last : (from + n) + 1 ≡ next = omega (arith, far) in
    ap (after_senders places memories os) (sym last)
    ∙ one_skipped places targets memories os (from + n) inside count are (none (from + n) (omega arith) (omega (arith, last)))
    ∙ senders_skipped places targets memories os from n (from + n) inside count are refl (λ p behind below. none p behind (omega (arith, below, last)))

-- Who is not among the processes has a place past their end.
pub targets_of : (n : ℕ) (ps places : List ℕ) (targets : List Bool) → ArePlaces n ps places → All (λ d. slice_index_or targets d false ≡ true) ps → AreTargets (length ps) places targets
targets_of n ps places targets are members d within out =
    elim (cases_lt (get_or places d 0) (length ps)) [
      | inl inside ↦
          let k = get_or places d 0 in
          let here : get_or ps k 0 ≡ d = (are.each d k (omega (arith, within, are.count)) inside).0 refl in
          let member : slice_index_or targets d false ≡ true = ap (λ p. slice_index_or targets p false) (sym here) ∙ members k 0 inside in
          let clash : true ≡ false = sym member ∙ out in
          cc
      | inr past ↦ past
    ]
