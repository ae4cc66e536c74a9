-- The memories that the turns left, once they are handed on and the puts are written in them.
use Rattle.std.proofs.Common.{◌≡◌, ◌<◌, ◌+◌, ℕ, List, [], ◌∷◌, length, map, fold, All, refl, sym, ap, ◌∙◌, subst, arith}
use Rattle.std.specs.List.{range_with_len}
use Rattle.std.proofs.lemmas.Grind.{fold-append}
use Rattle.std.proofs.lemmas.List.{get_or-map, length-map}
use Rattle.std.proofs.lemmas.List.Folds.{fold-map}
use Rattle.std.proofs.lemmas.List.FromFn.{length-range_with_len}
use Rattle.bsp_model.specs.declared.request.Put.{Put}
use Rattle.bsp_model.proofs.Replaced.{map-all_places}
use Rattle.bsp_step.specs.OutcomeParts.{OutcomeParts, no_outcome}
use Rattle.bsp_deliver.specs.Requests.{requests_from, all_puts}
use Rattle.bsp_deliver.specs.Delivery.{get_write, delivery_parts, next_memory}
use Rattle.bsp_deliver.specs.Condition.{sizes_of, AreRequestsInside, AreDeliverable}
use Rattle.bsp_model.specs.Replaced.{IsAscending}
use Rattle.bsp_deliver.specs.Inside.Gathering.{overlay, put_at, ArePlaces}
use Rattle.bsp_deliver.proofs.AllProcesses.{all_known, all_ascending, at_own_place}
use Rattle.bsp_deliver.proofs.Gathered.{memories_gathered, all_unread}
use Rattle.bsp_deliver.proofs.SkippedSenders.{targets_known}

-- the puts of all senders, row by row
fold-rows : {S : Type 0} (step : S → Put → S) (os : List OutcomeParts) (n : ℕ) (s : S)
    → fold (λ x (puts : List Put). fold step x puts) s (map (λ (o : OutcomeParts). o.puts) os) ≡ fold (λ x (r : ℕ × Put). step x r.1) s (requests_from (λ (o : OutcomeParts). o.puts) n os)
fold-rows step [] n s = refl
fold-rows {S} step (o ∷ os) n s =
    let one : S → ℕ × Put → S = λ x r. step x r.1 in
    let later = requests_from (λ (o : OutcomeParts). o.puts) (n + 1) os in
    let own = map (λ (p : Put). (n, p)) o.puts in
    let first : fold step s o.puts ≡ fold one s own = sym (fold-map one (λ (p : Put). (n, p)) s o.puts) in
    fold-rows step os (n + 1) (fold step s o.puts) ∙ ap (λ x. fold one x later) first ∙ sym (fold-append one s own later)

-- the target of each put is a process
pub targets_all : (places : List ℕ) (os : List OutcomeParts) (rows : List (List Put)) → All (AreRequestsInside (sizes_of os)) os → length places ≡ length os → rows ≡ map (λ (o : OutcomeParts). o.puts) os
    → All (All (λ (p : Put). p.target < length places)) rows
targets_all places os rows inside count same = subst (All (All (λ (p : Put). p.target < length places))) (sym same)
    (λ k d within.
    let here : k < length os = omega (arith, within, length-map os (λ (o : OutcomeParts). o.puts)) in
    subst (All (λ (p : Put). p.target < length places)) (sym (get_or-map (λ (o : OutcomeParts). o.puts) os k no_outcome d here)) (targets_known places os k inside count here))

pub memories_moved : (os : List OutcomeParts) (ps : List ℕ) (handed : List (List ℕ)) (rows : List (List Put)) → AreDeliverable os → All (λ (o : OutcomeParts). o.gets ≡ []) os → ps ≡ range_with_len 0 (length os)
    → handed ≡ map (λ (o : OutcomeParts). o.memory) os → rows ≡ map (λ (o : OutcomeParts). o.puts) os
    → fold (λ ms (puts : List Put). fold (put_at ps) ms puts) handed rows ≡ map (λ d. next_memory (delivery_parts os d)) ps
unfolding all_puts
memories_moved os ps handed rows deliverable unread all same puts =
    let n = length os in
    let known : All (λ d. d < n) ps = subst (All (λ d. d < n)) (sym all) (all_known n) in
    let ascending : IsAscending ps = subst IsAscending (sym all) (all_ascending n) in
    let count : n ≡ length ps = sym (length-range_with_len 0 n) ∙ ap length (sym all) in
    let at : ArePlaces n ps ps = subst (λ (l : List ℕ). ArePlaces n l l) (sym all) (at_own_place n) in
    let computed : handed ≡ map (λ d. overlay (delivery_parts os d).memory (map get_write (delivery_parts os d).gets)) ps =
    same ∙ sym (map-all_places (λ (o : OutcomeParts). o.memory) os no_outcome ps known ascending count) ∙ all_unread os ps unread known in
    ap (fold (λ ms (ps' : List Put). fold (put_at ps) ms ps') handed) puts ∙ fold-rows (put_at ps) os 0 handed ∙ memories_gathered os ps ps handed deliverable known at computed
