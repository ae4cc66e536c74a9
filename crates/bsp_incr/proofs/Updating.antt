-- The update grows by what each superstep needs.
use Rattle.std.proofs.Common.{◌≡◌, ◌+◌, ℕ, Bool, List, [], ◌∷◌, ◌++◌, Option, length, arith, sym, ap, ◌∙◌, append_assoc}
use Rattle.std.proofs.lemmas.List.{append-nil}
use Rattle.bsp_step.specs.ViewParts.{ViewParts}
use Rattle.bsp_step.specs.OutcomeParts.{OutcomeParts}
use Rattle.bsp_run.specs.declared.phase.Phase.TheVariants.{Open}
use Rattle.bsp_run.specs.declared.superstep.Superstep.{Superstep}
use Rattle.bsp_run.specs.Run.{Run, open_views, after_turns, after_delivery}
use Rattle.bsp_run.specs.Supersteps.{supersteps_of, superstep_at}
use Rattle.bsp_run.proofs.Records.{superstep, supersteps-open, supersteps-turned, supersteps-delivered, past-delivered, past-turned}
use Rattle.bsp_incr.specs.declared.reply.Place.{Place}
use Rattle.bsp_incr.specs.declared.reply.Update.{Update}
use Rattle.bsp_incr.specs.Inside.Changes.{places_of, gathered, turns_in, turn_test, differ, differ_in, deliveries_in, delivery_test, touched, touched_in, update_of}
use Rattle.bsp_model.specs.ProcessSet.{processes_where}
use Rattle.bsp_incr.specs.Exact.{supersteps_before, delivered_before}
use Rattle.bsp_incr.specs.Inside.Before.{views_before, delivered_outcomes}

-- one superstep more
gathered-push : (count : Superstep → ℕ) (test : ℕ → Superstep → ℕ → Bool) (n m : ℕ) (xs : List Superstep) (x : Superstep) → n + length xs ≡ m → gathered count test n (xs ++ x ∷ []) ≡ gathered count test n xs ++ places_of m (processes_where (count x) (test m x))
gathered-push count test n m [] x e =
    let at : n ≡ m = omega arith in
    append-nil (places_of n (processes_where (count x) (test n x))) ∙ ap (λ k. places_of k (processes_where (count x) (test k x))) at
gathered-push count test n m (y ∷ xs) x e =
    let here = places_of n (processes_where (count y) (test n y)) in
    ap (λ (zs : List Place). here ++ zs) (gathered-push count test (n + 1) m xs x (omega arith))
    ∙ sym (append_assoc here (gathered count test (n + 1) xs) (places_of m (processes_where (count x) (test m x))))

differ-push : (looks : ViewParts → ℕ → Bool) (olds xs : List Superstep) (x : Superstep) → differ looks olds (xs ++ x ∷ []) ≡ differ looks olds xs ++ differ_in looks (length xs) (superstep_at olds (length xs)).views x.views
unfolding differ
differ-push looks olds xs x = gathered-push turns_in (turn_test looks olds) 0 (length xs) xs x (omega arith)

touched-push : (olds xs : List Superstep) (x : Superstep) → touched olds (xs ++ x ∷ []) ≡ touched olds xs ++ touched_in (length xs) (superstep_at olds (length xs)).outcomes x.outcomes
unfolding touched
touched-push olds xs x = gathered-push deliveries_in (delivery_test olds) 0 (length xs) xs x (omega arith)

executed_more : (looks : ViewParts → ℕ → Bool) (old : Option Run) (r : Run) (os : List OutcomeParts) (before after : List Place) (all : List Superstep) → r.phase ≡ Open → all ≡ r.past ++ superstep (open_views r) os ∷ [] → before ≡ differ looks (supersteps_before old) (supersteps_of r)
    → after ≡ before ++ differ_in looks (length r.past) (views_before old (length r.past)) (open_views r) → after ≡ differ looks (supersteps_before old) all
executed_more looks old r os before after all e is h k =
    let olds = supersteps_before old in
    k ∙ ap (λ (xs : List Place). xs ++ differ_in looks (length r.past) (views_before old (length r.past)) (open_views r)) (h ∙ ap (differ looks olds) (supersteps-open r e))
    ∙ sym (differ-push looks olds r.past (superstep (open_views r) os)) ∙ ap (differ looks olds) (sym is)

-- updates with equal lists
pub same_update : (u v : Update) → u.executed ≡ v.executed → u.redelivered ≡ v.redelivered → u ≡ v
same_update u v e d = λ i. record { executed = e i; redelivered = d i }

-- the update after the turns of a superstep that ends the run
pub updated_turned : (looks : ViewParts → ℕ → Bool) (old : Option Run) (r : Run) (os : List OutcomeParts) (u v : Update) → r.phase ≡ Open → u ≡ update_of looks old r → v.executed ≡ u.executed ++ differ_in looks (length r.past) (views_before old (length r.past)) (open_views r) → v.redelivered ≡ u.redelivered → v ≡ update_of looks old (after_turns r os)
updated_turned looks old r os u v e h k l =
    same_update v (update_of looks old (after_turns r os))
    (executed_more looks old r os u.executed v.executed (supersteps_of (after_turns r os)) e (supersteps-turned r os) (ap (λ (x : Update). x.executed) h) k)
    (l ∙ ap (λ (x : Update). x.redelivered) h ∙ ap (touched (delivered_before old)) (sym (past-turned r os)))

-- the update after its deliveries
pub updated_delivered : (looks : ViewParts → ℕ → Bool) (old : Option Run) (r : Run) (os : List OutcomeParts) (u v : Update) → r.phase ≡ Open → u ≡ update_of looks old r → v.executed ≡ u.executed ++ differ_in looks (length r.past) (views_before old (length r.past)) (open_views r)
    → v.redelivered ≡ u.redelivered ++ touched_in (length r.past) (delivered_outcomes old (length r.past)) os → v ≡ update_of looks old (after_delivery (after_turns r os))
updated_delivered looks old r os u v e h k l =
    same_update v (update_of looks old (after_delivery (after_turns r os)))
    (executed_more looks old r os u.executed v.executed (supersteps_of (after_delivery (after_turns r os))) e (supersteps-delivered r os) (ap (λ (x : Update). x.executed) h) k)
    (l ∙ ap (λ (x : Update). x.redelivered ++ touched_in (length r.past) (delivered_outcomes old (length r.past)) os) h
    ∙ sym (touched-push (delivered_before old) r.past (superstep (open_views r) os)) ∙ ap (touched (delivered_before old)) (sym (past-delivered r os)))
