-- A superstep's row, by sets of processes.
use Rattle.std.proofs.Common.{◌≡◌, ℕ, ◌+◌, ◌*◌, ◌<◌, ◌≤◌, ◌||◌, ◌==◌, Bool, true, false, cond, nat_lt, not, List, [], ◌∷◌, Option, Some, length, get_or, refl, sym, ap, ◌∙◌, arith}
use Rattle.std.specs.List.{list_any}
use Rattle.bsp_table.specs.Same.{same_table}
use Rattle.bsp_step.specs.OutcomeParts.{OutcomeParts}
use Rattle.bsp_step.specs.ViewParts.{ViewParts}
use Rattle.bsp_deliver.specs.Condition.{AreDeliverable}
use Rattle.bsp_deliver.specs.Cost.{h_relation}
use Rattle.bsp_model.specs.Limits.{most_processes}
use Rattle.bsp_model.specs.declared.cost.CostRow.{CostRow}
use Rattle.bsp_run.specs.Run.{Run}
use Rattle.bsp_run.specs.Condition.{no_view}
use Rattle.bsp_causes.specs.Inside.Travel.{reads_other}
use Rattle.bsp_causes.specs.Travel.{outcomes_again, has_requests}
use Rattle.bsp_causes.specs.UpdateCost.{have_other_tables, is_one_of, is_synchronised, outcomes_at, row_again, travelling, views_after, work_of}
use Rattle.bsp_causes.specs.Inside.Travel.{is_in, requests_in, AreBounded, IsRedone}
use Rattle.bsp_causes.specs.declared.travel.Redone.{Redone}
use Rattle.bsp_causes.proofs.Cases.{lt_holds, lt_fails}
use Rattle.bsp_causes.proofs.Travelling.{again-agree}

-- what the first processes see tells whether the tables are others
pub first_views : (vs ws : List ViewParts) → (length vs ≡ 0 → ⊥) → (length ws ≡ 0 → ⊥)
    → (not ((get_or vs 0 no_view).tag_size == (get_or ws 0 no_view).tag_size) || not (same_table (get_or vs 0 no_view).table (get_or ws 0 no_view).table)) ≡ have_other_tables vs ws
first_views [] ws some other = absurd (some refl)
first_views (v ∷ vs) [] some other = absurd (other refl)
first_views (v ∷ vs) (w ∷ ws) some other = refl

pub no_views_before : (vs ws : List ViewParts) → length vs ≡ 0 → true ≡ have_other_tables vs ws
no_views_before [] ws e = refl
no_views_before (v ∷ vs) ws e = absurd (omega (arith, e))

pub no_views_after : (vs ws : List ViewParts) → length ws ≡ 0 → true ≡ have_other_tables vs ws
no_views_after [] ws e = refl
no_views_after (v ∷ vs) [] e = refl
no_views_after (v ∷ vs) (w ∷ ws) e = absurd (omega (arith, e))

-- what is known of a superstep where its row is made
pub record IsRowAt (old : Option Run) (new : Run) (s : ℕ) (turned delivered : List ℕ) (redone : Redone) (os us : List OutcomeParts) : Type 0 where
  pub sets : IsRedone redone turned delivered
  pub before : os ≡ outcomes_at old s
  pub after : us ≡ outcomes_at (Some new) s
  pub bounded_before : AreBounded os
  pub bounded_after : AreBounded us

travelling_is : (old : Option Run) (new : Run) (s : ℕ) (turned delivered : List ℕ) (redone : Redone) (before after os us : List OutcomeParts) → IsRowAt old new s turned delivered redone before after → AreBounded os → os ≡ us
    → requests_in redone before after os ≡ travelling old new s turned delivered us
travelling_is old new s turned delivered redone before after os us h b e =
    again-agree (is_in redone.turned) (is_one_of turned) (is_in redone.delivered) (is_one_of delivered) (reads_other before after) most_processes 0 os h.sets.turned h.sets.delivered (omega (arith, b.few)) b.targets
    ∙ (λ i. outcomes_again (is_one_of turned) (is_one_of delivered) (reads_other (h.before i) (h.after i)) 0 (e i))

pub h_is : (old : Option Run) (new : Run) (s : ℕ) (turned delivered : List ℕ) (redone : Redone) (before after : List OutcomeParts) → IsRowAt old new s turned delivered redone before after
    → h_relation (requests_in redone before after after) ≡ h_relation (travelling old new s turned delivered (outcomes_at (Some new) s))
h_is old new s turned delivered redone before after h = ap h_relation (travelling_is old new s turned delivered redone before after after (outcomes_at (Some new) s) h h.bounded_after h.after)

pub synchronised_is : (old : Option Run) (new : Run) (s : ℕ) (turned delivered : List ℕ) (redone : Redone) (before after : List OutcomeParts) (olds news : List ViewParts) → IsRowAt old new s turned delivered redone before after
    → olds ≡ views_after old s → news ≡ views_after (Some new) s
    → (have_other_tables olds news || list_any has_requests (requests_in redone before after after) || list_any has_requests (requests_in redone before after before)) ≡ is_synchronised old new s turned delivered
unfolding is_synchronised
synchronised_is old new s turned delivered redone before after olds news h e f =
    let first = travelling_is old new s turned delivered redone before after after (outcomes_at (Some new) s) h h.bounded_after h.after in
    let second = travelling_is old new s turned delivered redone before after before (outcomes_at old s) h h.bounded_before h.before in
    λ i. have_other_tables (e i) (f i) || list_any has_requests (first i) || list_any has_requests (second i)

-- the row of a superstep that ended by delivery
pub row_is : (old : Option Run) (new : Run) (s : ℕ) (turned delivered : List ℕ) (w h l : ℕ) → s < length new.past → w ≡ work_of turned (outcomes_at (Some new) s)
    → h ≡ h_relation (travelling old new s turned delivered (outcomes_at (Some new) s)) → l ≡ cond (is_synchronised old new s turned delivered) new.l 0
    → record { work = w; h = h; cost = w + h * new.g + l } ≡ row_again old new s turned delivered
unfolding row_again
row_is old new s turned delivered w h l inside e f k =
    let u = work_of turned (outcomes_at (Some new) s) in
    let m = h_relation (travelling old new s turned delivered (outcomes_at (Some new) s)) in
    let paid = cond (is_synchronised old new s turned delivered) new.l 0 in
    (λ i. record { work = e i; h = f i; cost = e i + f i * new.g + k i })
    ∙ sym (ap (λ b. cond b (record { work = u; h = m; cost = u + m * new.g + paid }) (record { work = u; h = 0; cost = u })) (lt_holds s (length new.past) inside))

-- and of another one
pub end_is : (old : Option Run) (new : Run) (s : ℕ) (turned delivered : List ℕ) (w : ℕ) → length new.past ≤ s → w ≡ work_of turned (outcomes_at (Some new) s)
    → record { work = w; h = 0; cost = w } ≡ row_again old new s turned delivered
unfolding row_again
end_is old new s turned delivered w past e =
    let u = work_of turned (outcomes_at (Some new) s) in
    let m = h_relation (travelling old new s turned delivered (outcomes_at (Some new) s)) in
    let paid = cond (is_synchronised old new s turned delivered) new.l 0 in
    (λ i. record { work = e i; h = 0; cost = e i })
    ∙ sym (ap (λ b. cond b (record { work = u; h = m; cost = u + m * new.g + paid }) (record { work = u; h = 0; cost = u })) (lt_fails s (length new.past) past))
