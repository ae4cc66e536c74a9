-- What is taken over from another run: a superstep whole, how one ends, or what it cost.
use Rattle.std.proofs.Common.{◌≡◌, ◌<◌, ◌+◌, ◌*◌, ◌∙◌, ℕ, List, [], ◌∷◌, ◌++◌, None, length, map, cond, ◌==◌, arith, get_or, refl, sym, ap, subst}
use Rattle.std.proofs.lemmas.List.{get_or_default, get_or-map, length-map}
use Rattle.bsp_model.specs.declared.cost.CostRow.{CostRow}
use Rattle.bsp_step.specs.ViewParts.{ViewParts}
use Rattle.bsp_step.specs.OutcomeParts.{OutcomeParts}
use Rattle.bsp_run.specs.declared.superstep.Superstep.{Superstep}
use Rattle.bsp_run.specs.declared.phase.Phase.{Phase}
use Rattle.bsp_run.specs.declared.phase.Phase.TheVariants.{Open, Turned, Ended}
use Rattle.bsp_run.specs.declared.result.Status.TheVariants.{Limit}
use Rattle.bsp_run.specs.State.{next_state, views_of}
use Rattle.bsp_deliver.specs.Cost.{h_relation}
use Rattle.bsp_run.specs.Result.{largest_work, cost_of_delivery}
use Rattle.bsp_run.specs.Supersteps.{no_superstep, superstep_at, outcomes_of}
use Rattle.bsp_run.specs.Ending.{end_of}
use Rattle.bsp_run.specs.Run.{Run, open_views, after_turns, after_delivery, phase_after}
use Rattle.bsp_run.specs.Condition.{IsRun, IsInPhase, IsOpen, AreOutcomesOf}
use Rattle.bsp_run.specs.Inside.Tape.{args_in, state_in}
use Rattle.bsp_run.proofs.Phases.{turned_is_run, next_is_run}
use Rattle.bsp_run.proofs.SeenRuns.{delivered_is, views_then}

-- What is put in the fields of a tape: the superstep, the views after it, and what comes next.
pub record AreTaken (r : Run) (os : List OutcomeParts) (all : List Superstep) (views : List ViewParts) (step : ℕ) (comes : Phase) : Type 0 where
  pub before : r.phase ≡ Open
  pub turns : AreOutcomesOf (open_views r) os
  pub delivers : end_of (length r.past) r.state.table os ≡ None
  pub past : all ≡ r.past ++ record { views = open_views r; outcomes = os } ∷ []
  pub next : views ≡ views_of r.args (length r.past + 1) (next_state r.state os)
  pub steps : step ≡ length r.past + 1
  pub phase : comes ≡ cond (step == r.limit) (Ended Limit) Open

turned : (r : Run) (os : List OutcomeParts) → end_of (length r.past) r.state.table os ≡ None → (after_turns r os).phase ≡ Turned
unfolding after_turns
turned r os e = ap phase_after e

-- the run after the superstep keeps what a run keeps
pub taken_is_run : (r : Run) (os : List OutcomeParts) → IsRun r → r.phase ≡ Open → AreOutcomesOf (open_views r) os → end_of (length r.past) r.state.table os ≡ None → IsRun (after_delivery (after_turns r os))
taken_is_run r os h before turns delivers = next_is_run (after_turns r os) (turned_is_run r os h before turns) (turned r os delivers)

-- the fields make the run after the superstep ..
pub taken_over : (r : Run) (os : List OutcomeParts) (past : List Superstep) (next : List ViewParts) (steps : ℕ) (phase : Phase) → IsRun r → AreTaken r os past next steps phase
    → record { args = args_in next; limit = r.limit; g = r.g; l = r.l; past = past; state = state_in next; outcomes = []; phase = phase } ≡ after_delivery (after_turns r os)
unfolding after_turns
taken_over r os past next steps phase h taken =
    delivered_is (after_turns r os) past (open_views r) next [] steps phase (taken_is_run r os h taken.before taken.turns taken.delivers) refl taken.past refl taken.next taken.steps taken.phase

-- .. whose views are kept
pub taken_views : (r : Run) (os : List OutcomeParts) (next : List ViewParts) → next ≡ views_of r.args (length r.past + 1) (next_state r.state os) → next ≡ open_views (after_delivery (after_turns r os))
unfolding after_turns
taken_views r os next e = views_then (after_turns r os) next e

-- an open superstep has no outcomes yet
pub no_outcomes : (r : Run) → IsRun r → r.phase ≡ Open → r.outcomes ≡ []
no_outcomes r h e = let here : IsOpen r = subst (λ p. IsInPhase p r) e h.phase in here.outcomes

-- the superstep of the other run
pub superstep_is : (past other : List Superstep) (s n : ℕ) (x : Superstep) → past ≡ other → s ≡ n → n < length other → x ≡ get_or past s x → x ≡ superstep_at other n
superstep_is past other s n x e m l is = is ∙ ap (λ (xs : List Superstep). get_or xs s x) e ∙ ap (λ k. get_or other k x) m ∙ get_or_default other n x no_superstep l

-- its cost at other prices
pub row_is : (past : List Superstep) (rows : List CostRow) (g l h m s : ℕ) (row : CostRow) → rows ≡ map (cost_of_delivery h m) (outcomes_of past) → s < length past → row ≡ get_or rows s row
    → record { work = row.work; h = row.h; cost = row.work + row.h * g + l } ≡ cost_of_delivery g l (superstep_at past s).outcomes
row_is past rows g l h m s row is small at =
    let of : Superstep → List OutcomeParts = λ x. x.outcomes in
    let price = cost_of_delivery h m in
    let same : row ≡ price (superstep_at past s).outcomes =
    at ∙ ap (λ (xs : List CostRow). get_or xs s row) is ∙ get_or-map price (map of past) s [] row (omega (arith, small, length-map past of)) ∙ ap price (get_or-map of past s no_superstep [] small) in
    ap (λ (x : CostRow). record { work = x.work; h = x.h; cost = x.work + x.h * g + l }) same

pub row_for_each : (past : List Superstep) (rows : List CostRow) (g l : ℕ) → rows ≡ map (cost_of_delivery g l) (outcomes_of past) → length rows ≡ length past
row_for_each past rows g l is =
    let of : Superstep → List OutcomeParts = λ x. x.outcomes in
    ap (λ (xs : List CostRow). length xs) is ∙ length-map (map of past) (cost_of_delivery g l) ∙ length-map past of

-- as much was computed and moved
pub same_cost : (g l : ℕ) (os us : List OutcomeParts) → largest_work os ≡ largest_work us → h_relation os ≡ h_relation us → cost_of_delivery g l os ≡ cost_of_delivery g l us
same_cost g l os us w h = λ i. record { work = w i; h = h i; cost = w i + h i * g + l }

-- the fields make the run after turns that are known to end their superstep by delivery
pub turned_on : (r : Run) (os : List OutcomeParts) → end_of (length r.past) r.state.table os ≡ None → record r { outcomes = os; phase = Turned } ≡ after_turns r os
unfolding after_turns
turned_on r os e = let phase = ap phase_after (sym e) in λ i. record r { outcomes = os; phase = phase i }
