-- A run is read off the views of its open superstep.
use Rattle.std.proofs.Common.{◌≡◌, ◌+◌, ◌∙◌, ◌==◌, ◌++◌, ◌∷◌, ℕ, List, [], length, length-append, cond, get_or, sym, ap, refl}
use Rattle.bsp_model.specs.declared.input.Input.{Input}
use Rattle.bsp_model.specs.Inside.LawfulInput.{IsLawfulInput}
use Rattle.bsp_step.specs.ViewParts.{ViewParts}
use Rattle.bsp_step.specs.OutcomeParts.{OutcomeParts}
use Rattle.bsp_run.specs.declared.superstep.Superstep.{Superstep}
use Rattle.bsp_run.specs.declared.phase.Phase.{Phase}
use Rattle.bsp_run.specs.declared.phase.Phase.TheVariants.{Open, Ended}
use Rattle.bsp_run.specs.declared.result.Status.TheVariants.{Limit}
use Rattle.bsp_run.specs.State.{next_state, view_of, views_of}
use Rattle.bsp_run.specs.Run.{Run, start, open_views, after_delivery}
use Rattle.bsp_run.specs.Setting.{next_views}
use Rattle.bsp_run.specs.Condition.{IsRun, no_view}
use Rattle.bsp_run.specs.Inside.Tape.{args_in, state_in}
use Rattle.bsp_run.proofs.Conditions.{view-views_of}
use Rattle.bsp_run.proofs.Opens.{part_of_views, reopened, start_is_run, state_seen}

args_read : (r : Run) (vs : List ViewParts) → IsRun r → vs ≡ open_views r → args_in vs ≡ r.args
args_read r vs h e = ap args_in e ∙ part_of_views (λ (v : ViewParts). v.args) r.args (length r.past) r.state r.args [] h.same_args (λ p. refl)

state_read : (r : Run) (vs : List ViewParts) → IsRun r → vs ≡ open_views r → state_in vs ≡ r.state
state_read r vs h e =
    let first : get_or vs 0 no_view ≡ view_of r.args (length r.past) r.state 0 = ap (λ (ws : List ViewParts). get_or ws 0 no_view) e ∙ view-views_of r.args (length r.past) r.state 0 h.state.some in
    (λ i. state_seen vs (first i).table (first i).tag_size) ∙ reopened r.args (length r.past) r.state vs e h.state.same_count

-- The fields of a tape with these views make the run.
seen_as : (r : Run) (vs : List ViewParts) (past : List Superstep) (os : List OutcomeParts) (phase : Phase) → IsRun r → vs ≡ open_views r → past ≡ r.past → os ≡ r.outcomes → phase ≡ r.phase
    → record { args = args_in vs; limit = r.limit; g = r.g; l = r.l; past = past; state = state_in vs; outcomes = os; phase = phase } ≡ r
seen_as r vs past os phase h e ep eo eh =
    let args = args_read r vs h e in
    let state = state_read r vs h e in
    λ i. record { args = args i; limit = r.limit; g = r.g; l = r.l; past = ep i; state = state i; outcomes = eo i; phase = eh i }

-- a tape that was opened with the first views is the start of a run
pub opened_as : (input : Input) (past : List Superstep) (os : List OutcomeParts) (vs : List ViewParts) → IsLawfulInput input → past ≡ [] → os ≡ [] → vs ≡ open_views (start input)
    → record { args = args_in vs; limit = input.limit; g = input.g; l = input.l; past = past; state = state_in vs; outcomes = os; phase = Open } ≡ start input
unfolding start
opened_as input past os vs h ep eo e = seen_as (start input) vs past os Open (start_is_run input h) e ep eo refl

-- the views that a tape keeps after a delivery are those of its state
pub views_then : (r : Run) (vs : List ViewParts) → vs ≡ next_views r → vs ≡ open_views (after_delivery r)
unfolding after_delivery
views_then r vs e =
    let step : Superstep = record { views = open_views r; outcomes = r.outcomes } in
    e ∙ ap (λ n. views_of r.args n (next_state r.state r.outcomes)) (sym (length-append r.past (step ∷ [])))

-- the parts of a tape after a delivery
pub delivered_is : (r : Run) (past : List Superstep) (vs next : List ViewParts) (os : List OutcomeParts) (steps : ℕ) (phase : Phase) → IsRun (after_delivery r)
    → vs ≡ open_views r → past ≡ r.past ++ record { views = vs; outcomes = r.outcomes } ∷ [] → os ≡ [] → next ≡ next_views r → steps ≡ length r.past + 1 → phase ≡ cond (steps == r.limit) (Ended Limit) Open
    → record { args = args_in next; limit = r.limit; g = r.g; l = r.l; past = past; state = state_in next; outcomes = os; phase = phase } ≡ after_delivery r
unfolding after_delivery
delivered_is r past vs next os steps phase h ev ep eo en et eh =
    let kept : past ≡ r.past ++ record { views = open_views r; outcomes = r.outcomes } ∷ [] = ep ∙ (λ i. r.past ++ record { views = ev i; outcomes = r.outcomes } ∷ []) in
    let comes : phase ≡ cond ((length r.past + 1) == r.limit) (Ended Limit) Open = eh ∙ ap (λ n. cond (n == r.limit) (Ended Limit) Open) et in
    seen_as (after_delivery r) next past os phase h (views_then r next en) kept eo comes
