-- The views of each superstep of a run are within the limits, and what their turns leave can be delivered.
use Rattle.std.proofs.Common.{◌≡◌, ◌<◌, ◌+◌, ◌==◌, ℕ, zero, suc, false, cond, List, ◌∷◌, [], None, map, length, All, refl, sym, ap, ◌∙◌, subst, arith, length-append}
use Rattle.std.proofs.lemmas.Bool.Decides.{nat_tests}
use Rattle.bsp_model.specs.declared.input.Input.{Input}
use Rattle.bsp_model.specs.Input.{input_fault}
use Rattle.bsp_model.specs.declared.fault.End.{End}
use Rattle.bsp_model.proofs.Inputs.{lawful_input}
use Rattle.bsp_step.specs.ViewParts.{ViewParts, IsView}
use Rattle.bsp_step.specs.OutcomeParts.{OutcomeParts}
use Rattle.bsp_step.specs.Act.{Act}
use Rattle.bsp_step.specs.Turn.{turn_of}
use Rattle.bsp_deliver.specs.Condition.{AreDeliverable}
use Rattle.bsp_run.specs.declared.result.Status.TheVariants.{Limit}
use Rattle.bsp_run.specs.declared.phase.Phase.TheVariants.{Open, Ended}
use Rattle.bsp_run.specs.declared.superstep.Superstep.{Superstep}
use Rattle.bsp_run.specs.Ending.{end_of}
use Rattle.bsp_run.specs.Run.{Run, start, open_views, after_turns, after_delivery}
use Rattle.bsp_run.specs.Condition.{IsRun}
use Rattle.bsp_run.specs.Supersteps.{supersteps_of, superstep_at}
use Rattle.bsp_run.specs.Law.{views_in, end_in, IsBspRun}
use Rattle.bsp_run.specs.Inside.Record.{IsRecord}
use Rattle.bsp_run.proofs.Conditions.{AreDeliverable-from_turns}
use Rattle.bsp_run.proofs.Opens.{start_is_run}
use Rattle.bsp_run.proofs.Records.{superstep, open_views-in, past-turned, past-delivered, IsRecord-start, IsRecord-delivered}
use Rattle.bsp_run.proofs.TakingOver.{taken_is_run}
use Rattle.bsp_run.proofs.Turns.{views_within, AreOutcomesOf-turns}

-- a run whose superstep s is open
record IsOpenAt (turn : ViewParts → OutcomeParts) (input : Input) (s : ℕ) : Type 0 where
  so_far : Run
  run : IsRun so_far
  made : IsRecord turn input so_far
  phase : so_far.phase ≡ Open
  at : length so_far.past ≡ s

start_open : (turn : ViewParts → OutcomeParts) (input : Input) → input_fault input ≡ None → IsOpenAt turn input 0
unfolding start
start_open turn input h =
    let lawful = lawful_input input h in
    record { so_far = start input; run = start_is_run input lawful; made = IsRecord-start turn input lawful.some_superstep; phase = refl; at = refl }

phase_delivered : (r : Run) → length r.past + 1 < r.limit → (after_delivery r).phase ≡ Open
unfolding after_delivery
phase_delivered r l = let t : ((length r.past + 1) == r.limit) ≡ false = grind (arith, nat_tests) in ap (λ b. cond b (Ended Limit) Open) t

limit_turned : (r : Run) (os : List OutcomeParts) → (after_turns r os).limit ≡ r.limit
unfolding after_turns
limit_turned r os = refl

next_open : (acts : ViewParts → List Act) (ending : ViewParts → End) (input : Input) (s : ℕ) → s + 1 < input.limit → end_in (turn_of acts ending) input s ≡ None → IsOpenAt (turn_of acts ending) input s → IsOpenAt (turn_of acts ending) input (s + 1)
next_open acts ending input s room goes_on h =
    let turn = turn_of acts ending in
    let r = h.so_far in
    let os = map turn (open_views r) in
    let next = after_delivery (after_turns r os) in
    let end : end_in turn input (length r.past) ≡ None = ap (end_in turn input) h.at ∙ goes_on in
    let same : end_of (length r.past) r.state.table os ≡ end_in turn input (length r.past) =
    (λ i. end_of (length r.past) (h.made.state i).table (map turn (open_views-in turn input r h.made i))) in
    let below : length (after_turns r os).past + 1 < (after_turns r os).limit = subst (λ n. length (after_turns r os).past + 1 < n) (sym (limit_turned r os ∙ h.made.limit)) (subst (λ (xs : List Superstep). length xs + 1 < input.limit) (sym (past-turned r os)) (omega (arith, room, h.at))) in
    record {
      so_far = next;
      run = taken_is_run r os h.run h.phase (AreOutcomesOf-turns acts ending (open_views r) (views_within r h.run)) (same ∙ end);
      made = IsRecord-delivered turn input r h.made h.phase end;
      phase = phase_delivered (after_turns r os) below;
      at = ap (λ (xs : List Superstep). length xs) (past-delivered r os) ∙ length-append r.past (superstep (open_views r) os ∷ []) ∙ ap (λ n. n + 1) h.at;
    }

open_at : (acts : ViewParts → List Act) (ending : ViewParts → End) (input : Input) (s : ℕ) → input_fault input ≡ None → s < input.limit → ((k : ℕ) → k < s → end_in (turn_of acts ending) input k ≡ None) → IsOpenAt (turn_of acts ending) input s
open_at acts ending input zero h room goes_on = start_open (turn_of acts ending) input h
open_at acts ending input (suc s) h room goes_on =
    let turn = turn_of acts ending in
    let next : s + 1 ≡ suc s = omega arith in
    subst (IsOpenAt turn input) next
    (next_open acts ending input s (omega (arith, room)) (goes_on s (omega arith)) (open_at acts ending input s h (omega (arith, room)) (λ k l. goes_on k (omega (arith, l)))))

-- In a run of a lawful input all views are within the limits.
pub views_of_run : (acts : ViewParts → List Act) (ending : ViewParts → End) (input : Input) (r : Run) (s : ℕ) → input_fault input ≡ None → IsBspRun (turn_of acts ending) input r → s < length (supersteps_of r) → All IsView (superstep_at (supersteps_of r) s).views
views_of_run acts ending input r s lawful law l =
    let turn = turn_of acts ending in
    let o = open_at acts ending input s lawful (omega (arith, l, law.few)) (λ k m. law.goes_on k (omega (arith, l, m))) in
    let views : open_views o.so_far ≡ (superstep_at (supersteps_of r) s).views = open_views-in turn input o.so_far o.made ∙ ap (views_in turn input) o.at ∙ sym (law.views s l) in
    subst (All IsView) views (views_within o.so_far o.run)

-- In such a run what the turns leave can be delivered.
pub deliverable_in_run : (acts : ViewParts → List Act) (ending : ViewParts → End) (input : Input) (r : Run) (s : ℕ) → input_fault input ≡ None → IsBspRun (turn_of acts ending) input r → s < length (supersteps_of r) → AreDeliverable (superstep_at (supersteps_of r) s).outcomes
deliverable_in_run acts ending input r s lawful law l =
    let turn = turn_of acts ending in
    let o = open_at acts ending input s lawful (omega (arith, l, law.few)) (λ k m. law.goes_on k (omega (arith, l, m))) in
    let k = o.so_far in
    let left : map turn (open_views k) ≡ (superstep_at (supersteps_of r) s).outcomes = ap (map turn) (open_views-in turn input k o.made ∙ ap (views_in turn input) o.at) ∙ sym (law.outcomes s l) in
    subst AreDeliverable left
    (AreDeliverable-from_turns k.args (length k.past) k.state (map turn (open_views k)) o.run.state (AreOutcomesOf-turns acts ending (open_views k) (views_within k o.run)))
