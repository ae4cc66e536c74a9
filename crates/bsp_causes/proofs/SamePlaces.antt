-- What one process sees in one superstep of two runs, before and after a batch: views of one size.
use Rattle.std.proofs.Common.{◌≡◌, ◌<◌, ◌+◌, ℕ, zero, suc, List, [], None, All, length, get_or, arith, sym, ap, ◌∙◌, subst}
use Rattle.std.proofs.lemmas.List.{get_or-map}
use Rattle.bsp_model.specs.declared.input.Input.{Input}
use Rattle.bsp_model.specs.Input.{input_fault}
use Rattle.bsp_model.specs.declared.fault.End.{End}
use Rattle.bsp_step.specs.Act.{Act}
use Rattle.bsp_step.specs.Turn.{turn_of}
use Rattle.bsp_step.specs.ViewParts.{ViewParts, IsView}
use Rattle.bsp_step.specs.OutcomeParts.{OutcomeParts, outcome_of}
use Rattle.bsp_run.specs.Run.{Run}
use Rattle.bsp_run.specs.Law.{IsBspRun, views_in, outcomes_in}
use Rattle.bsp_run.specs.Supersteps.{supersteps_of}
use Rattle.bsp_run.specs.Condition.{no_view}
use Rattle.bsp_run.proofs.Deliveries.{length-next_memory}
use Rattle.bsp_run.proofs.Records.{count-state_at, count-views_in}
use Rattle.bsp_run.proofs.Turns.{AreOutcomesOf-turns}
use Rattle.bsp_run.proofs.ViewsWithin.{views_of_run}
use Rattle.bsp_incr.specs.declared.edit.Edit.{Edit}
use Rattle.bsp_incr.specs.declared.reply.Place.{Place}
use Rattle.bsp_incr.specs.Edits.{refusal_of, edited}
use Rattle.bsp_incr.specs.Exact.{HasTurn, view_there}
use Rattle.bsp_incr.proofs.Propagation.{view-in, memory-in, first_memory}
use Rattle.bsp_incr.proofs.LawOfReuse.{step_there}
use Rattle.bsp_incr.proofs.Lawful.{edited_count, edited_lawful, same_lengths}

-- two views of one process in one superstep, with memories of one length
pub record IsSamePlace (v w : ViewParts) : Type 0 where
  pub nprocs : v.nprocs ≡ w.nprocs
  pub pid : v.pid ≡ w.pid
  pub step : v.step ≡ w.step
  pub same_length : length v.memory ≡ length w.memory

-- In a run a memory keeps its length.

abbrev seen_by : (ViewParts → OutcomeParts) → Input → ℕ → ℕ → ViewParts
seen_by turn input s p = get_or (views_in turn input s) p no_view

kept_length : (acts : ViewParts → List Act) (ending : ViewParts → End) (input : Input) (s p : ℕ) → All IsView (views_in (turn_of acts ending) input s) → p < length input.mems
    → length (outcome_of (outcomes_in (turn_of acts ending) input s) p).memory ≡ length (seen_by (turn_of acts ending) input s p).memory
kept_length acts ending input s p views l =
    let turn = turn_of acts ending in
    ((AreOutcomesOf-turns acts ending (views_in turn input s) views).each p (omega (arith, l, count-views_in turn input s))).memory

long_in : (acts : ViewParts → List Act) (ending : ViewParts → End) (input : Input) (s p : ℕ) → ((k : ℕ) → k < s → All IsView (views_in (turn_of acts ending) input k)) → p < length input.mems
    → length (seen_by (turn_of acts ending) input s p).memory ≡ length (get_or input.mems p [])
long_in acts ending input zero p views l =
    let turn = turn_of acts ending in
    ap (λ (v : ViewParts). length v.memory) (view-in turn input 0 p l) ∙ ap (λ (m : List ℕ). length m) (first_memory turn input p)
long_in acts ending input (suc s) p views l =
    let turn = turn_of acts ending in
    let next : suc s ≡ s + 1 = omega arith in
    ap (λ k. length (seen_by turn input k p).memory) next
    ∙ ap (λ (m : List ℕ). length m) (memory-in turn input s p l)
    ∙ length-next_memory (outcomes_in turn input s) p
    ∙ kept_length acts ending input s p (views s (omega arith)) l
    ∙ long_in acts ending input s p (λ k m. views k (omega arith)) l

-- what is seen at a place of a run
seen_at : (turn : ViewParts → OutcomeParts) (input : Input) (r : Run) (q : Place) → IsBspRun turn input r → HasTurn (supersteps_of r) q → (q.pid < length input.mems) × (view_there (supersteps_of r) q ≡ seen_by turn input q.step q.pid)
seen_at turn input r q law h =
    let views = law.views q.step (step_there (supersteps_of r) q h) in
    (omega (arith, h, ap (λ (vs : List ViewParts). length vs) views, count-views_in turn input q.step), ap (λ (vs : List ViewParts). get_or vs q.pid no_view) views)

long_there : (acts : ViewParts → List Act) (ending : ViewParts → End) (input : Input) (r : Run) (q : Place) → input_fault input ≡ None → IsBspRun (turn_of acts ending) input r → HasTurn (supersteps_of r) q
    → length (view_there (supersteps_of r) q).memory ≡ length (get_or input.mems q.pid [])
long_there acts ending input r q lawful law h =
    let turn = turn_of acts ending in
    let at = seen_at turn input r q law h in
    let inside = step_there (supersteps_of r) q h in
    ap (λ (v : ViewParts). length v.memory) at.1
    ∙ long_in acts ending input q.step q.pid
    (λ k l. let here : k < length (supersteps_of r) = omega (arith, l, inside) in subst (All IsView) (law.views k here) (views_of_run acts ending input r k lawful law here))
    at.0

-- no batch changes the length of a memory
same_long : (i : Input) (edits : List Edit) (p : ℕ) → p < length i.mems → length (get_or (edited i edits).mems p []) ≡ length (get_or i.mems p [])
same_long i edits p l =
    let there : p < length (edited i edits).mems = omega (arith, l, edited_count i edits) in
    sym (get_or-map (λ (m : List ℕ). length m) (edited i edits).mems p [] 0 there) ∙ ap (λ (ns : List ℕ). get_or ns p 0) (same_lengths i edits).0 ∙ get_or-map (λ (m : List ℕ). length m) i.mems p [] 0 l

pub same_place : (acts : ViewParts → List Act) (ending : ViewParts → End) (i : Input) (edits : List Edit) (old new : Run) (q : Place) → input_fault i ≡ None → refusal_of i edits ≡ None
    → IsBspRun (turn_of acts ending) i old → IsBspRun (turn_of acts ending) (edited i edits) new → HasTurn (supersteps_of new) q → HasTurn (supersteps_of old) q → IsSamePlace (view_there (supersteps_of old) q) (view_there (supersteps_of new) q)
same_place acts ending i edits old new q lawful accepted before after here there =
    let turn = turn_of acts ending in
    let j = edited i edits in
    let first = seen_at turn i old q before there in
    let last = seen_at turn j new q after here in
    let v = first.1 ∙ view-in turn i q.step q.pid first.0 in
    let w = last.1 ∙ view-in turn j q.step q.pid last.0 in
    record {
      nprocs = ap (λ (x : ViewParts). x.nprocs) v ∙ count-state_at turn i q.step ∙ sym (edited_count i edits) ∙ sym (count-state_at turn j q.step) ∙ sym (ap (λ (x : ViewParts). x.nprocs) w);
      pid = ap (λ (x : ViewParts). x.pid) v ∙ sym (ap (λ (x : ViewParts). x.pid) w);
      step = ap (λ (x : ViewParts). x.step) v ∙ sym (ap (λ (x : ViewParts). x.step) w);
      same_length = long_there acts ending i old q lawful before there ∙ sym (same_long i edits q.pid first.0) ∙ sym (long_there acts ending j new q (edited_lawful i edits accepted lawful) after here);
    }
