-- A process that an update does not touch has what it had.
use Rattle.std.proofs.Common.{◌≡◌, ◌<◌, ◌≢◌, ◌+◌, ◌≤◌, ◌==◌, ℕ, zero, suc, Bool, true, false, cond, not, List, [], ◌∷◌, ◌++◌, Some, map, length, get_or, slice_get, arith, refl, sym, ap, ◌∙◌, subst, add-one}
use Rattle.std.specs.Prelude.{Contains}
use Rattle.std.specs.List.{flat_map}
use Rattle.std.proofs.lemmas.Bool.{false≢true, and_parts}
use Rattle.std.proofs.lemmas.Bool.Decides.{nat_tests}
use Rattle.std.proofs.lemmas.List.{get_or-map}
use Rattle.std.proofs.lemmas.List.Elements.{Contains-append_left, Contains-append_right}
use Rattle.std.proofs.lemmas.Option.{slice_get-get_or}
use Rattle.bsp_model.specs.declared.input.Input.{Input}
use Rattle.bsp_step.specs.ViewParts.{ViewParts}
use Rattle.bsp_step.specs.OutcomeParts.{OutcomeParts, no_outcome, outcome_of}
use Rattle.bsp_step.specs.Footprint.{AreAlike}
use Rattle.bsp_deliver.specs.Delivery.{delivery_parts, next_memory}
use Rattle.bsp_run.specs.declared.result.RunResult.{RunResult}
use Rattle.bsp_run.specs.declared.superstep.Superstep.{Superstep}
use Rattle.bsp_run.specs.Run.{Run, is_limit}
use Rattle.bsp_run.specs.Supersteps.{supersteps_of, superstep_at, outcomes_of}
use Rattle.bsp_run.specs.Law.{views_in, outcomes_in}
use Rattle.bsp_run.specs.Condition.{no_view, is_ended}
use Rattle.bsp_run.specs.Result.{status_of, memories_of, lines_of, result_of}
use Rattle.bsp_run.proofs.Records.{count-views_in, count-outcomes_in}
use Rattle.bsp_run.proofs.OneRun.{count_past, front}
use Rattle.bsp_incr.specs.declared.edit.Edit.{Edit}
use Rattle.bsp_incr.specs.declared.reply.Place.{Place}
use Rattle.bsp_incr.specs.declared.reply.Update.{Update}
use Rattle.bsp_incr.specs.Edits.{edited}
use Rattle.bsp_incr.specs.Exact.{IsServed, IsKept, HasTurn, HasDelivery, view_there}
use Rattle.bsp_incr.specs.Named.{word_pids}
use Rattle.bsp_incr.specs.Inside.Reuse.{serves}
use Rattle.bsp_incr.specs.Inside.Changes.{is_touched}
use Rattle.bsp_incr.proofs.Lawful.{edited_count}
use Rattle.bsp_incr.proofs.Unnamed.{has_place, same_memory}
use Rattle.bsp_incr.proofs.Propagation.{view-in, memory-in, first_memory, Decides-untouched, untouched_is}
use Rattle.bsp_incr.proofs.Serving.{Decides-serves}
use Rattle.bsp_engine.specs.Untouched.{touched, at_limit, end_alike, AreRunsAround, UntouchedProcessesStay}
use Rattle.bsp_engine.proofs.Endings.{count_lines, count_memories, count_turns, limit_is, lines-at, lines_same, memory-cut, memory-stopped, parts, rows_of, turns_at}

-- tests

not_both : (b : Bool) → not b ≡ true → b ≡ true → ⊥
not_both true h k = false≢true h
not_both false h k = false≢true k

same_bits : (a b : Bool) → cond a b (not b) ≡ true → a ≡ b
same_bits true b h = sym h
same_bits false true h = absurd (false≢true h)
same_bits false false h = refl

few_past : (b : Bool) (n s : ℕ) → s < n + cond b 0 1 → s ≤ n
few_past true n s l = omega arith
few_past false n s l = omega arith

-- views that are alike, and have one memory, are one
alike_is : (v w : ViewParts) (looks : ℕ → Bool) → AreAlike looks v w → v.memory ≡ w.memory → v ≡ w
alike_is v w looks a own =
    λ k. record { nprocs = a.parts.nprocs k; pid = a.parts.pid k; step = a.parts.step k; args = a.parts.args k; memory = own k; table = a.parts.table k; tag_size = a.parts.tag_size k; queue = a.parts.queue k }

-- two runs around a batch, and a process that the update does not touch

record AreWithout (turn : ViewParts → OutcomeParts) (looks : ViewParts → ℕ → Bool) (i : Input) (batch : List Edit) (update : Update) (old new : Run) (p : ℕ) : Type 0 where
  pub runs : AreRunsAround turn looks i batch update old new
  pub here : p < length i.mems
  pub away : Contains (touched batch update) p → ⊥
  pub count : length (supersteps_of old) ≡ length (supersteps_of new)
  pub limit : is_limit old.phase ≡ is_limit new.phase

module _ (turn : ViewParts → OutcomeParts) (looks : ViewParts → ℕ → Bool) (i : Input) (batch : List Edit) (update : Update) (old new : Run) (p : ℕ) (h : AreWithout turn looks i batch update old new p) where
  abbrev j : Input
  j = edited i batch

  many : length i.mems ≡ length j.mems
  many = sym (edited_count i batch)

  there : p < length j.mems
  there = omega (arith, h.here, many)

  unnamed : Contains (flat_map word_pids batch) p → ⊥
  unnamed c =
      h.away (Contains-append_left (flat_map word_pids batch ++ map (λ (q : Place). q.pid) update.executed) (map (λ (q : Place). q.pid) update.redelivered) p
      (Contains-append_left (flat_map word_pids batch) (map (λ (q : Place). q.pid) update.executed) p c))

  not_executed : (s : ℕ) → Contains update.executed (record { step = s; pid = p }) → ⊥
  not_executed s c =
      h.away (Contains-append_left (flat_map word_pids batch ++ map (λ (q : Place). q.pid) update.executed) (map (λ (q : Place). q.pid) update.redelivered) p
      (Contains-append_right (flat_map word_pids batch) (map (λ (q : Place). q.pid) update.executed) p (has_place update.executed (record { step = s; pid = p }) c)))

  not_redelivered : (s : ℕ) → Contains update.redelivered (record { step = s; pid = p }) → ⊥
  not_redelivered s c =
      h.away (Contains-append_right (flat_map word_pids batch ++ map (λ (q : Place). q.pid) update.executed) (map (λ (q : Place). q.pid) update.redelivered) p
      (has_place update.redelivered (record { step = s; pid = p }) c))

  -- as many supersteps ended by delivery
  count_delivered : length old.past ≡ length new.past
  count_delivered =
      let one = count_past (is_limit new.phase) old (ap is_ended h.runs.before.phase) h.limit in
      let other = count_past (is_limit new.phase) new (ap is_ended h.runs.after.phase) refl in
      omega (arith, one, other, h.count)

  -- what it depends on in the next superstep is the same
  same_delivery : (s : ℕ) → s < length new.past → delivery_parts (outcomes_in turn i s) p ≡ delivery_parts (outcomes_in turn j s) p
  same_delivery s l =
      let q : Place = record { step = s; pid = p } in
      let f = front old s (omega (arith, l, count_delivered)) in
      let g = front new s l in
      let olds : (superstep_at old.past s).outcomes ≡ outcomes_in turn i s = ap (λ (x : Superstep). x.outcomes) (sym f.1) ∙ h.runs.before.outcomes s f.0 in
      let news : (superstep_at new.past s).outcomes ≡ outcomes_in turn j s = ap (λ (x : Superstep). x.outcomes) (sym g.1) ∙ h.runs.after.outcomes s g.0 in
      let made : HasDelivery new.past q = omega (arith, there, ap (λ (os : List OutcomeParts). length os) news, count-outcomes_in turn j s) in
      elim (is_touched (superstep_at old.past s).outcomes (superstep_at new.past s).outcomes p) as (λ b. is_touched (superstep_at old.past s).outcomes (superstep_at new.past s).outcomes p ≡ b → delivery_parts (outcomes_in turn i s) p ≡ delivery_parts (outcomes_in turn j s) p) [
        | true ↦ λ e. absurd (not_redelivered s ((h.runs.exact.redelivered q).1 (made, λ (kept : IsKept old.past new.past q). not_both _ e ((Decides-untouched (superstep_at old.past s).outcomes (superstep_at new.past s).outcomes p).1 (kept.there, kept.same)))))
        | false ↦ λ e. ap (λ os. delivery_parts os p) (sym olds) ∙ (untouched_is (superstep_at old.past s).outcomes (superstep_at new.past s).outcomes p e).1 ∙ ap (λ os. delivery_parts os p) news
      ] refl

  -- it has the same memory in each superstep
  same_own : (s : ℕ) → s ≤ length new.past → (get_or (views_in turn i s) p no_view).memory ≡ (get_or (views_in turn j s) p no_view).memory
  same_own zero l =
      let v = view-in turn i 0 p h.here in
      let w = view-in turn j 0 p there in
      ap (λ (x : ViewParts). x.memory) v ∙ first_memory turn i p ∙ sym (same_memory i batch p unnamed) ∙ sym (first_memory turn j p) ∙ sym (ap (λ (x : ViewParts). x.memory) w)
  same_own (suc s) l =
      subst (λ k. (get_or (views_in turn i k) p no_view).memory ≡ (get_or (views_in turn j k) p no_view).memory) (add-one s)
      (memory-in turn i s p h.here ∙ ap next_memory (same_delivery s (omega arith)) ∙ sym (memory-in turn j s p there))

  -- where it took a turn, it was served by that of before
  served : (s : ℕ) → HasTurn (supersteps_of new) (record { step = s; pid = p })
      → AreAlike (looks (view_there (supersteps_of old) (record { step = s; pid = p }))) (view_there (supersteps_of old) (record { step = s; pid = p })) (view_there (supersteps_of new) (record { step = s; pid = p }))
  served s taken =
      let q : Place = record { step = s; pid = p } in
      let v = view_there (supersteps_of old) q in
      let w = view_there (supersteps_of new) q in
      elim (serves looks v w) as (λ b. serves looks v w ≡ b → AreAlike (looks v) v w) [
        | true ↦ λ e. (Decides-serves looks v w).0 e
        | false ↦ λ e. absurd (not_executed s ((h.runs.exact.executed q).1 (taken, λ (is : IsServed looks (supersteps_of old) (supersteps_of new) q). false≢true (sym e ∙ (Decides-serves looks v w).1 is.alike))))
      ] refl

  -- it sees the same
  same_seen : (s : ℕ) → s < length (supersteps_of new) → get_or (views_in turn i s) p no_view ≡ get_or (views_in turn j s) p no_view
  same_seen s l =
      let q : Place = record { step = s; pid = p } in
      let here : s < length (supersteps_of old) = omega (arith, l, h.count) in
      let olds : (superstep_at (supersteps_of old) s).views ≡ views_in turn i s = h.runs.before.views s here in
      let news : (superstep_at (supersteps_of new) s).views ≡ views_in turn j s = h.runs.after.views s l in
      let v : view_there (supersteps_of old) q ≡ get_or (views_in turn i s) p no_view = ap (λ (vs : List ViewParts). get_or vs p no_view) olds in
      let w : view_there (supersteps_of new) q ≡ get_or (views_in turn j s) p no_view = ap (λ (vs : List ViewParts). get_or vs p no_view) news in
      let taken : HasTurn (supersteps_of new) q = omega (arith, there, ap (λ (vs : List ViewParts). length vs) news, count-views_in turn j s) in
      let few = count_past (is_limit new.phase) new (ap is_ended h.runs.after.phase) refl in
      let alike : AreAlike (looks (view_there (supersteps_of old) q)) (view_there (supersteps_of old) q) (view_there (supersteps_of new) q) = served s taken in
      let own = same_own s (few_past (is_limit new.phase) (length new.past) s (omega (arith, l, few))) in
      alike_is (get_or (views_in turn i s) p no_view) (get_or (views_in turn j s) p no_view) (looks (view_there (supersteps_of old) q))
      (subst (λ x. AreAlike (looks (view_there (supersteps_of old) q)) x (get_or (views_in turn j s) p no_view)) v
      (subst (AreAlike (looks (view_there (supersteps_of old) q)) (view_there (supersteps_of old) q)) w alike)) own

  -- and leaves the same
  same_left : (s : ℕ) → s < length (supersteps_of new) → outcome_of (outcomes_in turn i s) p ≡ outcome_of (outcomes_in turn j s) p
  same_left s l =
      get_or-map turn (views_in turn i s) p no_view no_outcome (omega (arith, h.here, count-views_in turn i s)) ∙ ap turn (same_seen s l)
      ∙ sym (get_or-map turn (views_in turn j s) p no_view no_outcome (omega (arith, there, count-views_in turn j s)))

  same_memory_at_end : get_or (memories_of old) p [] ≡ get_or (memories_of new) p []
  same_memory_at_end =
      let before = h.runs.before in
      let after = h.runs.after in
      let past = count_delivered in
      elim (is_limit new.phase) as (λ b. is_limit new.phase ≡ b → get_or (memories_of old) p [] ≡ get_or (memories_of new) p []) [
        | true ↦ λ b.
            memory-cut turn i old p before h.here (h.limit ∙ b) ∙ ap (λ n. (get_or (views_in turn i n) p no_view).memory) past
            ∙ same_own (length new.past) (omega arith) ∙ sym (memory-cut turn j new p after there b)
        | false ↦ λ b.
            let few = count_past false new (ap is_ended after.phase) b in
            memory-stopped turn i old p before h.here (h.limit ∙ b) ∙ ap (λ n. (outcome_of (outcomes_in turn i n) p).memory) past
            ∙ ap (λ (o : OutcomeParts). o.memory) (same_left (length new.past) (omega (arith, few))) ∙ sym (memory-stopped turn j new p after there b)
      ] refl

  same_lines_at_end : get_or (lines_of old) p [] ≡ get_or (lines_of new) p []
  same_lines_at_end =
      let before = h.runs.before in
      let after = h.runs.after in
      let olds = count_turns old in
      let news = count_turns new in
      lines-at turn i old p before h.here
      ∙ lines_same (outcomes_of (supersteps_of old)) (outcomes_of (supersteps_of new)) p (olds ∙ h.count ∙ sym news)
      (λ k l.
      let m : k < length (supersteps_of new) = omega (arith, l, olds, h.count) in
      ap (λ os. outcome_of os p) (turns_at turn i old k before (omega (arith, l, olds))) ∙ same_left k m ∙ sym (ap (λ os. outcome_of os p) (turns_at turn j new k after m)))
      ∙ sym (lines-at turn j new p after there)

-- results

same_item : {A : Type 0} (xs ys : List A) (p : ℕ) (d : A) → p < length xs → p < length ys → get_or xs p d ≡ get_or ys p d → slice_get xs p ≡ slice_get ys p
same_item xs ys p d l m e = slice_get-get_or xs p d l ∙ ap (λ x. Some x) e ∙ sym (slice_get-get_or ys p d m)

as_many : (a b : RunResult) → end_alike a b ≡ true → length a.costs ≡ length b.costs
as_many a b e =
    let same = (and_parts (length a.costs == length b.costs) (cond (at_limit a.status) (at_limit b.status) (not (at_limit b.status))) e).0 in
    grind (arith, nat_tests)

both_at_limit : (a b : RunResult) → end_alike a b ≡ true → at_limit a.status ≡ at_limit b.status
both_at_limit a b e =
    same_bits (at_limit a.status) (at_limit b.status) (and_parts (length a.costs == length b.costs) (cond (at_limit a.status) (at_limit b.status) (not (at_limit b.status))) e).1

pub untouched_stay : UntouchedProcessesStay
untouched_stay turn looks i batch update old new runs e p l away =
    let before = runs.before in
    let after = runs.after in
    let count_costs : length (result_of old).costs ≡ length (result_of new).costs = as_many (result_of old) (result_of new) e in
    let limit : at_limit (status_of old) ≡ at_limit (status_of new) =
    sym (ap at_limit (parts old).status) ∙ both_at_limit (result_of old) (result_of new) e ∙ ap at_limit (parts new).status in
    let count : length (supersteps_of old) ≡ length (supersteps_of new) = sym (rows_of old) ∙ count_costs ∙ rows_of new in
    let ends : is_limit old.phase ≡ is_limit new.phase = limit_is old.phase (ap is_ended before.phase) ∙ limit ∙ sym (limit_is new.phase (ap is_ended after.phase)) in
    let h : AreWithout turn looks i batch update old new p = record { runs = runs; here = l; away = away; count = count; limit = ends } in
    let m : p < length (edited i batch).mems = omega (arith, l, edited_count i batch) in
    record {
      memory =
          ap (λ (ms : List (List ℕ)). slice_get ms p) (parts old).memories
          ∙ same_item (memories_of old) (memories_of new) p [] (omega (arith, l, count_memories turn i old before)) (omega (arith, m, count_memories turn (edited i batch) new after)) (same_memory_at_end turn looks i batch update old new p h)
          ∙ sym (ap (λ (ms : List (List ℕ)). slice_get ms p) (parts new).memories);
      lines =
          ap (λ (ls : List (List (List ℕ))). slice_get ls p) (parts old).lines
          ∙ same_item (lines_of old) (lines_of new) p [] (omega (arith, l, count_lines turn i old before)) (omega (arith, m, count_lines turn (edited i batch) new after)) (same_lines_at_end turn looks i batch update old new p h)
          ∙ sym (ap (λ (ls : List (List (List ℕ))). slice_get ls p) (parts new).lines);
    }
