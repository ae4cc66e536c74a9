-- A process that edits do not reach.
use Rattle.std.proofs.Common.{◌≡◌, ◌<◌, ◌≢◌, ◌+◌, ◌⊎◌, ℕ, zero, suc, Bool, false, cond, List, [], ◌∷◌, None, Some, All, map, filter, length, get_or, ◌==◌, unwrap_or, arith, refl, sym, ap, ◌∙◌, subst, inl, inr, add-one}
use Rattle.std.specs.Prelude.{Contains}
use Rattle.std.specs.List.{range_with_len}
use Rattle.std.proofs.lemmas.Bool.{cases_lt}
use Rattle.std.proofs.lemmas.Bool.Decides.{nat_tests}
use Rattle.std.proofs.lemmas.List.{get_or-map, get_or_past}
use Rattle.bsp_model.specs.declared.input.Input.{Input}
use Rattle.bsp_model.specs.Input.{input_fault}
use Rattle.bsp_model.specs.declared.request.Put.{Put}
use Rattle.bsp_model.specs.declared.request.Send.{Send}
use Rattle.bsp_model.specs.declared.request.Get.{Get}
use Rattle.bsp_step.specs.ViewParts.{ViewParts}
use Rattle.bsp_step.specs.OutcomeParts.{OutcomeParts, no_outcome, outcome_of}
use Rattle.bsp_step.specs.Footprint.{AreAlike}
use Rattle.bsp_deliver.specs.Requests.{words_read}
use Rattle.bsp_deliver.specs.Delivery.{delivery_parts}
use Rattle.bsp_deliver.specs.Inside.Comparison.{HasSameParcel, KeepsOwn}
use Rattle.bsp_deliver.proofs.SameParts.{same_parts}
use Rattle.bsp_run.specs.declared.superstep.Superstep.{Superstep}
use Rattle.bsp_run.specs.Run.{run}
use Rattle.bsp_run.specs.State.{State, first_state, next_state, pops_of, pushes_of}
use Rattle.bsp_table.specs.NextTable.{next_table}
use Rattle.bsp_deliver.specs.SyncFault.{next_tag_size}
use Rattle.bsp_run.specs.Supersteps.{supersteps_of, superstep_at}
use Rattle.bsp_run.specs.Law.{state_at, views_in, outcomes_in}
use Rattle.bsp_run.specs.Condition.{no_view}
use Rattle.bsp_run.proofs.Records.{state_at-next, count-views_in, count-outcomes_in}
use Rattle.bsp_run.proofs.Laws.{IsBspRun-run, superstep_at-past_end}
use Rattle.bsp_incr.specs.declared.edit.Edit.{Edit}
use Rattle.bsp_incr.specs.declared.reply.Place.{Place}
use Rattle.bsp_incr.specs.declared.reply.Update.{Update}
use Rattle.bsp_incr.specs.Edits.{refusal_of, edited}
use Rattle.bsp_incr.specs.Inside.Marks.{AreAlikeButForTable}
use Rattle.bsp_incr.proofs.Lawful.{edited_lawful, edited_count}
use Rattle.bsp_incr.proofs.Propagation.{view-in, propagated, first_alike, same_view}
use Rattle.bsp_incr.proofs.Serving.{Decides-serves, serves-itself}
use Rattle.bsp_incr.specs.Exact.{view_there, IsExact}
use Rattle.bsp_laws.specs.Reach.{DoesNotReach, DoesNotReachIn, IsOutOfReach, HaveSameTables, IsWithinReach, RegistersTheSame, tags_of, HasNoCause}

-- what the processes leave whose views are equal
same_outcome : (turn : ViewParts → OutcomeParts) (i j : Input) (s q : ℕ) → length i.mems ≡ length j.mems → q < length i.mems → get_or (views_in turn i s) q no_view ≡ get_or (views_in turn j s) q no_view
    → outcome_of (outcomes_in turn i s) q ≡ outcome_of (outcomes_in turn j s) q
same_outcome turn i j s q many l e =
    get_or-map turn (views_in turn i s) q no_view no_outcome (omega (arith, l, count-views_in turn i s)) ∙ ap turn e
    ∙ sym (get_or-map turn (views_in turn j s) q no_view no_outcome (omega (arith, l, many, count-views_in turn j s)))

-- no item passes
no_target : {X : Type 0} (target : X → ℕ) (d : ℕ) (xs : List X) → All (λ x. target x ≢ d) xs → filter (λ x. target x == d) xs ≡ []
no_target target d [] h = refl
no_target target d (x ∷ xs) h =
    let other : target x ≢ d = h 0 x (omega arith) in
    let no : (target x == d) ≡ false = grind (arith, nat_tests) in
    ap (λ b. cond b (x ∷ filter (λ y. target y == d) xs) (filter (λ y. target y == d) xs)) no ∙ no_target target d xs (λ k y l. h (suc k) y (omega arith))

parcel_none : (os us : List OutcomeParts) (q d : ℕ) → DoesNotReach os q d → DoesNotReach us q d → HasSameParcel d (outcome_of os q) (outcome_of us q)
parcel_none os us q d h k = record {
  puts = no_target (λ (p : Put). p.target) d (outcome_of os q).puts h.puts ∙ sym (no_target (λ (p : Put). p.target) d (outcome_of us q).puts k.puts);
  sends = no_target (λ (m : Send). m.target) d (outcome_of os q).sends h.sends ∙ sym (no_target (λ (m : Send). m.target) d (outcome_of us q).sends k.sends);
}

parcel_same : (d : ℕ) (o u : OutcomeParts) → o ≡ u → HasSameParcel d o u
parcel_same d o u e = record { puts = ap (λ (x : OutcomeParts). filter (λ p. p.target == d) x.puts) e; sends = ap (λ (x : OutcomeParts). filter (λ m. m.target == d) x.sends) e }

-- functions that agree on the items of a list
pub map_all : {X Y : Type 0} (f h : X → Y) (xs : List X) → All (λ x. f x ≡ h x) xs → map f xs ≡ map h xs
map_all f h [] same = refl
map_all f h (x ∷ xs) same = ap (λ y. y ∷ map f xs) (same 0 x (omega arith)) ∙ ap (λ ys. h x ∷ ys) (map_all f h xs (λ k y l. same (suc k) y (omega arith)))

-- the words that a get reads of an owner that left the same
same_words_read : (os us : List OutcomeParts) (g : Get) → outcome_of os g.owner ≡ outcome_of us g.owner → words_read os g ≡ words_read us g
same_words_read os us g e = ap (λ (o : OutcomeParts). map (λ i. get_or o.memory (g.start + i) 0) (range_with_len 0 g.len)) e

far_args : (turn : ViewParts → OutcomeParts) (i j : Input) (s d : ℕ) → IsOutOfReach turn i j s d → get_or i.args d [] ≡ get_or j.args d []
far_args turn i j zero d h = h.args
far_args turn i j (suc s) d h = far_args turn i j s d h.0

lower : (turn : ViewParts → OutcomeParts) (i j : Input) (s : ℕ) → HaveSameTables turn i j (suc s) → HaveSameTables turn i j s
lower turn i j s h = record { table = λ k l. h.table k (omega arith); tag_size = λ k l. h.tag_size k (omega arith) }

-- views that are alike, where the table and the tag size are the same
completed : (turn : ViewParts → OutcomeParts) (i j : Input) (s d : ℕ) → length i.mems ≡ length j.mems → d < length i.mems → (state_at turn i s).table ≡ (state_at turn j s).table → (state_at turn i s).tag_size ≡ (state_at turn j s).tag_size
    → AreAlikeButForTable (get_or (views_in turn i s) d no_view) (get_or (views_in turn j s) d no_view) → get_or (views_in turn i s) d no_view ≡ get_or (views_in turn j s) d no_view
completed turn i j s d many l table tag alike =
    let v = view-in turn i s d l in
    let w = view-in turn j s d (omega (arith, l, many)) in
    same_view (get_or (views_in turn i s) d no_view) (get_or (views_in turn j s) d no_view) alike
    (ap (λ (x : ViewParts). x.table) v ∙ table ∙ sym (ap (λ (x : ViewParts). x.table) w))
    (ap (λ (x : ViewParts). x.tag_size) v ∙ tag ∙ sym (ap (λ (x : ViewParts). x.tag_size) w))

abbrev LeavesTheSame : (ViewParts → OutcomeParts) → Input → Input → ℕ → ℕ → Type 0
LeavesTheSame turn i j s q = outcome_of (outcomes_in turn i s) q ≡ outcome_of (outcomes_in turn j s) q

-- what is delivered to a process that is not reached
same_delivered : (turn : ViewParts → OutcomeParts) (i j : Input) (s d : ℕ) → length i.mems ≡ length j.mems → d < length i.mems → LeavesTheSame turn i j s d
    → ((q : ℕ) → q < length i.mems → LeavesTheSame turn i j s q ⊎ DoesNotReachIn turn i j s q d) → delivery_parts (outcomes_in turn i s) d ≡ delivery_parts (outcomes_in turn j s) d
same_delivered turn i j s d many l own each =
    let os = outcomes_in turn i s in
    let us = outcomes_in turn j s in
    let long : length os ≡ length us = count-outcomes_in turn i s ∙ many ∙ sym (count-outcomes_in turn j s) in
    let read : All (λ g. words_read os g ≡ words_read us g) (outcome_of us d).gets = λ k g m.
    let h = get_or (outcome_of us d).gets k g in
    elim (cases_lt h.owner (length i.mems)) [
      | inl w ↦
          elim (each h.owner w) [
            | inl same ↦ same_words_read os us h same
            | inr far ↦ absurd (far.after.gets k g m refl)
          ]
      | inr w ↦ same_words_read os us h (get_or_past os h.owner no_outcome (omega (arith, w, count-outcomes_in turn i s)) ∙ sym (get_or_past us h.owner no_outcome (omega (arith, w, many, count-outcomes_in turn j s))))
    ] in
    (same_parts os us d long (omega (arith, l, many, count-outcomes_in turn j s))).1 record {
      brought = λ q m. record {
        parcel =
            elim (each q (omega (arith, m, many, count-outcomes_in turn j s))) [
              | inl same ↦ parcel_same d (outcome_of os q) (outcome_of us q) same
              | inr far ↦ parcel_none os us q d far.before far.after
            ];
        own = λ here. subst (KeepsOwn os us) here (ap (λ (o : OutcomeParts). o.memory) own, ap (λ (o : OutcomeParts). o.gets) own);
      };
      read = map_all (words_read os) (words_read us) (outcome_of us d).gets read;
    }

pub sees_the_same : (turn : ViewParts → OutcomeParts) (i j : Input) → length i.mems ≡ length j.mems → (s d : ℕ) → d < length i.mems → HaveSameTables turn i j s → IsOutOfReach turn i j s d
    → get_or (views_in turn i s) d no_view ≡ get_or (views_in turn j s) d no_view
sees_the_same turn i j many zero d l tables h = completed turn i j 0 d many l (tables.table 0 (omega arith)) (tables.tag_size 0 (omega arith)) (first_alike turn i j d many (omega arith) h.args h.memory)
sees_the_same turn i j many (suc s) d l tables h =
    let below = lower turn i j s tables in
    let leaves : (q : ℕ) → q < length i.mems → IsOutOfReach turn i j s q → LeavesTheSame turn i j s q = λ q m far. same_outcome turn i j s q many m (sees_the_same turn i j many s q m below far) in
    let each : (q : ℕ) → q < length i.mems → LeavesTheSame turn i j s q ⊎ DoesNotReachIn turn i j s q d = λ q m. elim (h.1 q m) [ inl far ↦ inl (leaves q m far) | inr away ↦ inr away ] in
    let parts = same_delivered turn i j s d many l (leaves d l h.0) each in
    let next : AreAlikeButForTable (get_or (views_in turn i (s + 1)) d no_view) (get_or (views_in turn j (s + 1)) d no_view) = propagated turn i j s d many (omega arith) (far_args turn i j s d h.0) parts in
    completed turn i j (suc s) d many l (tables.table (suc s) (omega arith)) (tables.tag_size (suc s) (omega arith)) (subst (λ k. AreAlikeButForTable (get_or (views_in turn i k) d no_view) (get_or (views_in turn j k) d no_view)) (add-one s) next)

-- what a process saw in a superstep of a whole run
pub seen : (turn : ViewParts → OutcomeParts) (i : Input) (s : ℕ) → input_fault i ≡ None → s < length (supersteps_of (run turn i)) → (superstep_at (supersteps_of (run turn i)) s).views ≡ views_in turn i s
seen turn i s h l = (IsBspRun-run turn i h).views s l

pub inside_news : (turn : ViewParts → OutcomeParts) (j : Input) (s d : ℕ) → d < length (superstep_at (supersteps_of (run turn j)) s).views → s < length (supersteps_of (run turn j))
inside_news turn j s d l =
    elim (cases_lt s (length (supersteps_of (run turn j)))) [
      | inl w ↦ w
      | inr w ↦ absurd (omega (arith, l, ap (λ (x : Superstep). length x.views) (superstep_at-past_end (supersteps_of (run turn j)) s w)))
    ]

not_executed : (turn : ViewParts → OutcomeParts) (looks : ViewParts → ℕ → Bool) (i : Input) (edits : List Edit) (update : Update) → input_fault i ≡ None → refusal_of i edits ≡ None
    → IsExact looks (Some (run turn i)) (run turn (edited i edits)) update
    → (s d : ℕ) → s < length (supersteps_of (run turn i)) → d < length i.mems → HaveSameTables turn i (edited i edits) s → IsOutOfReach turn i (edited i edits) s d
    → Contains update.executed (record { step = s; pid = d }) → ⊥
not_executed turn looks i edits update lawful accepted is s d l here tables far c =
    let j = edited i edits in
    let olds = supersteps_of (run turn i) in
    let news = supersteps_of (run turn j) in
    let q : Place = record { step = s; pid = d } in
    let x = (is.executed q).0 c in
    let taken : s < length news = inside_news turn j s d x.0 in
    let old = seen turn i s lawful l in
    let new = seen turn j s (edited_lawful i edits accepted lawful) taken in
    let same : view_there olds q ≡ view_there news q =
    ap (λ (vs : List ViewParts). get_or vs d no_view) old ∙ sees_the_same turn i j (sym (edited_count i edits)) s d here tables far ∙ sym (ap (λ (vs : List ViewParts). get_or vs d no_view) new) in
    let v = view_there olds q in
    let itself : AreAlike (looks v) v v = (Decides-serves looks v v).0 (serves-itself looks v) in
    x.1 record {
      there = omega (arith, here, ap (λ (vs : List ViewParts). length vs) old, count-views_in turn i s);
      alike = subst (AreAlike (looks v) v) same itself;
    }

pub within_reach : (turn : ViewParts → OutcomeParts) (looks : ViewParts → ℕ → Bool) (i : Input) (edits : List Edit) (update : Update) → input_fault i ≡ None → refusal_of i edits ≡ None
    → IsExact looks (Some (run turn i)) (run turn (edited i edits)) update → IsWithinReach turn i (edited i edits) update
within_reach turn looks i edits update lawful accepted is = record { far = not_executed turn looks i edits update lawful accepted is }

-- what is registered makes the next table and tag size

next_tag : (m n : ℕ) (os us : List OutcomeParts) → m ≡ n → tags_of os ≡ tags_of us → next_tag_size m os ≡ next_tag_size n us
next_tag m n [] [] e h = e
next_tag m n [] (u ∷ us) e h = cc
next_tag m n (o ∷ os) [] e h = cc
next_tag m n (o ∷ os) (u ∷ us) e h = let same : o.tag ≡ u.tag = cc in ap (λ t. unwrap_or t m) same ∙ ap (unwrap_or u.tag) e

table-after : (x : State) (os : List OutcomeParts) → (next_state x os).table ≡ next_table x.table (pops_of os) (pushes_of os)
unfolding next_state
table-after x os = refl

tag-after : (x : State) (os : List OutcomeParts) → (next_state x os).tag_size ≡ next_tag_size x.tag_size os
unfolding next_state
tag-after x os = refl

record SameAt (turn : ViewParts → OutcomeParts) (i j : Input) (s : ℕ) : Type 0 where
  pub table : (state_at turn i s).table ≡ (state_at turn j s).table
  pub tag_size : (state_at turn i s).tag_size ≡ (state_at turn j s).tag_size

first_same : (turn : ViewParts → OutcomeParts) (i j : Input) → SameAt turn i j 0
unfolding state_at first_state
first_same turn i j = record { table = refl; tag_size = refl }

next_same : (turn : ViewParts → OutcomeParts) (i j : Input) (s : ℕ) → SameAt turn i j s → RegistersTheSame turn i j s → SameAt turn i j (s + 1)
next_same turn i j s h r =
    let x = state_at turn i s in let y = state_at turn j s in let os = outcomes_in turn i s in let us = outcomes_in turn j s in
    let v = state_at-next turn i s in let w = state_at-next turn j s in
    record {
      table =
          ap (λ (z : State). z.table) v ∙ table-after x os
          ∙ ap (λ t. next_table t (pops_of os) (pushes_of os)) h.table ∙ ap (λ t. next_table y.table t (pushes_of os)) r.pops ∙ ap (next_table y.table (pops_of us)) r.pushes
          ∙ sym (ap (λ (z : State). z.table) w ∙ table-after y us);
      tag_size = ap (λ (z : State). z.tag_size) v ∙ tag-after x os ∙ next_tag x.tag_size y.tag_size os us h.tag_size r.tags ∙ sym (ap (λ (z : State). z.tag_size) w ∙ tag-after y us);
    }

same_at : (turn : ViewParts → OutcomeParts) (i j : Input) (s : ℕ) → ((k : ℕ) → k < s → RegistersTheSame turn i j k) → SameAt turn i j s
same_at turn i j zero h = first_same turn i j
same_at turn i j (suc s) h = subst (SameAt turn i j) (add-one s) (next_same turn i j s (same_at turn i j s (λ k l. h k (omega arith))) (h s (omega arith)))

pub tables_stay : (turn : ViewParts → OutcomeParts) (i j : Input) (s : ℕ) → ((k : ℕ) → k < s → RegistersTheSame turn i j k) → HaveSameTables turn i j s
tables_stay turn i j s h =
    record { table = λ k l. (same_at turn i j k (λ m n. h m (omega arith))).table; tag_size = λ k l. (same_at turn i j k (λ m n. h m (omega arith))).tag_size }

-- a process to which nothing else came
pub no_cause : (turn : ViewParts → OutcomeParts) (looks : ViewParts → ℕ → Bool) (i : Input) (edits : List Edit) (update : Update) → input_fault i ≡ None → refusal_of i edits ≡ None
    → IsExact looks (Some (run turn i)) (run turn (edited i edits)) update
    → (s d : ℕ) → s + 1 < length (supersteps_of (run turn i)) → HasNoCause turn i (edited i edits) s d → Contains update.executed (record { step = s + 1; pid = d }) → ⊥
no_cause turn looks i edits update lawful accepted is s d l none c =
    let j = edited i edits in
    let olds = supersteps_of (run turn i) in
    let news = supersteps_of (run turn j) in
    let q : Place = record { step = s + 1; pid = d } in
    let x = (is.executed q).0 c in
    let many : length i.mems ≡ length j.mems = sym (edited_count i edits) in
    let old = seen turn i (s + 1) lawful l in
    let new = seen turn j (s + 1) (edited_lawful i edits accepted lawful) (inside_news turn j (s + 1) d x.0) in
    let below : d < length j.mems = omega (arith, x.0, ap (λ (vs : List ViewParts). length vs) new, count-views_in turn j (s + 1)) in
    let here : d < length i.mems = omega (arith, below, many) in
    let alike = propagated turn i j s d many below none.args none.delivery in
    let same : view_there olds q ≡ view_there news q =
    ap (λ (vs : List ViewParts). get_or vs d no_view) old ∙ completed turn i j (s + 1) d many here none.table none.tag_size alike ∙ sym (ap (λ (vs : List ViewParts). get_or vs d no_view) new) in
    let v = view_there olds q in
    let itself : AreAlike (looks v) v v = (Decides-serves looks v v).0 (serves-itself looks v) in
    x.1 record {
      there = omega (arith, here, ap (λ (vs : List ViewParts). length vs) old, count-views_in turn i (s + 1));
      alike = subst (AreAlike (looks v) v) same itself;
    }
