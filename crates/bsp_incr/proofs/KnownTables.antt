-- What is known of the tables of a run that is made again.
use Rattle.std.proofs.Common.{◌≡◌, ◌≤◌, ◌<◌, ◌+◌, ℕ, Bool, true, false, cond, List, [], ◌∷◌, Option, None, Some, map, length, get_or, arith, refl, sym, ap, ◌∙◌, subst, length-append}
use Rattle.std.proofs.lemmas.Bool.{false≢true}
use Rattle.bsp_model.specs.declared.input.Input.{Input}
use Rattle.bsp_table.specs.declared.area.Area.{Area}
use Rattle.bsp_table.specs.NextTable.{next_table}
use Rattle.bsp_step.specs.ViewParts.{ViewParts}
use Rattle.bsp_step.specs.OutcomeParts.{OutcomeParts}
use Rattle.bsp_deliver.specs.SyncFault.{next_tag_size}
use Rattle.bsp_run.specs.declared.superstep.Superstep.{Superstep}
use Rattle.bsp_run.specs.State.{State, next_state, pops_of, pushes_of, view_of}
use Rattle.bsp_run.specs.Ending.{end_of}
use Rattle.bsp_run.specs.Run.{Run, open_views, after_turns, after_delivery}
use Rattle.bsp_run.specs.Law.{state_at, views_in}
use Rattle.bsp_run.specs.Condition.{no_view, is_open}
use Rattle.bsp_run.specs.Inside.Record.{IsRecord}
use Rattle.bsp_run.proofs.Conditions.{view-views_of}
use Rattle.bsp_run.proofs.Runs.{turns_closed}
use Rattle.bsp_run.proofs.Records.{superstep, state_at-next, count-next, count-views_in, open_views-in, past-delivered, past-turned}
use Rattle.bsp_run.proofs.Laws.{taken-opened}
use Rattle.bsp_incr.specs.declared.compare.known_table.KnownTable.{KnownTable}
use Rattle.bsp_incr.specs.declared.compare.known_table.KnownTable.TheVariants.{AsBefore, Unknown}
use Rattle.bsp_incr.specs.Inside.Alike.{AllEndAlike}
use Rattle.bsp_incr.specs.Inside.Before.{views_before, delivered_outcomes, views_after, IsBefore}
use Rattle.bsp_incr.specs.Inside.Known.{HaveSameTable, IsKnown, KnowsTable, KnowsNextTable}
use Rattle.bsp_incr.proofs.EndLikeness.{same_end, same_next_table, same_next_tag_size}
use Rattle.bsp_incr.proofs.Propagation.{view-in}
use Rattle.bsp_incr.proofs.Remaking.{outcomes-turned}
use Rattle.bsp_incr.proofs.RunBefore.{record_of_law, taken-in, some_taken, nothing_taken, delivered-in, some_delivered, nothing_delivered, next-in}
use Rattle.bsp_incr.proofs.Staying.{IsStaying, same_after}

-- The state of a superstep has the table and the tag size of another state.
record SharesTable (s t : State) : Type 0 where
  pub table : s.table ≡ t.table
  pub tag_size : s.tag_size ≡ t.tag_size

-- the table and the tag size of the next state
table_next : (s : State) (os : List OutcomeParts) → (next_state s os).table ≡ next_table s.table (pops_of os) (pushes_of os)
unfolding next_state
table_next s os = refl

tag_next : (s : State) (os : List OutcomeParts) → (next_state s os).tag_size ≡ next_tag_size s.tag_size os
unfolding next_state
tag_next s os = refl

shares_next : (s t : State) (os us : List OutcomeParts) → SharesTable s t → AllEndAlike os us → SharesTable (next_state s os) (next_state t us)
shares_next s t os us h alike =
    record {
      table =
          table_next s os ∙ ap (λ (slots : List (List Area)). next_table slots (pops_of os) (pushes_of os)) h.table ∙ same_next_table t.table os us alike ∙ sym (table_next t us);
      tag_size = tag_next s os ∙ ap (λ n. next_tag_size n os) h.tag_size ∙ same_next_tag_size t.tag_size os us alike ∙ sym (tag_next t us);
    }

-- the first process sees the table of the state
first_open : (r : Run) → 0 < length r.state.memories → get_or (open_views r) 0 no_view ≡ view_of r.args (length r.past) r.state 0
first_open r l = view-views_of r.args (length r.past) r.state 0 l

-- the state after the delivery
state-delivered : (r : Run) → (after_delivery r).state ≡ next_state r.state r.outcomes
unfolding after_delivery
state-delivered r = refl

some-delivered : (r : Run) → 1 ≤ length r.outcomes → 0 < length (after_delivery r).state.memories
some-delivered r l = omega (arith, l, ap (λ (s : State). length s.memories) (state-delivered r), count-next r.state r.outcomes)

-- what the first process sees after the delivery
table-delivered : (r : Run) → 1 ≤ length r.outcomes → (get_or (open_views (after_delivery r)) 0 no_view).table ≡ (next_state r.state r.outcomes).table
table-delivered r l = ap (λ (v : ViewParts). v.table) (first_open (after_delivery r) (some-delivered r l)) ∙ ap (λ (s : State). s.table) (state-delivered r)

tag-delivered : (r : Run) → 1 ≤ length r.outcomes → (get_or (open_views (after_delivery r)) 0 no_view).tag_size ≡ (next_state r.state r.outcomes).tag_size
tag-delivered r l = ap (λ (v : ViewParts). v.tag_size) (first_open (after_delivery r) (some-delivered r l)) ∙ ap (λ (s : State). s.tag_size) (state-delivered r)

-- What is known of the next table as what the next setting has, and back.
pub table_of_known : (r : Run) (views : List ViewParts) → 1 ≤ length r.outcomes → HaveSameTable views (open_views (after_delivery r)) → (get_or views 0 no_view).table ≡ (next_state r.state r.outcomes).table
table_of_known r views some h = h.table ∙ table-delivered r some

pub tag_of_known : (r : Run) (views : List ViewParts) → 1 ≤ length r.outcomes → HaveSameTable views (open_views (after_delivery r)) → (get_or views 0 no_view).tag_size ≡ (next_state r.state r.outcomes).tag_size
tag_of_known r views some h = h.tag_size ∙ tag-delivered r some

pub known_of_next : (r : Run) (views : List ViewParts) → 1 ≤ length r.outcomes → 0 < length views → (get_or views 0 no_view).table ≡ (next_state r.state r.outcomes).table → (get_or views 0 no_view).tag_size ≡ (next_state r.state r.outcomes).tag_size
    → HaveSameTable views (open_views (after_delivery r))
known_of_next r views some seen table tag = record { some = seen; table = table ∙ sym (table-delivered r some); tag_size = tag ∙ sym (tag-delivered r some) }

-- Where the open superstep has the table of the previous run, the states share it.
shares_open : (turn : ViewParts → OutcomeParts) (input : Input) (k r : Run) (h : IsBefore turn input (Some k)) → IsRecord turn input r → HaveSameTable (views_before (Some k) (length r.past)) (open_views r) → SharesTable (state_at turn h.input_before (length r.past)) r.state
shares_open turn input k r h made same =
    let s = length r.past in
    let taken = taken-in turn input k s h (some_taken k s 0 same.some) in
    let here : 0 < length h.input_before.mems = omega (arith, same.some, ap (λ (vs : List ViewParts). length vs) taken, count-views_in turn h.input_before s) in
    let there : 0 < length input.mems = omega (arith, here, h.stands) in
    let old = ap (λ (vs : List ViewParts). get_or vs 0 no_view) taken ∙ view-in turn h.input_before s 0 here in
    let new = ap (λ (vs : List ViewParts). get_or vs 0 no_view) (open_views-in turn input r made) ∙ view-in turn input s 0 there in
    record {
      table = sym (ap (λ (v : ViewParts). v.table) old) ∙ same.table ∙ ap (λ (v : ViewParts). v.table) new ∙ sym (ap (λ (x : State). x.table) made.state);
      tag_size = sym (ap (λ (v : ViewParts). v.tag_size) old) ∙ same.tag_size ∙ ap (λ (v : ViewParts). v.tag_size) new ∙ sym (ap (λ (x : State). x.tag_size) made.state);
    }

-- What is known where turns end as those of the previous run, which ended by delivery.
pub record EndAsBefore (old : Option Run) (r : Run) (us : List OutcomeParts) : Type 0 where
  pub same_table : HaveSameTable (views_before old (length r.past)) (open_views r)
  pub alike : AllEndAlike (delivered_outcomes old (length r.past)) us

-- The superstep ends by delivery ..
pub delivers_as_before : (turn : ViewParts → OutcomeParts) (input : Input) (old : Option Run) (r : Run) (us : List OutcomeParts) → IsBefore turn input old → IsRecord turn input r → EndAsBefore old r us → end_of (length r.past) r.state.table us ≡ None
delivers_as_before turn input None r us h made e = absurd (nothing_delivered (length r.past) 0 e.alike.some)
delivers_as_before turn input (Some k) r us h made e =
    let s = length r.past in
    let past = some_delivered k s 0 e.alike.some in
    let shared = shares_open turn input k r h made e.same_table in
    sym (same_end s r.state.table (delivered_outcomes (Some k) s) us e.alike)
    ∙ ap (λ (slots : List (List Area)). end_of s slots (delivered_outcomes (Some k) s)) (sym shared.table)
    ∙ ap (end_of s (state_at turn h.input_before s).table) (delivered-in turn input k s h past)
    ∙ (record_of_law turn h.input_before k h.lawful h.law).goes_on s past

-- .. and the next one has the table and the tag size of the previous run.
next_as_before : (turn : ViewParts → OutcomeParts) (input : Input) (k r t : Run) (h : IsBefore turn input (Some k)) → IsRecord turn input r → EndAsBefore (Some k) r t.outcomes → t.state ≡ r.state → t.past ≡ r.past → HaveSameTable (views_after (Some k) (length t.past)) (open_views (after_delivery t))
next_as_before turn input k r t h made e state past =
    let s = length r.past in
    let us = t.outcomes in
    let i = h.input_before in
    let delivered = some_delivered k s 0 e.alike.some in
    let os = delivered_outcomes (Some k) s in
    let some : 1 ≤ length us = omega (arith, e.alike.some, e.alike.count) in
    let shared = shares_next (state_at turn i s) r.state os us (shares_open turn input k r h made e.same_table) e.alike in
    let after : state_at turn i (s + 1) ≡ next_state (state_at turn i s) os = state_at-next turn i s ∙ ap (next_state (state_at turn i s)) (sym (delivered-in turn input k s h delivered)) in
    let views : views_after (Some k) (length t.past) ≡ views_in turn i (s + 1) = ap (λ (xs : List Superstep). views_after (Some k) (length xs)) past ∙ next-in turn input k s h delivered in
    let taken = taken-in turn input k s h (some_taken k s 0 e.same_table.some) in
    let here : 0 < length i.mems = omega (arith, e.same_table.some, ap (λ (vs : List ViewParts). length vs) taken, count-views_in turn i s) in
    let first = ap (λ (vs : List ViewParts). get_or vs 0 no_view) views ∙ view-in turn i (s + 1) 0 here in
    record {
      some = omega (arith, here, ap (λ (vs : List ViewParts). length vs) views, count-views_in turn i (s + 1));
      table =
          ap (λ (v : ViewParts). v.table) first ∙ ap (λ (x : State). x.table) after ∙ shared.table ∙ ap (λ (x : State). (next_state x us).table) (sym state) ∙ sym (table-delivered t some);
      tag_size =
          ap (λ (v : ViewParts). v.tag_size) first ∙ ap (λ (x : State). x.tag_size) after ∙ shared.tag_size ∙ ap (λ (x : State). (next_state x us).tag_size) (sym state) ∙ sym (tag-delivered t some);
    }

state-turned : (r : Run) (us : List OutcomeParts) → (after_turns r us).state ≡ r.state
unfolding after_turns
state-turned r us = refl

pub knows_next_as_before : (turn : ViewParts → OutcomeParts) (input : Input) (old : Option Run) (r t : Run) (us : List OutcomeParts) → IsBefore turn input old → IsRecord turn input r → EndAsBefore old r us → t ≡ after_turns r us → KnowsNextTable old t AsBefore
knows_next_as_before turn input None r t us h made e is = absurd (nothing_delivered (length r.past) 0 e.alike.some)
knows_next_as_before turn input (Some k) r t us h made e is = λ _.
    next_as_before turn input k r t h made (subst (EndAsBefore (Some k) r) (sym (ap (λ (x : Run). x.outcomes) is ∙ outcomes-turned r us)) e)
    (ap (λ (x : Run). x.state) is ∙ state-turned r us) (ap (λ (x : Run). x.past) is ∙ past-turned r us)

-- So much is known where it is known whether the turns end alike.
pub knows_next_if : (old : Option Run) (t : Run) (ends : Bool) (known : KnownTable) → known ≡ cond ends AsBefore Unknown → (ends ≡ true → KnowsNextTable old t AsBefore) → KnowsNextTable old t known
knows_next_if old t true known is h = subst (KnowsNextTable old t) (sym is) (h refl)
knows_next_if old t false known is h = subst (KnowsNextTable old t) (sym is) tt

-- A superstep that the previous run took after a delivery shows what it showed after that delivery.
taken_after : (turn : ViewParts → OutcomeParts) (input : Input) (old : Option Run) (s : ℕ) → IsBefore turn input old → 0 < length (views_before old (s + 1)) → views_after old s ≡ views_before old (s + 1)
taken_after turn input None s h l = absurd (nothing_taken (s + 1) 0 l)
taken_after turn input (Some k) s h l =
    let taken = some_taken k (s + 1) 0 l in
    let past : s < length k.past = let room = taken-opened k (s + 1) taken in omega (arith, room.0) in
    next-in turn input k s h past ∙ sym (taken-in turn input k (s + 1) h taken)

-- What is known of the next table is known of it once it is open.
known_ahead : (old new before : List ViewParts) (known : KnownTable) → IsKnown known before new → (0 < length old → before ≡ old) → IsKnown known old new
known_ahead old new before AsBefore h same = λ l. let e = same l in subst (λ (vs : List ViewParts). HaveSameTable vs new) e (h (subst (λ (vs : List ViewParts). 0 < length vs) (sym e) l))
known_ahead old new before Unknown h same = h

past_longer : (r : Run) (us : List OutcomeParts) → length (after_delivery (after_turns r us)).past ≡ length r.past + 1
past_longer r us = ap (λ (xs : List Superstep). length xs) (past-delivered r us) ∙ length-append r.past (superstep (open_views r) us ∷ [])

pub knows_delivered : (turn : ViewParts → OutcomeParts) (input : Input) (old : Option Run) (r t q : Run) (us : List OutcomeParts) (known : KnownTable) → IsBefore turn input old → t ≡ after_turns r us → q ≡ after_delivery t → KnowsNextTable old t known → KnowsTable old q known
knows_delivered turn input old r t q us known h turned delivered next = λ _.
    let s = length r.past in
    let same : after_delivery t ≡ q = sym delivered in
    let steps : length t.past ≡ s = ap (λ (x : Run). length x.past) turned ∙ ap (λ (xs : List Superstep). length xs) (past-turned r us) in
    let long : length q.past ≡ s + 1 = ap (λ (x : Run). length x.past) (delivered ∙ ap after_delivery turned) ∙ past_longer r us in
    known_ahead (views_before old (length q.past)) (open_views q) (views_after old (length t.past)) known
    (subst (λ (x : Run). IsKnown known (views_after old (length t.past)) (open_views x)) same next)
    (λ l. ap (views_after old) steps ∙ taken_after turn input old s h (subst (λ n. 0 < length (views_before old n)) long l) ∙ ap (views_before old) (sym long))

-- A superstep that ends the run leaves none open.
pub knows_ended : (old : Option Run) (r t : Run) (us : List OutcomeParts) (known : KnownTable) → t ≡ after_turns r us → KnowsTable old t known
knows_ended old r t us known is = λ o. absurd (false≢true (sym (ap (λ (x : Run). is_open x.phase) is ∙ turns_closed r us) ∙ o))

same_table : (vs ws : List ViewParts) → 0 < length vs → vs ≡ ws → HaveSameTable vs ws
same_table vs ws l e = record { some = l; table = ap (λ (xs : List ViewParts). (get_or xs 0 no_view).table) e; tag_size = ap (λ (xs : List ViewParts). (get_or xs 0 no_view).tag_size) e }

-- After a superstep that was taken over whole, all see what they saw.
pub knows_taken : (turn : ViewParts → OutcomeParts) (j : Input) (old r q : Run) (k : IsBefore turn j (Some old)) → IsStaying turn k.input_before j old r → IsRecord turn j q → q ≡ after_delivery (after_turns r (map turn (open_views r))) → KnowsTable (Some old) q AsBefore
knows_taken turn j old r q k h made is = λ _ l.
    let s = length r.past in
    let long : length q.past ≡ s + 1 = ap (λ (x : Run). length x.past) is ∙ past_longer r (map turn (open_views r)) in
    let seen = same_after turn k.input_before j s h.some h.many (h.seen ∙ open_views-in turn j r h.made) in
    let views : open_views q ≡ views_in turn j (s + 1) = open_views-in turn j q made ∙ ap (views_in turn j) long in
    let there : 0 < length (views_before (Some old) (s + 1)) = subst (λ n. 0 < length (views_before (Some old) n)) long l in
    let taken = taken-in turn j old (s + 1) k (some_taken old (s + 1) 0 there) in
    same_table (views_before (Some old) (length q.past)) (open_views q) l (ap (views_before (Some old)) long ∙ taken ∙ seen ∙ sym views)
