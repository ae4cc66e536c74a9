-- The previous run, superstep by superstep.
use Rattle.std.proofs.Common.{◌≡◌, ◌≤◌, ◌<◌, ◌+◌, ℕ, Bool, true, false, cond, List, [], ◌∷◌, Option, None, Some, map, length, get_or, arith, refl, sym, ap, ◌∙◌, subst, inl, inr}
use Rattle.std.specs.Prelude.{nat_lt, slice_get}
use Rattle.std.proofs.lemmas.Bool.{cases_lt}
use Rattle.std.proofs.lemmas.Bool.Decides.{nat_tests}
use Rattle.std.proofs.lemmas.List.{get_or_default, get_or-map, length-map}
use Rattle.std.proofs.lemmas.Option.{slice_get-get_or, slice_get_past}
use Rattle.std.proofs.lemmas.List.FromFn.{fill_by_all}
use Rattle.std.proofs.lemmas.Grind.{common_steps}
use Rattle.bsp_model.specs.declared.input.Input.{Input}
use Rattle.bsp_model.specs.Input.{input_fault}
use Rattle.bsp_model.specs.Replaced.{replaced}
use Rattle.bsp_model.proofs.Inputs.{lawful_input}
use Rattle.bsp_step.specs.ViewParts.{ViewParts}
use Rattle.bsp_step.specs.OutcomeParts.{OutcomeParts}
use Rattle.bsp_run.specs.declared.superstep.Superstep.{Superstep}
use Rattle.bsp_run.specs.Run.{Run, open_views}
use Rattle.bsp_run.specs.Supersteps.{no_superstep, supersteps_of, supersteps_opened, superstep_at}
use Rattle.bsp_run.specs.State.{view_of}
use Rattle.bsp_run.specs.Law.{state_at, views_in, outcomes_in, IsBspRun}
use Rattle.bsp_run.specs.Condition.{no_view}
use Rattle.bsp_run.specs.Inside.Record.{IsRecord}
use Rattle.bsp_run.proofs.Records.{opened-past, open_views-in, count-views_in, count-outcomes_in, IsRecord-run}
use Rattle.bsp_run.proofs.OneRun.{one_run}
use Rattle.bsp_run.proofs.Laws.{superstep_at-past_end, taken-opened, taken_outcomes}
use Rattle.bsp_incr.specs.Inside.Marks.{HaveOneTable, AreDelivered, AreArgsMarked}
use Rattle.bsp_incr.specs.Exact.{delivered_before, supersteps_before}
use Rattle.bsp_incr.specs.Inside.Before.{views_before, outcomes_before, delivered_outcomes, views_after, first_view_before, IsBefore, IsBeforeEdits, HasSameArgs, HasSameMemory}
use Rattle.bsp_model.specs.ProcessSet.{processes_where}
use Rattle.bsp_incr.specs.declared.edit.Edit.{Edit}
use Rattle.bsp_incr.proofs.Lawful.{edited_count}
use Rattle.bsp_incr.proofs.Patching.{patched, patched_is}
use Rattle.bsp_incr.proofs.Propagation.{one_table, view-in, first_memory, memory-in, queue-in}

-- the run of a lawful input is its record
pub record_of_law : (turn : ViewParts → OutcomeParts) (input : Input) (r : Run) → input_fault input ≡ None → IsBspRun turn input r → IsRecord turn input r
record_of_law turn input r lawful law =
    subst (IsRecord turn input) (sym ((one_run turn input r lawful).0 law)) (IsRecord-run turn input (lawful_input input lawful).some_superstep)

-- edits leave as many processes
pub before_edits : (turn : ViewParts → OutcomeParts) (edits : List Edit) (input : Input) (r : Run) → IsBeforeEdits turn edits input r → IsBefore turn input (Some r)
before_edits turn edits input r h =
    record { input_before = h.input_before; lawful = h.lawful; law = h.law; stands = sym (edited_count h.input_before edits) ∙ ap (λ (i : Input). length i.mems) (sym h.stands) }

-- what a process saw first
pub first_view : (turn : ViewParts → OutcomeParts) (input : Input) (k : Run) (p : ℕ) (h : IsBefore turn input (Some k)) → p < length input.mems → first_view_before k p ≡ view_of h.input_before.args 0 (state_at turn h.input_before 0) p
first_view turn input k p h l = ap (λ (vs : List ViewParts). get_or vs p no_view) ((record_of_law turn h.input_before k h.lawful h.law).views 0 (omega arith)) ∙ view-in turn h.input_before 0 p (omega (arith, l, h.stands))

-- the arguments and the memory that it had
pub args_before : (turn : ViewParts → OutcomeParts) (input : Input) (k : Run) (p : ℕ) (h : IsBefore turn input (Some k)) → p < length input.mems → HasSameArgs (Some k) input p → get_or h.input_before.args p [] ≡ get_or input.args p []
args_before turn input k p h l same = sym (ap (λ (v : ViewParts). v.args) (first_view turn input k p h l)) ∙ same k refl

-- there are arguments for as many processes
pub count_args : (turn : ViewParts → OutcomeParts) (input : Input) (k : Run) (h : IsBefore turn input (Some k)) → input_fault input ≡ None → length k.args ≡ length input.args
count_args turn input k h lawful =
    ap (λ (lists : List (List ℕ)). length lists) h.law.args ∙ (lawful_input h.input_before h.lawful).same_count ∙ h.stands ∙ sym (lawful_input input lawful).same_count

-- The arguments of the previous run, with those of the marked processes in their places, are the new ones.
pub args_in_place : (turn : ViewParts → OutcomeParts) (input : Input) (k : Run) (always : List Bool) (others : List ℕ) (h : IsBefore turn input (Some k)) → input_fault input ≡ None → AreArgsMarked (Some k) input always
    → others ≡ processes_where (length always) (λ p. get_or always p false) → replaced k.args others (map (λ p. get_or input.args p []) others) ≡ input.args
args_in_place turn input k always others h lawful marked listed =
    let n = length input.mems in
    let f : ℕ → List ℕ = λ p. get_or input.args p [] in
    let test : ℕ → Bool = λ p. get_or always p false in
    let long : length k.args ≡ n = count_args turn input k h lawful ∙ (lawful_input input lawful).same_count in
    let there : (p : ℕ) → p < n → test p ≡ false → get_or k.args p [] ≡ f p =
    λ p l t.
    let clean : get_or always p true ≡ false = get_or_default always p true false (omega (arith, l, marked.count)) ∙ t in
    ap (λ (lists : List (List ℕ)). get_or lists p []) h.law.args ∙ args_before turn input k p h l (marked.clean p l clean) in
    ap (λ (ps : List ℕ). patched f k.args ps) (listed ∙ ap (λ m. processes_where m test) marked.count) ∙ patched_is f test n k.args [] long there
    ∙ sym (fill_by_all f input.args n [] (lawful_input input lawful).same_count (λ p l. refl))

pub memory_before : (turn : ViewParts → OutcomeParts) (input : Input) (k : Run) (p : ℕ) (h : IsBefore turn input (Some k)) → p < length input.mems → HasSameMemory (Some k) input p → get_or h.input_before.mems p [] ≡ get_or input.mems p []
memory_before turn input k p h l same = sym (first_memory turn h.input_before p) ∙ sym (ap (λ (v : ViewParts). v.memory) (first_view turn input k p h l)) ∙ same k refl

pub taken-in : (turn : ViewParts → OutcomeParts) (input : Input) (k : Run) (s : ℕ) (h : IsBefore turn input (Some k)) → s < length (supersteps_of k) → views_before (Some k) s ≡ views_in turn h.input_before s
taken-in turn input k s h l = let taken = taken-opened k s l in ap (λ (x : Superstep). x.views) taken.1 ∙ (record_of_law turn h.input_before k h.lawful h.law).views s taken.0

pub none_taken : (old : Option Run) (s : ℕ) → length (supersteps_before old) ≤ s → length (views_before old s) ≡ 0
none_taken old s l = ap (λ (x : Superstep). length x.views) (superstep_at-past_end (supersteps_before old) s l)

-- a view that there was is one of a superstep that was taken
pub some_taken : (k : Run) (s p : ℕ) → p < length (views_before (Some k) s) → s < length (supersteps_of k)
some_taken k s p l =
    elim (cases_lt s (length (supersteps_of k))) [
      | inl w ↦ w
      | inr w ↦ let none = none_taken (Some k) s w in absurd (omega arith)
    ]

pub nothing_taken : (s p : ℕ) → p < length (views_before None s) → ⊥
nothing_taken s p l = let none = none_taken None s (omega arith) in omega arith

pub delivered-in : (turn : ViewParts → OutcomeParts) (input : Input) (k : Run) (s : ℕ) (h : IsBefore turn input (Some k)) → s < length k.past → delivered_outcomes (Some k) s ≡ outcomes_in turn h.input_before s
delivered-in turn input k s h l =
    let front : superstep_at (supersteps_of k) s ≡ superstep_at k.past s = grind (arith, common_steps) in
    let turns = subst (λ (x : Superstep). x.outcomes ≡ map turn x.views) front (taken_outcomes turn (supersteps_of k) s (record_of_law turn h.input_before k h.lawful h.law).turns) in
    turns ∙ ap (map turn) (sym (ap (λ (x : Superstep). x.views) (opened-past k s l)) ∙ (record_of_law turn h.input_before k h.lawful h.law).views s (omega arith))

pub some_delivered : (k : Run) (s d : ℕ) → d < length (delivered_outcomes (Some k) s) → s < length k.past
some_delivered k s d l =
    elim (cases_lt s (length k.past)) [
      | inl w ↦ w
      | inr w ↦ let none : length (delivered_outcomes (Some k) s) ≡ 0 = ap (λ (x : Superstep). length x.outcomes) (superstep_at-past_end k.past s w) in absurd (omega arith)
    ]

pub nothing_delivered : (s d : ℕ) → d < length (delivered_outcomes None s) → ⊥
nothing_delivered s d l = let none : length (delivered_outcomes None s) ≡ 0 = ap (λ (x : Superstep). length x.outcomes) (superstep_at-past_end [] s (omega arith)) in omega arith

no_table : HaveOneTable []
no_table = record { table = λ p l. absurd (omega arith); tag_size = λ p l. absurd (omega arith) }

-- its processes see one table in each superstep
pub table_before : (turn : ViewParts → OutcomeParts) (input : Input) (old : Option Run) (s : ℕ) → IsBefore turn input old → HaveOneTable (views_before old s)
table_before turn input None s h = subst (λ (x : Superstep). HaveOneTable x.views) (sym (superstep_at-past_end [] s (omega arith))) no_table
table_before turn input (Some k) s h =
    elim (cases_lt s (length (supersteps_of k))) [
      | inl w ↦ subst HaveOneTable (sym (taken-in turn input k s h w)) (one_table turn h.input_before s)
      | inr w ↦ subst (λ (x : Superstep). HaveOneTable x.views) (sym (superstep_at-past_end (supersteps_of k) s w)) no_table
    ]

pub open_table : (turn : ViewParts → OutcomeParts) (input : Input) (r : Run) → IsRecord turn input r → HaveOneTable (open_views r)
open_table turn input r h = subst HaveOneTable (sym (open_views-in turn input r h)) (one_table turn input (length r.past))

-- its outcomes are the turns of its views
pub turns_before : (turn : ViewParts → OutcomeParts) (input : Input) (old : Option Run) (s : ℕ) → IsBefore turn input old → outcomes_before old s ≡ map turn (views_before old s)
turns_before turn input None s h = subst (λ (x : Superstep). x.outcomes ≡ map turn x.views) (sym (superstep_at-past_end [] s (omega arith))) refl
turns_before turn input (Some k) s h = taken_outcomes turn (supersteps_of k) s (record_of_law turn h.input_before k h.lawful h.law).turns

-- what the previous run delivered, it delivered to as many processes
pub count_delivered : (turn : ViewParts → OutcomeParts) (input : Input) (k : Run) (s : ℕ) (h : IsBefore turn input (Some k)) → s < length k.past → length (delivered_outcomes (Some k) s) ≡ length input.mems
count_delivered turn input k s h l = ap (λ (os : List OutcomeParts). length os) (delivered-in turn input k s h l) ∙ count-outcomes_in turn h.input_before s ∙ h.stands

-- what stands at a place of its deliveries
pub delivered_there : (turn : ViewParts → OutcomeParts) (input : Input) (before : Option Run) (k : Run) (past : List Superstep) (s n : ℕ) (x d : Superstep) → before ≡ Some k → IsBefore turn input before → past ≡ k.past → s ≡ n → true ≡ nat_lt s (length past) → x ≡ get_or past s d
    → (x.outcomes ≡ delivered_outcomes before n) × (length x.outcomes ≡ length input.mems)
delivered_there turn input before k past s n x d is h whole at inside found =
    let here : s < length past = grind (arith, nat_tests) in
    let there : n < length k.past = omega (arith, here, at, ap (λ (xs : List Superstep). length xs) whole) in
    let outcomes : x.outcomes ≡ delivered_outcomes (Some k) n =
    ap (λ (y : Superstep). y.outcomes) (found ∙ get_or_default past s d no_superstep here) ∙ (λ i. (superstep_at (whole i) (at i)).outcomes) in
    (outcomes ∙ ap (λ (o : Option Run). delivered_outcomes o n) (sym is), ap (λ (os : List OutcomeParts). length os) outcomes ∙ count_delivered turn input k n (subst (IsBefore turn input) is h) there)

views_after-some : (k : Run) (s : ℕ) → s < length k.past → views_after (Some k) s ≡ (superstep_at (supersteps_opened k) (s + 1)).views
views_after-some k s l = let t : nat_lt s (length k.past) ≡ true = grind (arith, nat_tests) in ap (λ b. cond b (superstep_at (supersteps_opened k) (s + 1)).views []) t

-- the next superstep of the previous run
pub next-in : (turn : ViewParts → OutcomeParts) (input : Input) (k : Run) (s : ℕ) (h : IsBefore turn input (Some k)) → s < length k.past → views_after (Some k) s ≡ views_in turn h.input_before (s + 1)
next-in turn input k s h l = views_after-some k s l ∙ (record_of_law turn h.input_before k h.lawful h.law).views (s + 1) (omega (arith, l))

-- it has as many processes
pub count_after : (turn : ViewParts → OutcomeParts) (input : Input) (old : Option Run) (s : ℕ) → IsBefore turn input old → s < length (delivered_before old) → length (views_after old s) ≡ length input.mems
count_after turn input None s h l = absurd (omega arith)
count_after turn input (Some k) s h l = ap (λ (vs : List ViewParts). length vs) (next-in turn input k s h l) ∙ count-views_in turn h.input_before (s + 1) ∙ h.stands

views_after-none : (k : Run) (s : ℕ) → length k.past ≤ s → views_after (Some k) s ≡ []
views_after-none k s l = let t : nat_lt s (length k.past) ≡ false = grind (arith, nat_tests) in ap (λ b. cond b (superstep_at (supersteps_opened k) (s + 1)).views []) t

-- what is got from the views of some supersteps
pub seen_there : (supersteps : List Superstep) (s : ℕ) (views : List ViewParts) → slice_get (map (λ (x : Superstep). x.views) supersteps) s ≡ Some views → (superstep_at supersteps s).views ≡ views
seen_there [] s views e = let nobody : List (List ViewParts) = [] in let none : slice_get nobody s ≡ None = slice_get_past nobody s (omega arith) in let both : None ≡ Some views = sym none ∙ e in cc
seen_there (x ∷ supersteps) s views e =
    let seen : List (List ViewParts) = map (λ (y : Superstep). y.views) (x ∷ supersteps) in
    elim (cases_lt s (length seen)) [
      | inl w ↦
          let got : Some (get_or seen s []) ≡ Some views = sym (slice_get-get_or seen s [] w) ∙ e in
          let same : get_or seen s [] ≡ views = cc in
          sym (get_or-map (λ (y : Superstep). y.views) (x ∷ supersteps) s no_superstep [] (omega (arith, w, length-map (x ∷ supersteps) (λ (y : Superstep). y.views)))) ∙ same
      | inr w ↦ let none : slice_get seen s ≡ None = slice_get_past seen s w in let both : None ≡ Some views = sym none ∙ e in cc
    ]

none_delivered : (views : List ViewParts) (os : List OutcomeParts) → views ≡ [] → length os ≡ 0 → AreDelivered os views
none_delivered views os e l =
    record { count = ap (λ (vs : List ViewParts). length vs) e ∙ sym l; memory = λ d m. absurd (omega arith); queue = λ d m. absurd (omega arith) }

-- the views after a delivery are what it delivered
delivered_views : (turn : ViewParts → OutcomeParts) (input : Input) (s : ℕ) → AreDelivered (outcomes_in turn input s) (views_in turn input (s + 1))
delivered_views turn input s =
    let many = count-outcomes_in turn input s in
    record {
      count = count-views_in turn input (s + 1) ∙ sym many;
      memory = λ d l. memory-in turn input s d (omega arith);
      queue = λ d l. queue-in turn input s d (omega arith);
    }

-- and its next views are what it delivered
pub delivered_before_is : (turn : ViewParts → OutcomeParts) (input : Input) (old : Option Run) (s : ℕ) → IsBefore turn input old → AreDelivered (delivered_outcomes old s) (views_after old s)
delivered_before_is turn input None s h = none_delivered [] (delivered_outcomes None s) refl (ap (λ (x : Superstep). length x.outcomes) (superstep_at-past_end [] s (omega arith)))
delivered_before_is turn input (Some k) s h =
    elim (cases_lt s (length k.past)) [
      | inl w ↦
          let views = views_after-some k s w ∙ (record_of_law turn h.input_before k h.lawful h.law).views (s + 1) (omega arith) in
          subst (λ (os : List OutcomeParts). AreDelivered os (views_after (Some k) s)) (sym (delivered-in turn input k s h w))
          (subst (AreDelivered (outcomes_in turn h.input_before s)) (sym views) (delivered_views turn h.input_before s))
      | inr w ↦ none_delivered (views_after (Some k) s) (delivered_outcomes (Some k) s) (views_after-none k s w) (ap (λ (x : Superstep). length x.outcomes) (superstep_at-past_end k.past s w))
    ]
