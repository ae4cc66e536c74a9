-- The run of an input, from how its supersteps end.
use Rattle.std.proofs.Common.{◌+◌, ◌++◌, ◌<◌, ◌==◌, None, Some, [], ap, arith, cond, false, length, map, refl, suc, sym, zero, ℕ, ◌∙◌, ◌∷◌, ◌≡◌}
use Rattle.std.proofs.lemmas.List.FromFn.{length-map-range_with_len}
use Rattle.std.proofs.lemmas.Bool.Decides.{nat_tests}
use Rattle.bsp_model.specs.declared.input.Input.{Input}
use Rattle.bsp_step.specs.OutcomeParts.{OutcomeParts}
use Rattle.bsp_step.specs.ViewParts.{ViewParts}
use Rattle.bsp_deliver.specs.Requests.{each_below}
use Rattle.bsp_run.specs.declared.phase.Phase.TheVariants.{Ended, Open, Turned}
use Rattle.bsp_run.specs.declared.result.Status.TheVariants.{Limit}
use Rattle.bsp_run.specs.declared.phase.Phase.{Phase}
use Rattle.bsp_run.specs.Run.{Run, advance, after_delivery, after_turns, delivered_if, open_views, phase_after, run, start, times}
use Rattle.bsp_run.specs.declared.result.Status.{Status}
use Rattle.bsp_run.specs.declared.superstep.Superstep.{Superstep}
use Rattle.bsp_run.proofs.Runs.{advance-closed, advance-open}
use Rattle.bsp_run.proofs.Lists.{each_below_more}
use Rattle.bsp_run.specs.Law.{end_in, outcomes_in, state_at, views_in}
use Rattle.bsp_run.specs.Ending.{end_of}
use Rattle.bsp_run.specs.State.{next_state, views_of}
use Rattle.bsp_run.proofs.Records.{state_at-next}

-- superstep s by the law
abbrev pub superstep_in : (ViewParts → OutcomeParts) → Input → ℕ → Superstep
superstep_in turn input s = record { views = views_in turn input s; outcomes = outcomes_in turn input s }

-- the run that stands at the opening of superstep s
abbrev pub opened_at : (ViewParts → OutcomeParts) → Input → ℕ → Run
opened_at turn input s =
    record {
      args = input.args;
      limit = input.limit;
      g = input.g;
      l = input.l;
      past = each_below s (superstep_in turn input);
      state = state_at turn input s;
      outcomes = [];
      phase = Open;
    }

-- the run that superstep s ended
abbrev pub ended_at : (ViewParts → OutcomeParts) → Input → ℕ → Status → Run
ended_at turn input s status =
    record {
      args = input.args;
      limit = input.limit;
      g = input.g;
      l = input.l;
      past = each_below s (superstep_in turn input);
      state = state_at turn input s;
      outcomes = outcomes_in turn input s;
      phase = Ended status;
    }

-- the run of superstep s when its turns are taken, in this phase
turned_at : (turn : ViewParts → OutcomeParts) (input : Input) (s : ℕ) → Phase → Run
turned_at turn input s p = record (opened_at turn input s) { outcomes = outcomes_in turn input s; phase = p }

length-past : (turn : ViewParts → OutcomeParts) (input : Input) (s : ℕ) → length (each_below s (superstep_in turn input)) ≡ s
length-past turn input s = length-map-range_with_len (superstep_in turn input) 0 s

-- with n supersteps behind
turned_with : (turn : ViewParts → OutcomeParts) (input : Input) (s : ℕ) → ℕ → Run
turned_with turn input s n =
    record (opened_at turn input s) {
      outcomes = map turn (views_of input.args n (state_at turn input s));
      phase = phase_after (end_of n (state_at turn input s).table (map turn (views_of input.args n (state_at turn input s))));
    }

turns-opened : (turn : ViewParts → OutcomeParts) (input : Input) (s : ℕ) → after_turns (opened_at turn input s) (map turn (open_views (opened_at turn input s))) ≡ turned_at turn input s (phase_after (end_in turn input s))
unfolding after_turns turned_at turned_with
turns-opened turn input s = ap (turned_with turn input s) (length-past turn input s)

delivered_with : (turn : ViewParts → OutcomeParts) (input : Input) (s : ℕ) → ℕ → Run
delivered_with turn input s n =
    record (opened_at turn input s) {
      past = each_below s (superstep_in turn input) ++ record { views = views_of input.args n (state_at turn input s); outcomes = outcomes_in turn input s } ∷ [];
      state = next_state (state_at turn input s) (outcomes_in turn input s);
      outcomes = [];
      phase = cond ((n + 1) == input.limit) (Ended Limit) Open;
    }

delivery-turned : (turn : ViewParts → OutcomeParts) (input : Input) (s : ℕ) → after_delivery (turned_at turn input s Turned) ≡ delivered_with turn input s s
unfolding after_delivery turned_at delivered_with
delivery-turned turn input s = ap (delivered_with turn input s) (length-past turn input s)

not_full : (s limit : ℕ) → s + 1 < limit → ((s + 1) == limit) ≡ false
not_full s limit h = grind (arith, nat_tests)

delivered-opened : (turn : ViewParts → OutcomeParts) (input : Input) (s : ℕ) → s + 1 < input.limit → delivered_with turn input s s ≡ opened_at turn input (s + 1)
unfolding delivered_with
delivered-opened turn input s h =
    let past : each_below s (superstep_in turn input) ++ superstep_in turn input s ∷ [] ≡ each_below (s + 1) (superstep_in turn input) = sym (each_below_more (superstep_in turn input) s) in
    let state : next_state (state_at turn input s) (outcomes_in turn input s) ≡ state_at turn input (s + 1) = sym (state_at-next turn input s) in
    let phase : cond ((s + 1) == input.limit) (Ended Limit) Open ≡ Open = ap (λ b. cond b (Ended Limit) Open) (not_full s input.limit h) in
    λ i. record { args = input.args; limit = input.limit; g = input.g; l = input.l; past = past i; state = state i; outcomes = []; phase = phase i }

-- A superstep that ends by delivery opens the next.
pub advance-opened : (turn : ViewParts → OutcomeParts) (input : Input) (s : ℕ) → end_in turn input s ≡ None → s + 1 < input.limit → advance turn (opened_at turn input s) ≡ opened_at turn input (s + 1)
unfolding turned_at
advance-opened turn input s e h =
    let turned : after_turns (opened_at turn input s) (map turn (open_views (opened_at turn input s))) ≡ turned_at turn input s Turned = turns-opened turn input s ∙ ap (λ o. turned_at turn input s (phase_after o)) e in
    advance-open turn (opened_at turn input s) refl ∙ ap (λ (r : Run). delivered_if r.phase r) turned ∙ delivery-turned turn input s ∙ delivered-opened turn input s h

-- One that ends the run, ends it.
pub advance-ended : (turn : ViewParts → OutcomeParts) (input : Input) (s : ℕ) (status : Status) → end_in turn input s ≡ Some status → advance turn (opened_at turn input s) ≡ ended_at turn input s status
unfolding turned_at
advance-ended turn input s status e =
    let turned : after_turns (opened_at turn input s) (map turn (open_views (opened_at turn input s))) ≡ turned_at turn input s (Ended status) = turns-opened turn input s ∙ ap (λ o. turned_at turn input s (phase_after o)) e in
    advance-open turn (opened_at turn input s) refl ∙ ap (λ (r : Run). delivered_if r.phase r) turned

times-opened : (turn : ViewParts → OutcomeParts) (input : Input) (n s : ℕ) → ((j : ℕ) → j < s + n → end_in turn input j ≡ None) → s + n < input.limit → times n (advance turn) (opened_at turn input s) ≡ opened_at turn input (s + n)
times-opened turn input zero s e h = ap (opened_at turn input) (omega arith)
times-opened turn input (suc n) s e h =
    ap (times n (advance turn)) (advance-opened turn input s (e s (omega arith)) (omega arith))
    ∙ times-opened turn input n (s + 1) (λ j l. e j (omega arith)) (omega arith)
    ∙ ap (opened_at turn input) (omega arith)

times-ended : (turn : ViewParts → OutcomeParts) (input : Input) (n s : ℕ) (status : Status) → times n (advance turn) (ended_at turn input s status) ≡ ended_at turn input s status
times-ended turn input zero s status = refl
times-ended turn input (suc n) s status = ap (times n (advance turn)) (advance-closed turn (ended_at turn input s status) refl) ∙ times-ended turn input n s status

times-plus : (f : Run → Run) (m n : ℕ) (r : Run) → times (m + n) f r ≡ times n f (times m f r)
times-plus f zero n r = let e : zero + n ≡ n = omega arith in ap (λ k. times k f r) e
times-plus f (suc m) n r = let e : suc m + n ≡ suc (m + n) = omega arith in ap (λ k. times k f r) e ∙ times-plus f m n (f r)

start-opened : (turn : ViewParts → OutcomeParts) (input : Input) → start input ≡ opened_at turn input 0
unfolding start state_at
start-opened turn input = refl

-- The run of an input whose supersteps before k end by delivery, and whose superstep k ends it.
pub run-ended : (turn : ViewParts → OutcomeParts) (input : Input) (k m : ℕ) (status : Status) → input.limit ≡ k + suc m → ((j : ℕ) → j < k → end_in turn input j ≡ None) → end_in turn input k ≡ Some status
    → run turn input ≡ ended_at turn input k status
unfolding run
run-ended turn input k m status room before last =
    ap (λ n. times n (advance turn) (start input)) room
    ∙ times-plus (advance turn) k (suc m) (start input)
    ∙ ap (λ r. times (suc m) (advance turn) (times k (advance turn) r)) (start-opened turn input)
    ∙ ap (times (suc m) (advance turn)) (times-opened turn input k 0 (λ j l. before j (omega arith)) (omega arith) ∙ ap (opened_at turn input) (omega arith))
    ∙ ap (times m (advance turn)) (advance-ended turn input k status last)
    ∙ times-ended turn input m k status
