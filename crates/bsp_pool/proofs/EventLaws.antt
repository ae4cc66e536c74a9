-- What holds after every list of events on a round machine.
use Rattle.std.proofs.Common.{◌≡◌, ℕ, ◌+◌, ◌<◌, ◌≤◌, true, false, List, [], ◌∷◌, length, refl, sym, ap, ◌∙◌, subst, ⊎_elim, length-append}
use Rattle.std.specs.Prelude.{Option, Some, None, slice_get, option_map, unwrap_or, if◌then◌else◌, Bool}
use Rattle.std.specs.List.{list_all}
use Rattle.std.proofs.lemmas.Bool.{cases_lt, lt-ltb, le-ltb}
use Rattle.bsp_pool.specs.declared.machine.Event.{Event}
use Rattle.bsp_pool.specs.declared.machine.Event.TheVariants.{Draw, Ran, Left, Turn}
use Rattle.bsp_pool.specs.declared.round.Worker.{Worker}
use Rattle.bsp_pool.specs.declared.round.Worker.TheVariants.{Ready, Holding, PastEnd, Gone}
use Rattle.bsp_pool.specs.Rounds.{RoundParts, is_gone, after_draw, after_run, after_leave}
use Rattle.bsp_pool.specs.Machine.{Machine, with_round, inputs_of, turned, round_step, step, IsSound}
use Rattle.bsp_pool.specs.EventLists.{draws_after, draws_after_all, KeepsRounds}
use Rattle.bsp_pool.proofs.RoundSteps.{some-inj, after_draw_sound, after_run_sound, after_leave_sound, round_sound, turned_sound}

-- what an allowed event of the open round leaves
mapped : {Job In Out : Type 0} (m n : Machine Job In Out) (o : Option (RoundParts Out)) → option_map (with_round m) o ≡ Some n → (q : RoundParts Out) × (o ≡ Some q) × (with_round m q ≡ n)
mapped m n None e = absurd (cc)
mapped m n (Some q) e = (q, refl, some-inj e)

-- a turn that was allowed
turned_to : {M : Type 0} (b : Bool) (t n : M) → (if b then Some t else None) ≡ Some n → t ≡ n
turned_to true t n e = some-inj e
turned_to false t n e = absurd (cc)

draw_adds : {Out : Type 0} (inputs : ℕ) (p q : RoundParts Out) (w : ℕ) (o : Option Worker) → after_draw inputs p w o ≡ Some q → length q.draws ≡ length p.draws + 1
draw_adds inputs p q w None e = absurd (cc)
draw_adds inputs p q w (Some Ready) e = ap (λ (s : RoundParts _). length s.draws) (sym (some-inj e)) ∙ length-append p.draws (w ∷ [])
draw_adds inputs p q w (Some (Holding n)) e = absurd (cc)
draw_adds inputs p q w (Some PastEnd) e = absurd (cc)
draw_adds inputs p q w (Some Gone) e = absurd (cc)

run_adds : {In Out : Type 0} (does : In → Out) (inputs : List In) (p q : RoundParts Out) (w : ℕ) (o : Option Worker) → after_run does inputs p w o ≡ Some q → length q.draws ≡ length p.draws
run_adds does inputs p q w None e = absurd (cc)
run_adds does inputs p q w (Some Ready) e = absurd (cc)
run_adds does inputs p q w (Some (Holding n)) e = ap (λ (s : RoundParts _). length s.draws) (sym (some-inj e))
run_adds does inputs p q w (Some PastEnd) e = absurd (cc)
run_adds does inputs p q w (Some Gone) e = absurd (cc)

leave_adds : {Out : Type 0} (p q : RoundParts Out) (w : ℕ) (o : Option Worker) → after_leave p w o ≡ Some q → length q.draws ≡ length p.draws
leave_adds p q w None e = absurd (cc)
leave_adds p q w (Some Gone) e = absurd (cc)
leave_adds p q w (Some Ready) e = ap (λ (s : RoundParts _). length s.draws) (sym (some-inj e))
leave_adds p q w (Some (Holding n)) e = ap (λ (s : RoundParts _). length s.draws) (sym (some-inj e))
leave_adds p q w (Some PastEnd) e = ap (λ (s : RoundParts _). length s.draws) (sym (some-inj e))

round_step_keeps : {Job In Out : Type 0} (does : In → Out) (m n : Machine Job In Out) (e : Event) → IsSound does m → length m.committed < length m.phases → round_step does m e ≡ Some n → IsSound does n × (length n.round.draws ≡ draws_after (Some n) e (length m.round.draws))
round_step_keeps {Out = Out} does m n (Draw w) h lt is =
    let o = mapped m n (after_draw (length (inputs_of m)) m.round w (slice_get m.round.workers w)) is in (
      subst (IsSound does) o.2 (round_sound does m o.0 h (after_draw_sound does (inputs_of m) m.round o.0 w (slice_get m.round.workers w) h.round o.1)),
      ap (λ (k : Machine _ _ Out). length k.round.draws) (sym o.2) ∙ draw_adds (length (inputs_of m)) m.round o.0 w (slice_get m.round.workers w) o.1,
    )
round_step_keeps {Out = Out} does m n (Ran w) h lt is =
    let o = mapped m n (after_run does (inputs_of m) m.round w (slice_get m.round.workers w)) is in (
      subst (IsSound does) o.2 (round_sound does m o.0 h (after_run_sound does (inputs_of m) m.round o.0 w (slice_get m.round.workers w) refl h.round o.1)),
      ap (λ (k : Machine _ _ Out). length k.round.draws) (sym o.2) ∙ run_adds does (inputs_of m) m.round o.0 w (slice_get m.round.workers w) o.1,
    )
round_step_keeps {Out = Out} does m n (Left w) h lt is =
    let o = mapped m n (after_leave m.round w (slice_get m.round.workers w)) is in (
      subst (IsSound does) o.2 (round_sound does m o.0 h (after_leave_sound does (inputs_of m) m.round o.0 w (slice_get m.round.workers w) h.round o.1)),
      ap (λ (k : Machine _ _ Out). length k.round.draws) (sym o.2) ∙ leave_adds m.round o.0 w (slice_get m.round.workers w) o.1,
    )
round_step_keeps {Out = Out} does m n Turn h lt is =
    let t = turned_to (list_all is_gone m.round.workers) (turned does m) n is in
    (subst (IsSound does) t (turned_sound does m h lt), ap (λ (k : Machine _ _ Out). length k.round.draws) (sym t))

step_keeps : {Job In Out : Type 0} (does : In → Out) (m n : Machine Job In Out) (e : Event) → IsSound does m → step does m e ≡ Some n → IsSound does n × (length n.round.draws ≡ draws_after (Some n) e (length m.round.draws))
step_keeps does m n e h is =
    ⊎_elim
    (λ (lt : length m.committed < length m.phases). round_step_keeps does m n e h lt (ap (λ (b : Bool). if b then round_step does m e else None) (sym (lt-ltb (length m.committed) (length m.phases) lt)) ∙ is))
    (λ (le : length m.phases ≤ length m.committed). let bad = ap (λ (b : Bool). if b then round_step does m e else None) (sym (le-ltb (length m.committed) (length m.phases) le)) ∙ is in absurd (cc))
    (cases_lt (length m.committed) (length m.phases))

-- the same, where the event may be refused
next_keeps : {Job In Out : Type 0} (does : In → Out) (m : Machine Job In Out) (e : Event) (o : Option (Machine Job In Out)) → o ≡ step does m e → IsSound does m → IsSound does (unwrap_or o m) × (length (unwrap_or o m).round.draws ≡ draws_after o e (length m.round.draws))
next_keeps does m e None is h = (h, refl)
next_keeps does m e (Some n) is h = step_keeps does m n e h (sym is)

pub every_list : {Job In Out : Type 0} (does : In → Out) (m : Machine Job In Out) (events : List Event) → IsSound does m → KeepsRounds does m events
every_list does m [] h = record { sound = h; next = refl }
every_list does m (e ∷ es) h =
    let n = unwrap_or (step does m e) m in
    let kept = next_keeps does m e (step does m e) refl h in
    let more = every_list does n es kept.0 in
    record { sound = more.sound; next = more.next ∙ ap (draws_after_all does n es) kept.1 }
