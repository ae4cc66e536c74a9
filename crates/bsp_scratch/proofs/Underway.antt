-- Runs that are under way, and of which no record is kept.
use Rattle.std.proofs.Common.{◌≡◌, ◌<◌, ◌≤◌, ◌+◌, ◌-◌, ℕ, Bool, true, false, List, Option, None, Some, refl, ap, sym, ◌∙◌, subst, arith}
use Rattle.std.specs.Prelude.{is_some, IfNone}
use Rattle.bsp_model.specs.declared.input.Input.{Input}
use Rattle.bsp_step.specs.ViewParts.{ViewParts}
use Rattle.bsp_step.specs.OutcomeParts.{OutcomeParts}
use Rattle.bsp_run.specs.declared.result.Status.{Status}
use Rattle.bsp_run.specs.declared.phase.Phase.TheVariants.{Open, Turned}
use Rattle.bsp_scratch.specs.declared.unrecorded.Unrecorded.{Unrecorded}
use Rattle.bsp_run.specs.Run.{Run, start, run}
use Rattle.bsp_run.specs.Law.{views_in}
use Rattle.bsp_run.proofs.Records.{open_views-in}
use Rattle.bsp_scratch.specs.Inside.IsUnrecorded.{IsUnrecorded, IsUnrecordedIn, HasEnded, AreTaken}
use Rattle.bsp_scratch.specs.Inside.Underway.{HasLeft, IsUnderway, Stands}
use Rattle.bsp_scratch.proofs.UnrecordedRuns.{turned_so, underway_start, underway_open, ended_is_run, limit_is_run}

-- the processes see what they see in that superstep of the run
pub views_then : (turn : ViewParts → OutcomeParts) (input : Input) (step n : ℕ) (vs : List ViewParts) (kept : Unrecorded) → HasLeft turn input step n vs kept → vs ≡ views_in turn input step
views_then turn input step n vs kept u = u.same.views ∙ open_views-in turn input u.so_far u.made ∙ ap (views_in turn input) u.count

-- what is kept before the first superstep
pub underway_from_start : (turn : ViewParts → OutcomeParts) (input : Input) (vs : List ViewParts) (kept : Unrecorded) → 1 ≤ input.limit → kept.end ≡ None → kept.step ≡ 0 → IsUnrecorded (start input) vs kept → IsUnderway turn input vs kept
underway_from_start turn input vs kept some end first same =
    record {
      end = end;
      within = omega (arith, first);
      so_far = subst (λ (k : ℕ). HasLeft turn input k (input.limit - k) vs kept) (sym first) (underway_start turn input (input.limit - 0) vs kept (omega arith) some same);
    }

-- a superstep that is left
pub one_left : (turn : ViewParts → OutcomeParts) (input : Input) (step limit : ℕ) (vs : List ViewParts) (kept : Unrecorded) → step < limit → HasLeft turn input step (limit - step) vs kept → HasLeft turn input step (limit - (step + 1) + 1) vs kept
one_left turn input step limit vs kept below u = subst (λ n. HasLeft turn input step n vs kept) (omega (arith, below)) u

-- it is open
pub is_opened : (turn : ViewParts → OutcomeParts) (input : Input) (step n : ℕ) (vs : List ViewParts) (kept : Unrecorded) → HasLeft turn input step (n + 1) vs kept → (r : Run) × ((r.phase ≡ Open) × IsUnrecorded r vs kept)
is_opened turn input step n vs kept u = (u.so_far, (underway_open turn input step n vs kept u, u.same))

stands_so : (turn : ViewParts → OutcomeParts) (input : Input) (vs : List ViewParts) (kept : Unrecorded) (o : Option Status) → is_some o ≡ true → HasEnded o (run turn input) vs kept → Stands turn input vs kept o
stands_so turn input vs kept None some h = absurd (cc)
stands_so turn input vs kept (Some status) some h = h

-- the run that its turns have ended is the whole run
pub stands_ended : (turn : ViewParts → OutcomeParts) (input : Input) (step n : ℕ) (vs : List ViewParts) (old now : Unrecorded) (u : HasLeft turn input step (n + 1) vs old) → is_some now.end ≡ true
    → AreTaken (is_some now.end) (turned_so turn u.so_far) vs now → Stands turn input vs now now.end
stands_ended turn input step n vs old now u some taken =
    let h : AreTaken true (turned_so turn u.so_far) vs now = subst (λ (b : Bool). AreTaken b (turned_so turn u.so_far) vs now) some taken in
    stands_so turn input vs now now.end some (subst (λ (r : Run). HasEnded now.end r vs now) (ended_is_run turn input step n vs old u h.0) h.1)

-- the run whose turns have not ended it goes on
pub goes_on : (turn : ViewParts → OutcomeParts) (input : Input) (step n : ℕ) (vs : List ViewParts) (old now : Unrecorded) (u : HasLeft turn input step (n + 1) vs old) → is_some now.end ≡ false
    → AreTaken (is_some now.end) (turned_so turn u.so_far) vs now → (now.end ≡ None) × IsUnrecordedIn Turned (turned_so turn u.so_far) vs now now.taken.outcomes
goes_on turn input step n vs old now u none taken = subst (λ (b : Bool). AreTaken b (turned_so turn u.so_far) vs now) none taken

-- nothing is said of a status that there is
pub no_end : {X : Type 0} (Q : Type 0) (given : Option X) (end : Option Status) → is_some end ≡ true → IfNone given (end ≡ None → Q)
no_end Q (Some x) end some = tt
no_end Q None end some = λ none. absurd (cc)

over_so : (turn : ViewParts → OutcomeParts) (input : Input) (vs : List ViewParts) (kept : Unrecorded) (o : Option Status) → kept.end ≡ o → Stands turn input vs kept o → (o ≡ None → input.limit ≤ kept.step) → HasEnded o (run turn input) vs kept
over_so turn input vs kept None is stands over =
    let u : IsUnderway turn input vs kept = stands in
    subst (λ (o : Option Status). HasEnded o (run turn input) vs kept) is (limit_is_run turn input kept.step (input.limit - kept.step) vs kept u.so_far (omega (arith, over refl)) is)
over_so turn input vs kept (Some status) is stands over = stands

-- the run that has ended, or is at its limit
pub is_over : (turn : ViewParts → OutcomeParts) (input : Input) (vs : List ViewParts) (kept : Unrecorded) → Stands turn input vs kept kept.end → (kept.end ≡ None → input.limit ≤ kept.step) → HasEnded kept.end (run turn input) vs kept
is_over turn input vs kept stands over = over_so turn input vs kept kept.end refl stands over
