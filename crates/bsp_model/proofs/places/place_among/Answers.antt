use Rattle.std.proofs.Common.{ℕ, ◌≡◌, ◌≢◌, ◌<◌, List, length, get_or, inl, inr, ap, arith}
use Rattle.std.proofs.lemmas.Bool.{cases_lt}
use Rattle.bsp_model.specs.Replaced.{IsAscending}
use Rattle.bsp_model.proofs.Replaced.{above_first}
use Rattle.bsp_model.proofs.places.place_among.Goals as goal
use Rattle.bsp_model.proofs.places.place_among.Goals.{then-is_empty-via-then-is_empty, then-is_empty-via-else-is_empty+then-pid-processes}

pub loop-place-init : goal.loop-place-init
loop-place-init c =
    let some : 0 < length c.args.processes.now = grind (arith, c.if-is_empty.false, c.is_empty.ensures) in
    record {
      inside = omega (arith, c.min-place.ensures, some);
      behind = λ k above within. omega (arith, above_first c.args.processes.now k c.requires.ascending within, above, within, c.min-place.ensures, c.if-pid-processes.false);
    }

-- those behind the place are higher, and those before it lower
nowhere : (ps : List ℕ) (place pid : ℕ) → IsAscending ps → place < length ps → get_or ps place 0 < pid → ((k : ℕ) → place < k → k < length ps → pid < get_or ps k 0) → (k : ℕ) → k < length ps → pid ≢ get_or ps k 0
nowhere ps place pid ascending inside low behind k within =
    elim (cases_lt place k) [
      | inl later ↦ omega (arith, behind k later within)
      | inr before ↦ elim (cases_lt k place) [
        | inl lower ↦ omega (arith, ascending k place lower inside, low)
        | inr above ↦ let here : k ≡ place = omega (arith, before, above) in λ same. omega (arith, low, same, ap (λ n. get_or ps n 0) here)
      ]
    ]

pub returns-else-processes-place-clause-none : goal.returns-else-processes-place-clause-none
returns-else-processes-place-clause-none c =
    nowhere c.args.processes.now c.loop-place.place c.args.pid c.requires.ascending c.loop-place.invariant.inside (omega (arith, c.loop-place-test.false, c.if-processes-place.false)) c.loop-place.invariant.behind

-- all are higher where the first is
above : (ps : List ℕ) (pid : ℕ) → IsAscending ps → pid < get_or ps 0 0 → (k : ℕ) → k < length ps → pid ≢ get_or ps k 0
above ps pid ascending low k within = omega (arith, above_first ps k ascending within, low)

pub returns-then-is_empty-clause-none : goal.returns-then-is_empty-clause-none
returns-then-is_empty-clause-none c k within =
    elim c.then-is_empty.branch [
      | then-is_empty-via-then-is_empty w ↦ absurd (grind (arith, w.if-is_empty.true, c.is_empty.ensures, within))
      | then-is_empty-via-else-is_empty+then-pid-processes w ↦ above c.args.processes.now c.args.pid c.requires.ascending w.if-pid-processes.true k within
    ]
