-- Processes of a superstep, cut into parts.
use Rattle.std.proofs.Common.{◌≡◌, ◌<◌, ◌≤◌, ◌+◌, ◌++◌, ◌∙◌, ℕ, List, [], All, ap, append_assoc, arith, length, length-append, map, refl, subst, sym}
use Rattle.std.proofs.Math.ListN.{get_or-append}
use Rattle.std.proofs.lemmas.List.{append-nil, get_or-append-add, map-append}
use Rattle.std.specs.Prelude.{slice_index_or}
use Rattle.bsp_step.specs.ViewParts.{ViewParts}
use Rattle.bsp_step.specs.OutcomeParts.{OutcomeParts}
use Rattle.bsp_model.specs.Replaced.{IsAscending}
use Rattle.bsp_deliver.specs.Condition.{CanDeliver}
use Rattle.bsp_deliver.specs.Delivery.{delivery_parts, next_memory, next_queue}
use Rattle.bsp_run.specs.Condition.{no_view}
use Rattle.bsp_run.specs.Shares.{turns_of, deliveries_to}
use Rattle.bsp_crew.specs.declared.part.Part.{Part}
use Rattle.bsp_crew.specs.declared.task.Task.{Task}
use Rattle.bsp_crew.specs.declared.task.Task.TheVariants.{Turns, Deliveries}
use Rattle.bsp_crew.specs.declared.task.Made.{Made}
use Rattle.bsp_crew.specs.declared.task.Made.TheVariants.{Taken, Delivered}
use Rattle.bsp_crew.specs.Parts.{AreParts, IsPart, IsWithin, IsMade, IsLeft, has_turns, nothing_of, with_part}

all_of_both : {X : Type 0} (P : X → Type 0) (xs ys : List X) → All P (xs ++ ys) → All P xs × All P ys
all_of_both P xs ys all =
    let long = length-append xs ys in
    (λ k d l. subst P (get_or-append xs ys d k l) (all k d (omega (arith, l, long))), λ k d l. subst P (get_or-append-add xs ys k d) (all (length xs + k) d (omega (arith, l, long))))

ascending_in_both : (xs ys : List ℕ) → IsAscending (xs ++ ys) → IsAscending xs × IsAscending ys
ascending_in_both xs ys up =
    let long = length-append xs ys in (
      λ j k less l. omega (arith, up j k less (omega (arith, l, long)), get_or-append xs ys 0 j (omega (arith, less, l)), get_or-append xs ys 0 k l),
      λ j k less l. omega (arith, up (length xs + j) (length xs + k) (omega (arith, less)) (omega (arith, l, long)), get_or-append-add xs ys j 0, get_or-append-add xs ys k 0),
    )

both_deliver : (os : List OutcomeParts) (xs ys : List ℕ) → CanDeliver os (xs ++ ys) → CanDeliver os xs × CanDeliver os ys
both_deliver os xs ys can =
    let known = all_of_both (λ d. d < length os) xs ys can.known in
    let ascending = ascending_in_both xs ys can.ascending in
    (record { deliverable = can.deliverable; known = known.0; ascending = ascending.0 }, record { deliverable = can.deliverable; known = known.1; ascending = ascending.1 })

both_parts : (turn : ViewParts → OutcomeParts) (vs : List ViewParts) (xs ys : List ℕ) (task : Task) → IsPart turn vs (xs ++ ys) task → IsPart turn vs xs task × IsPart turn vs ys task
both_parts turn vs xs ys task whole =
    let known = λ (seen : List ViewParts) (is : task ≡ Turns seen). all_of_both (λ p. p < length vs) xs ys (whole.turns seen is).1 in
    let can = λ (os : List OutcomeParts) (is : task ≡ Deliveries os). both_deliver os xs ys (whole.deliveries os is).1 in (
      record { turns = λ seen is. ((whole.turns seen is).0, (known seen is).0); deliveries = λ os is. ((whole.deliveries os is).0, (can os is).0) },
      record { turns = λ seen is. ((whole.turns seen is).0, (known seen is).1); deliveries = λ os is. ((whole.deliveries os is).0, (can os is).1) },
    )

-- some of the processes of a part are one, and so is the rest
pub parts_of : (turn : ViewParts → OutcomeParts) (views : ℕ → List ViewParts) (part rest whole : Part) (task : Task) → AreParts part rest whole
    → IsPart turn (views whole.step) whole.processes.now task
    → IsPart turn (views part.step) part.processes.now task × IsPart turn (views rest.step) rest.processes.now task
parts_of turn views part rest whole task are given =
    let both = both_parts turn (views whole.step) part.processes.now rest.processes.now task (subst (λ ps. IsPart turn (views whole.step) ps task) are.processes given) in
    (subst (λ step. IsPart turn (views step) part.processes.now task) (sym are.step) both.0, subst (λ step. IsPart turn (views step) rest.processes.now task) (sym are.step_of_rest) both.1)

mapped_in_two : {X Y : Type 0} (f : X → Y) (before : List Y) (xs ys : List X) → before ++ map f (xs ++ ys) ≡ (before ++ map f xs) ++ map f ys
mapped_in_two {Y = Y} f before xs ys =
    ap (λ (new : List Y). before ++ new) (map-append f xs ys) ∙ sym (append_assoc before (map f xs) (map f ys))

with_both : (turn : ViewParts → OutcomeParts) (vs : List ViewParts) (xs ys : List ℕ) (made : Made) → with_part turn vs (xs ++ ys) made ≡ with_part turn vs ys (with_part turn vs xs made)
with_both turn vs xs ys (Taken rows) = ap Taken (mapped_in_two (λ p. turn (slice_index_or vs p no_view)) rows xs ys)
with_both turn vs xs ys (Delivered cells) =
    let os = map turn vs in ap Delivered (mapped_in_two (λ d. (next_memory (delivery_parts os d), next_queue (delivery_parts os d))) cells xs ys)

-- the turns or the deliveries so far, once a part is worked, and then the rest
pub with_parts : (turn : ViewParts → OutcomeParts) (views : ℕ → List ViewParts) (part rest whole : Part) (made more : Made) → AreParts part rest whole
    → more ≡ with_part turn (views part.step) part.processes.now made
    → with_part turn (views rest.step) rest.processes.now more ≡ with_part turn (views whole.step) whole.processes.now made
with_parts turn views part rest whole made more are is =
    (λ i. with_part turn (views (are.step_of_rest i)) rest.processes.now (is i))
    ∙ (λ i. with_part turn (views whole.step) rest.processes.now (with_part turn (views (are.step i)) part.processes.now made))
    ∙ sym (with_both turn (views whole.step) part.processes.now rest.processes.now made)
    ∙ (λ i. with_part turn (views whole.step) (sym are.processes i) made)

-- two cuts leave processes that stand in a row
pub within_cuts : (front behind part rest whole : Part) → AreParts front behind whole → AreParts part rest behind → IsWithin part whole
within_cuts front behind part rest whole one other =
    record {
      step = other.step ∙ one.step_of_rest;
      before = front.processes.now;
      behind = rest.processes.now;
      processes = one.processes ∙ ap (λ (ps : List ℕ). front.processes.now ++ ps) other.processes;
      first = other.first ∙ one.first_of_rest;
    }

-- processes in a row of a part are one
pub part_within : (turn : ViewParts → OutcomeParts) (views : ℕ → List ViewParts) (part whole : Part) (task : Task) → IsWithin part whole → IsPart turn (views whole.step) whole.processes.now task → IsPart turn (views part.step) part.processes.now task
part_within turn views part whole task within given =
    let ps = part.processes.now in
    let all = subst (λ (qs : List ℕ). IsPart turn (views whole.step) qs task) within.processes given in
    let rest = (both_parts turn (views whole.step) within.before (ps ++ within.behind) task all).1 in
    subst (λ step. IsPart turn (views step) ps task) (sym within.step) (both_parts turn (views whole.step) ps within.behind task rest).0

-- nothing is made of no process
pub none_made : (turn : ViewParts → OutcomeParts) (vs : List ViewParts) (task : Task) → IsMade turn vs [] (nothing_of task)
none_made turn vs (Turns seen) = record { taken = λ rows is. cc; delivered = λ cells is. absurd (cc) }
none_made turn vs (Deliveries os) = record { taken = λ rows is. absurd (cc); delivered = λ cells is. cc }

-- what is made of some processes, and then of more
pub more_made : (turn : ViewParts → OutcomeParts) (vs : List ViewParts) (ps qs : List ℕ) (made : Made) → IsMade turn vs ps made → IsMade turn vs (ps ++ qs) (with_part turn vs qs made)
more_made turn vs ps qs (Taken rows) is =
    record {
      taken = λ more e. let a = is.taken rows refl in let b : more ≡ rows ++ turns_of turn vs qs = cc in b ∙ (ap (λ rs. rs ++ turns_of turn vs qs) a ∙ sym (map-append (λ p. turn (slice_index_or vs p no_view)) ps qs));
      delivered = λ cells e. absurd (cc);
    }
more_made turn vs ps qs (Delivered cells) is =
    let os = map turn vs in
    record {
      taken = λ rows e. absurd (cc);
      delivered = λ more e. let a = is.delivered cells refl in let b : more ≡ cells ++ deliveries_to os qs = cc in b ∙ (ap (λ rs. rs ++ deliveries_to os qs) a ∙ sym (map-append (λ d. (next_memory (delivery_parts os d), next_queue (delivery_parts os d))) ps qs));
    }

-- the same, in the words of a piece to which a part is added
pub piece_more : (turn : ViewParts → OutcomeParts) (views : ℕ → List ViewParts) (step now : ℕ) (ps qs all : List ℕ) (made more : Made) → IsMade turn (views step) ps made → step ≡ now → all ≡ ps ++ qs
    → more ≡ with_part turn (views now) qs made → IsMade turn (views step) all more
piece_more turn views step now ps qs all made more is same long new =
    subst (λ (m : Made). IsMade turn (views step) all m) (sym (new ∙ ap (λ (k : ℕ). with_part turn (views k) qs made) (sym same)))
    (subst (λ (l : List ℕ). IsMade turn (views step) l (with_part turn (views step) qs made)) (sym long) (more_made turn (views step) ps qs made is))

-- all is left at first
pub all_left : (turn : ViewParts → OutcomeParts) (views : ℕ → List ViewParts) (list : Part) (made : Made) → IsLeft turn views list made list made
all_left turn views list made = record { step = refl; few = omega arith; part = λ task is. is; alike = refl; all = refl }

-- and after each part that is added, what is behind it
pub less_left : (turn : ViewParts → OutcomeParts) (views : ℕ → List ViewParts) (list rest part behind : Part) (made so_far more : Made) → IsLeft turn views list made rest so_far
    → AreParts part behind rest → has_turns more ≡ has_turns so_far → more ≡ with_part turn (views part.step) part.processes.now so_far → IsLeft turn views list made behind more
less_left turn views list rest part behind made so_far more left cut alike is =
    let long : length rest.processes.now ≡ length part.processes.now + length behind.processes.now = ap length cut.processes ∙ length-append part.processes.now behind.processes.now in
    let few = left.few in
    record {
      step = cut.step_of_rest ∙ left.step;
      few = omega arith;
      part = λ task given. (parts_of turn views part behind rest task cut (left.part task given)).1;
      alike = alike ∙ left.alike;
      all = with_parts turn views part behind rest so_far more cut is ∙ left.all;
    }

-- what is left of what is left
pub left_of_left : (turn : ViewParts → OutcomeParts) (views : ℕ → List ViewParts) (list rest last : Part) (made so_far more : Made) → IsLeft turn views list made rest so_far → IsLeft turn views rest so_far last more → IsLeft turn views list made last more
left_of_left turn views list rest last made so_far more one other =
    let a = one.few in
    let b = other.few in
    record {
      step = other.step ∙ one.step;
      few = omega arith;
      part = λ task given. other.part task (one.part task given);
      alike = other.alike ∙ one.alike;
      all = other.all ∙ one.all;
    }

-- where no process is left, all are added
pub none_left : (turn : ViewParts → OutcomeParts) (views : ℕ → List ViewParts) (list rest : Part) (made more : Made) → IsLeft turn views list made rest more → rest.processes.now ≡ [] → more ≡ with_part turn (views list.step) list.processes.now made
none_left turn views list rest made more left none =
    sym (with_none turn (views rest.step) more) ∙ (ap (λ ps. with_part turn (views rest.step) ps more) (sym none) ∙ left.all)
  where
    with_none : (turn : ViewParts → OutcomeParts) (vs : List ViewParts) (made : Made) → with_part turn vs [] made ≡ made
    with_none turn vs (Taken rows) = ap Taken (append-nil rows)
    with_none turn vs (Delivered cells) = ap Delivered (append-nil cells)
