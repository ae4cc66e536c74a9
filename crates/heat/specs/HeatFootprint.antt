-- Heat depends on the words at which it looks, and on no others.
use Rattle.std.proofs.Common.{◌≡◌, ◌<◌, ◌-◌, ◌+◌, ℕ, true, false, cond, List, [], ◌∷◌, Option, take, drop, length, get_or, refl, sym, ap, ◌∙◌, ◌==◌, nat_lt, arith}
use Rattle.std.specs.Prelude.{unwrap_or}
use Rattle.std.specs.List.{slice_get}
use Rattle.std.proofs.lemmas.Bool.Decides.{nat_tests}
use Rattle.std.proofs.lemmas.Option.{unwrap_or-slice_get}
use Rattle.bsp_model.specs.declared.fault.End.TheVariants.{Sync, Abort}
use Rattle.bsp_step.specs.ViewParts.{ViewParts}
use Rattle.bsp_step.specs.Act.{push_reg, put}
use Rattle.bsp_step.specs.Plan.{does}
use Rattle.bsp_step.specs.Footprint.{IsFootprint}
use Rattle.bsp_step.specs.Footprints.{if-alike, given_argument-alike}
use Rattle.bsp_step.specs.Reads.{IsFootprint-of_reads, take-alike}
use Rattle.bsp_step.specs.LooksEverywhere.{same_memories}
use Rattle.heat.specs.Heat.{are_steps_left, heat_plan, heat_working, heat_telling, heat_advancing, heat_looks, is_put_cell, put_above, own_cells}
use Rattle.heat.specs.Cells.{length_of_own_cells, own_cell}

-- cells that agree where they are told are told alike
heat_telling-alike : (v : ViewParts) (time_steps : ℕ) (xs ys : List ℕ) → length xs ≡ length ys → 0 < length xs
    → (are_steps_left v time_steps ≡ true → (k : ℕ) → is_put_cell v (length xs + 2) (k + 1) ≡ true → get_or xs k 0 ≡ get_or ys k 0)
    → (are_steps_left v time_steps ≡ false → xs ≡ ys)
    → heat_telling v time_steps xs ≡ heat_telling v time_steps ys
heat_telling-alike v time_steps xs ys long some put_alike all =
    if-alike (are_steps_left v time_steps) _ _ _ _
    (λ left.
    let last : put_above v xs ≡ put_above v ys = if-alike (nat_lt (v.pid + 1) v.nprocs) _ _ _ _ (λ one. rw (put_alike left (length xs - 1) (grind (arith, nat_tests)), long) refl) (λ none. refl) in
    ap (λ acts. does acts Sync) (if-alike (v.pid == 0) _ _ _ _ (λ none. last) (λ one.
    ap (λ acts. put (v.pid - 1) (get_or xs 0 0 ∷ []) (length xs + 1) 0 ∷ acts) last ∙ rw (put_alike left 0 (grind (arith, nat_tests)), long) refl)))
    (λ done. rw (all done) refl)

own_cell-alike : (m n : List ℕ) (k : ℕ) → length m ≡ length n → k < length m - 2 → slice_get m (k + 1) ≡ slice_get n (k + 1) → get_or (own_cells m) k 0 ≡ get_or (own_cells n) k 0
own_cell-alike m n k long within same =
    own_cell m k within ∙ sym (unwrap_or-slice_get m (k + 1) 0) ∙ ap (λ (o : Option ℕ). unwrap_or o 0) same ∙ unwrap_or-slice_get n (k + 1) 0 ∙ sym (own_cell n k (omega arith))

heat_plan-alike : (v : ViewParts) (n : List ℕ) → length v.memory ≡ length n → ((a : ℕ) → heat_looks v a ≡ true → slice_get v.memory a ≡ slice_get n a) → heat_plan v v.memory ≡ heat_plan v n
heat_plan-alike v n long same =
    let m = v.memory in
    given_argument-alike (slice_get v.args 0) _ _ (λ time_steps has.
    if-alike (nat_lt (length m) 3) (does [] (Abort 1)) (heat_working v time_steps m) (does [] (Abort 1)) (heat_working v time_steps n) (λ short. refl) (λ enough.
    let some : 2 < length m = grind (arith, nat_tests, enough) in
    let number : length m ≡ length (own_cells m) + 2 = omega (arith, length_of_own_cells m) in
    if-alike (v.step == 0) _ _ _ _ (λ first. ap (λ len. does (push_reg 0 1 ∷ push_reg (len - 1) 1 ∷ []) Sync) long) (λ later.
    if-alike (v.step == 1) _ _ _ _
    (λ second. heat_telling-alike v time_steps (own_cells m) (own_cells n) (omega (arith, length_of_own_cells n)) (omega arith)
    (λ left k told. own_cell-alike m n k long (grind (arith, nat_tests, told)) (same (k + 1) (rw (has, enough, later, second, left) (ap (λ len. is_put_cell v len (k + 1)) number ∙ told))))
    (λ done. take-alike m n 1 (length m - 2) long (λ a low high. same a (rw (has, enough, later, second, done) (grind (arith, nat_tests)))) ∙ ap (λ len. take (len - 2) (drop 1 n)) long))
    (λ others. ap (heat_advancing v time_steps) (same_memories m n long (λ a within. same a (rw (has, enough, later, others) refl))))))
    ∙ ap (λ len. cond (nat_lt len 3) (does [] (Abort 1)) (heat_working v time_steps n)) long)

pub heat_footprint : IsFootprint (λ v. (heat_plan v v.memory).acts) (λ v. (heat_plan v v.memory).ending) heat_looks
heat_footprint = IsFootprint-of_reads (λ v. heat_plan v v.memory) heat_looks heat_plan-alike (λ v n long a. rw long refl)
