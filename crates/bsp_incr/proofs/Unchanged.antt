-- Nothing has to be done for a run that is the previous run.
use Rattle.std.proofs.Common.{◌≡◌, ◌<◌, ◌+◌, ℕ, zero, suc, Bool, false, cond, List, [], ◌∷◌, All, length, get_or, arith, refl, ap, ◌∙◌, not}
use Rattle.std.specs.Prelude.{filter, slice_set}
use Rattle.std.proofs.lemmas.List.{set-get_or}
use Rattle.std.specs.List.{range_with_len}
use Rattle.std.proofs.lemmas.Option.{slice_get-get_or}
use Rattle.bsp_model.specs.declared.input.Input.{Input}
use Rattle.bsp_step.specs.ViewParts.{ViewParts}
use Rattle.bsp_step.specs.OutcomeParts.{OutcomeParts}
use Rattle.bsp_run.specs.Condition.{no_view}
use Rattle.bsp_incr.specs.declared.edit.Edit.{Edit}
use Rattle.bsp_incr.specs.Inside.Changes.{places_of, differs, differ_in, is_touched, touched_in}
use Rattle.bsp_incr.specs.Edits.{edited_by, edited, with_number}
use Rattle.bsp_incr.specs.Inside.Reuse.{needs_turn}
use Rattle.bsp_incr.proofs.Propagation.{Decides-untouched}
use Rattle.bsp_incr.proofs.Serving.{serves-itself}

-- a test that holds nowhere leaves nothing
none_left : (test : ℕ → Bool) (a n : ℕ) → ((k : ℕ) → a < k + 1 → k < a + n → test k ≡ false) → filter test (range_with_len a n) ≡ []
none_left test a zero fails = refl
none_left test a (suc n) fails =
    let later = filter test (range_with_len (a + 1) n) in
    ap (λ b. cond b (a ∷ later) later) (fails a (omega arith) (omega arith)) ∙ none_left test (a + 1) n (λ k low high. fails k (omega arith) (omega arith))

-- no view differs from itself
differs-itself : (looks : ViewParts → ℕ → Bool) (views : List ViewParts) (p : ℕ) → p < length views → differs looks views views p ≡ false
differs-itself looks views p l =
    ap (λ v. needs_turn looks v (get_or views p no_view)) (slice_get-get_or views p no_view l) ∙ ap not (serves-itself looks (get_or views p no_view))

-- Against the same views no turn has to be taken ..
pub nothing-differs : (looks : ViewParts → ℕ → Bool) (step : ℕ) (views : List ViewParts) → differ_in looks step views views ≡ []
nothing-differs looks step views = ap (places_of step) (none_left (differs looks views views) 0 (length views) (λ k low high. differs-itself looks views k (omega arith)))

-- .. and against the same outcomes no delivery has to be made.
pub nothing-touched : (step : ℕ) (os : List OutcomeParts) → touched_in step os os ≡ []
nothing-touched step os = ap (places_of step) (none_left (is_touched os os) 0 (length os) (λ k low high. ap not ((Decides-untouched os os k).1 (omega arith, refl))))

-- Edits each of which leaves the input as it is leave it so together.
pub nothing-edited : (i : Input) (edits : List Edit) → All (λ e. edited_by i e ≡ i) edits → edited i edits ≡ i
nothing-edited i [] h = refl
nothing-edited i (e ∷ later) h = ap (λ (j : Input). edited j later) (h 0 e (omega arith)) ∙ nothing-edited i later (λ k d l. h (suc k) d (omega arith))

-- a number that is there already
pub same_number : (lists : List (List ℕ)) (p a value : ℕ) → value ≡ get_or (get_or lists p []) a 0 → with_number lists p a value ≡ lists
same_number lists p a value e =
    ap (λ x. slice_set lists p (slice_set (get_or lists p []) a x)) e ∙ ap (slice_set lists p) (set-get_or (get_or lists p []) a 0) ∙ set-get_or lists p []
