-- A recorded turn over another memory.
use Rattle.std.proofs.Common.{◌≡◌, ◌<◌, ℕ, ◌+◌, Bool, true, List, [], ◌∷◌, ◌++◌, Option, None, Some, get_or, length, map, refl, sym, ap, ◌∙◌}
use Rattle.std.specs.Prelude.{slice_set, nat_lt, nat_le}
use Rattle.std.proofs.lemmas.List.{get_or-map}
use Rattle.bsp_model.specs.declared.request.Store.{Store}
use Rattle.bsp_model.specs.declared.fault.Fault.{Fault}
use Rattle.bsp_model.specs.declared.fault.Fault.TheVariants.{BadLocal, BadPid}
use Rattle.bsp_model.specs.declared.fault.End.{End}
use Rattle.bsp_step.specs.ViewParts.{ViewParts, IsView}
use Rattle.bsp_step.specs.OutcomeParts.{OutcomeParts, no_outcome, outcome_of}
use Rattle.bsp_step.proofs.Limits.{turn_of-issued}
use Rattle.bsp_run.specs.Condition.{no_view}
use Rattle.bsp_step.specs.Context.{Context, fresh}
use Rattle.bsp_step.specs.Act.{Act, store, charge, put, get, send, move_into, push_reg, pop_reg, set_tagsize, print}
use Rattle.bsp_step.specs.Perform.{perform, performed, perform_all, refusal, done, first_fault, fault_unless, area_fault, target_area, request_fault}
use Rattle.bsp_step.specs.Turn.{turn_of, closed}
use Rattle.bsp_step.specs.Footprint.{IsFootprint, AreAlike, AreAlikeButForWords}
use Rattle.bsp_model.specs.Stores.{made_again}
use Rattle.bsp_model.proofs.MadeAgain.{length-made_again, made_again-append}
use Rattle.bsp_incr.specs.Inside.Reuse.{serves}
use Rattle.bsp_incr.specs.Reused.{reused}
use Rattle.bsp_incr.proofs.Serving.{Decides-serves}
use Rattle.bsp_step.proofs.Performing.{perform-length}

made_again-push : (m : List ℕ) (stores : List Store) (s : Store) → made_again m (stores ++ s ∷ []) ≡ slice_set (made_again m stores) s.addr s.value
made_again-push m stores s = made_again-append m stores (s ∷ [])

-- the state of a turn, over another memory of the view
abbrev over : List ℕ → Context → Context
over m c = record c { view = record c.view { memory = m }; memory = made_again m c.stores }

refusal-over : (m : List ℕ) (c : Context) (a : Act) → length c.memory ≡ length m → refusal (over m c) a ≡ refusal c a
refusal-over m c (store a v) e = ap (λ n. fault_unless (nat_lt a n) BadLocal) (length-made_again m c.stores ∙ sym e)
refusal-over m c (charge n) e = refl
refusal-over m c (put pid words area offset) e = refl
refusal-over m c (get pid area offset into len) e =
    ap (λ n. first_fault (request_fault c) (first_fault (fault_unless (nat_lt pid c.view.nprocs) (BadPid pid)) (first_fault (area_fault (target_area c.view pid area) area (offset + len)) (fault_unless (nat_le (into + len) n) BadLocal)))) (length-made_again m c.stores ∙ sym e)
refusal-over m c (send pid tag words) e = refl
refusal-over m c (move_into room) e = refl
refusal-over m c (push_reg start len) e = ap (λ n. first_fault (request_fault c) (fault_unless (nat_le (start + len) n) BadLocal)) (length-made_again m c.stores ∙ sym e)
refusal-over m c (pop_reg start) e = refl
refusal-over m c (set_tagsize size) e = refl
refusal-over m c (print words) e = refl

done-over : (m : List ℕ) (c : Context) (a : Act) → done (over m c) a ≡ over m (done c a)
done-over m c (store a v) = let again = sym (made_again-push m c.stores record { addr = a; value = v }) in λ i. record (over m (done c (store a v))) { memory = again i }
done-over m c (charge n) = refl
done-over m c (put pid words area offset) = refl
done-over m c (get pid area offset into len) = refl
done-over m c (send pid tag words) = refl
done-over m c (move_into room) = refl
done-over m c (push_reg start len) = refl
done-over m c (pop_reg start) = refl
done-over m c (set_tagsize size) = refl
done-over m c (print words) = refl

performed-over : (m : List ℕ) (f r : Option Fault) (c d : Context) → performed f r (over m c) (over m d) ≡ over m (performed f r c d)
performed-over m (Some f) r c d = refl
performed-over m None (Some f) c d = refl
performed-over m None None c d = refl

perform-over : (m : List ℕ) (c : Context) (a : Act) → length c.memory ≡ length m → perform (over m c) a ≡ over m (perform c a)
perform-over m c a e =
    ap (λ r. performed c.fault r (over m c) (done (over m c) a)) (refusal-over m c a e)
    ∙ ap (λ d. performed c.fault (refusal c a) (over m c) d) (done-over m c a)
    ∙ performed-over m c.fault (refusal c a) c (done c a)

perform_all-over : (m : List ℕ) (c : Context) (acts : List Act) → length c.memory ≡ length m → perform_all (over m c) acts ≡ over m (perform_all c acts)
perform_all-over m c [] e = refl
perform_all-over m c (a ∷ acts) e = ap (λ d. perform_all d acts) (perform-over m c a e) ∙ perform_all-over m (perform c a) acts (perform-length c a ∙ e)

-- a view that is alike is the first with another memory
pub with_memory : (v w : ViewParts) → AreAlikeButForWords v w → w ≡ record v { memory = w.memory }
with_memory v w h =
    λ i. record { nprocs = sym h.nprocs i; pid = sym h.pid i; step = sym h.step i; args = sym h.args i; memory = w.memory; table = sym h.table i; tag_size = sym h.tag_size i; queue = sym h.queue i }

turn_over : (acts : ViewParts → List Act) (ending : ViewParts → End) (v : ViewParts) (m : List ℕ) → length v.memory ≡ length m → closed (perform_all (fresh record v { memory = m }) (acts v)) (ending v) ≡ reused (turn_of acts ending v) m
turn_over acts ending v m e = ap (λ (c : Context). closed c (ending v)) (perform_all-over m (fresh v) (acts v) e)

-- The turn of a view that is alike is the recorded one, over the new memory.
pub turn_of-alike : (acts : ViewParts → List Act) (ending : ViewParts → End) (looks : ViewParts → ℕ → Bool) (v w : ViewParts) → IsFootprint acts ending looks → IsView v → IsView w → AreAlike (looks v) v w → turn_of acts ending w ≡ reused (turn_of acts ending v) w.memory
turn_of-alike acts ending looks v w footprint old new alike =
    ap (λ (xs : List Act). closed (perform_all (fresh w) xs) (ending w)) (sym (footprint.acts_alike v w old new alike))
    ∙ ap (λ (how : End). closed (perform_all (fresh w) (acts v)) how) (sym (footprint.ending_alike v w old new alike))
    ∙ ap (λ (x : ViewParts). closed (perform_all (fresh x) (acts v)) (ending v)) (with_memory v w alike.parts)
    ∙ turn_over acts ending v w.memory alike.parts.same_length

-- it is so where the recorded turn serves, and the memory keeps its length
pub reused_is : (acts : ViewParts → List Act) (ending : ViewParts → End) (looks : ViewParts → ℕ → Bool) (v w : ViewParts) (o : OutcomeParts) (memory : List ℕ) → IsFootprint acts ending looks → IsView v → IsView w → serves looks v w ≡ true → o ≡ turn_of acts ending v → memory ≡ made_again w.memory o.stores
    → (record o { memory = memory } ≡ turn_of acts ending w) × (length memory ≡ length o.memory)
reused_is acts ending looks v w o memory footprint old new served outcome is =
    let turn = turn_of acts ending in
    let alike = (Decides-serves looks v w).0 served in
    let made : record o { memory = memory } ≡ turn w =
    ap (λ (x : OutcomeParts). record x { memory = memory }) outcome ∙ ap (λ (m : List ℕ). record (turn v) { memory = m }) (is ∙ ap (λ (x : OutcomeParts). made_again w.memory x.stores) outcome)
    ∙ sym (turn_of-alike acts ending looks v w footprint old new alike) in
    (made, ap (λ (x : OutcomeParts). length x.memory) made ∙ (turn_of-issued acts ending w new).memory ∙ sym alike.parts.same_length ∙ sym (turn_of-issued acts ending v old).memory ∙ ap (λ (x : OutcomeParts). length x.memory) (sym outcome))

-- what is recorded at a place is the turn of the view there
pub turn_there : (turn : ViewParts → OutcomeParts) (views : List ViewParts) (os : List OutcomeParts) (p : ℕ) (v : ViewParts) (o : OutcomeParts) → p < length views → os ≡ map turn views → v ≡ get_or views p no_view → o ≡ outcome_of os p → o ≡ turn v
turn_there turn views os p v o here recorded at is = is ∙ ap (λ (xs : List OutcomeParts). outcome_of xs p) recorded ∙ get_or-map turn views p no_view no_outcome here ∙ ap turn (sym at)
