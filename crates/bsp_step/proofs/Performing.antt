-- Laws of acts in order.
use Rattle.std.proofs.Common.{◌≡◌, ℕ, List, [], ◌∷◌, ◌++◌, Option, None, Some, length, refl, ap, sym, ◌∙◌, arith}
use Rattle.std.specs.Prelude.{slice_set}
use Rattle.std.proofs.lemmas.Grind.{common_steps}
use Rattle.bsp_model.specs.declared.fault.Fault.{Fault}
use Rattle.bsp_step.specs.declared.stop.Stop.{Stop}
use Rattle.bsp_step.specs.declared.stop.Stop.TheVariants.{Fault as Faulted, OutOfMemory}
use Rattle.bsp_step.specs.Context.{Context}
use Rattle.bsp_step.specs.Calls.{Stops, RunStops}
use Rattle.bsp_step.specs.Turn.{Follows}
use Rattle.bsp_model.specs.declared.fault.End.{End}
use Rattle.bsp_step.specs.Act.{Act, store, charge, put, get, send, move_into, push_reg, pop_reg, set_tagsize, print}
use Rattle.bsp_step.specs.Perform.{perform, performed, perform_all, refusal, done}

-- with a fault that is kept, nothing is done
pub performed-kept : (f g : Option Fault) (c d : Context) (x : Fault) → f ≡ Some x → performed f g c d ≡ c
performed-kept f g c d x e = rw e refl

pub perform-kept : (c : Context) (a : Act) (x : Fault) → c.fault ≡ Some x → perform c a ≡ c
perform-kept c a x e = performed-kept c.fault (refusal c a) c (done c a) x e

pub perform_all-kept : (c : Context) (acts : List Act) (x : Fault) → c.fault ≡ Some x → perform_all c acts ≡ c
perform_all-kept c [] x e = refl
perform_all-kept c (a ∷ acts) x e = rw (perform-kept c a x e) (perform_all-kept c acts x e)

pub perform_all-append : (c : Context) (xs ys : List Act) → perform_all c (xs ++ ys) ≡ perform_all (perform_all c xs) ys
perform_all-append c [] ys = refl
perform_all-append c (x ∷ xs) ys = perform_all-append (perform c x) xs ys

-- a fault that is kept at an act ends a run, whatever was left to do
pub RunStops-at_act : (start c new : Context) (all : List Act) (a : Act) (rest : List Act) (e : Stop) → perform_all start all ≡ perform_all c (a ∷ rest) → Stops c a new e → RunStops start all new e
RunStops-at_act start c new all a rest (Faulted f) left acted =
    let kept : (perform c a).fault ≡ Some f = ap (λ (d : Context). d.fault) (sym acted.0) ∙ acted.1 in
    (acted.0 ∙ sym (perform_all-kept (perform c a) rest f kept) ∙ sym left, acted.1)
RunStops-at_act start c new all a rest OutOfMemory left acted = tt

-- the same at a part of a run
pub RunStops-at_part : (start c new : Context) (all part rest : List Act) (e : Stop) → perform_all start all ≡ perform_all c (part ++ rest) → RunStops c part new e → RunStops start all new e
RunStops-at_part start c new all part rest (Faulted f) left acted =
    let kept : (perform_all c part).fault ≡ Some f = ap (λ (d : Context). d.fault) (sym acted.0) ∙ acted.1 in
    (acted.0 ∙ sym (perform_all-kept (perform_all c part) rest f kept) ∙ sym (perform_all-append c part rest) ∙ sym left, acted.1)
RunStops-at_part start c new all part rest OutOfMemory left acted = tt

done-view : (c : Context) (a : Act) → (done c a).view ≡ c.view
done-view c (store a v) = refl
done-view c (charge n) = refl
done-view c (put pid words area offset) = refl
done-view c (push_reg start len) = refl
done-view c (print words) = refl
done-view c (get pid area offset into len) = refl
done-view c (send pid tag words) = refl
done-view c (move_into room) = refl
done-view c (pop_reg start) = refl
done-view c (set_tagsize size) = refl

performed-view : (f r : Option Fault) (c d : Context) → d.view ≡ c.view → (performed f r c d).view ≡ c.view
performed-view (Some f) r c d e = refl
performed-view None (Some f) c d e = refl
performed-view None None c d e = e

-- no act changes the view
pub perform-view : (c : Context) (a : Act) → (perform c a).view ≡ c.view
perform-view c a = performed-view c.fault (refusal c a) c (done c a) (done-view c a)

pub perform_all-view : (c : Context) (acts : List Act) → (perform_all c acts).view ≡ c.view
perform_all-view c [] = refl
perform_all-view c (a ∷ acts) = perform_all-view (perform c a) acts ∙ perform-view c a

length-stored : (memory : List ℕ) (address value : ℕ) → length (slice_set memory address value) ≡ length memory
length-stored memory address value = grind (arith, common_steps)

done-length : (c : Context) (a : Act) → length (done c a).memory ≡ length c.memory
done-length c (store a v) = length-stored c.memory a v
done-length c (charge n) = refl
done-length c (put pid words area offset) = refl
done-length c (push_reg start len) = refl
done-length c (print words) = refl
done-length c (get pid area offset into len) = refl
done-length c (send pid tag words) = refl
done-length c (move_into room) = refl
done-length c (pop_reg start) = refl
done-length c (set_tagsize size) = refl

performed-length : (f r : Option Fault) (c d : Context) → length d.memory ≡ length c.memory → length (performed f r c d).memory ≡ length c.memory
performed-length (Some f) r c d e = refl
performed-length None (Some f) c d e = refl
performed-length None None c d e = e

-- no act changes the length of the memory
pub perform-length : (c : Context) (a : Act) → length (perform c a).memory ≡ length c.memory
perform-length c a = performed-length c.fault (refusal c a) c (done c a) (done-length c a)

pub perform_all-length : (c : Context) (acts : List Act) → length (perform_all c acts).memory ≡ length c.memory
perform_all-length c [] = refl
perform_all-length c (a ∷ acts) = perform_all-length (perform c a) acts ∙ perform-length c a

-- nor does a step
pub Follows-view : {old new : Context} {acts : List Act} {ending how : End} → Follows old acts ending new how → new.view ≡ old.view
Follows-view {old = old} {acts = acts} f = ap (λ (d : Context). d.view) f.acted ∙ perform_all-view old acts
