-- A turn behind the outcomes of earlier turns, which change nothing in it.
use Rattle.std.proofs.Common.{◌≡◌, List, [], ◌∷◌, Option, None, Some, refl, sym, ap, ◌∙◌}
use Rattle.bsp_model.specs.declared.fault.Fault.{Fault}
use Rattle.bsp_model.specs.declared.fault.End.{End}
use Rattle.bsp_step.specs.ViewParts.{ViewParts}
use Rattle.bsp_step.specs.OutcomeParts.{OutcomeParts}
use Rattle.bsp_step.specs.Context.{Context, fresh, IsFresh}
use Rattle.bsp_step.specs.Act.{Act, store, charge, put, get, send, move_into, push_reg, pop_reg, set_tagsize, print}
use Rattle.bsp_step.specs.Perform.{perform, performed, perform_all, refusal, done, first_fault}
use Rattle.bsp_step.specs.Turn.{Follows, closed, ended_of, abort_of, turn_of}

abbrev pub behind : List OutcomeParts → Context → Context
behind earlier c = record c { earlier = earlier }

done-behind : (earlier : List OutcomeParts) (c : Context) (a : Act) → done (behind earlier c) a ≡ behind earlier (done c a)
done-behind earlier c (store a v) = refl
done-behind earlier c (charge n) = refl
done-behind earlier c (put pid words area offset) = refl
done-behind earlier c (push_reg start len) = refl
done-behind earlier c (print words) = refl
done-behind earlier c (get pid area offset into len) = refl
done-behind earlier c (send pid tag words) = refl
done-behind earlier c (move_into room) = refl
done-behind earlier c (pop_reg start) = refl
done-behind earlier c (set_tagsize size) = refl

refusal-behind : (earlier : List OutcomeParts) (c : Context) (a : Act) → refusal (behind earlier c) a ≡ refusal c a
refusal-behind earlier c (store a v) = refl
refusal-behind earlier c (charge n) = refl
refusal-behind earlier c (put pid words area offset) = refl
refusal-behind earlier c (push_reg start len) = refl
refusal-behind earlier c (print words) = refl
refusal-behind earlier c (get pid area offset into len) = refl
refusal-behind earlier c (send pid tag words) = refl
refusal-behind earlier c (move_into room) = refl
refusal-behind earlier c (pop_reg start) = refl
refusal-behind earlier c (set_tagsize size) = refl

performed-behind : (earlier : List OutcomeParts) (f r : Option Fault) (c d : Context) → performed f r (behind earlier c) (behind earlier d) ≡ behind earlier (performed f r c d)
performed-behind earlier (Some f) r c d = refl
performed-behind earlier None (Some f) c d = refl
performed-behind earlier None None c d = refl

perform-behind : (earlier : List OutcomeParts) (c : Context) (a : Act) → perform (behind earlier c) a ≡ behind earlier (perform c a)
perform-behind earlier c a =
    (λ i. performed c.fault (refusal-behind earlier c a i) (behind earlier c) (done-behind earlier c a i)) ∙ performed-behind earlier c.fault (refusal c a) c (done c a)

pub perform_all-behind : (earlier : List OutcomeParts) (c : Context) (acts : List Act) → perform_all (behind earlier c) acts ≡ behind earlier (perform_all c acts)
perform_all-behind earlier c [] = refl
perform_all-behind earlier c (a ∷ acts) = ap (λ (d : Context). perform_all d acts) (perform-behind earlier c a) ∙ perform_all-behind earlier (perform c a) acts

-- a context that begins so is fresh
pub begins-fresh : (earlier : List OutcomeParts) (v : ViewParts) (c : Context) → c ≡ behind earlier (fresh v) → IsFresh c
begins-fresh earlier v c is = is ∙ ap (λ (d : Context). behind d.earlier (fresh d.view)) (sym is)

-- with a fault that is kept, the answer does not matter

alike : (c : Context) (f : Option Fault) (how ending : End) → c.fault ≡ f → (f ≡ None → how ≡ ending) → closed c how ≡ closed c ending
alike c None how ending is answered = ap (closed c) (answered refl)
alike c (Some x) how ending is answered =
    let of : Option Fault → End → OutcomeParts = λ f end. record (closed c end) { fault = first_fault f (abort_of end); ended = ended_of (first_fault f (abort_of end)) end } in
    ap (λ f. of f how) is ∙ ap (λ f. of f ending) (sym is)

-- what it leaves is the turn of its view
pub turn-behind : (acts : ViewParts → List Act) (ending : ViewParts → End) (earlier : List OutcomeParts) (v : ViewParts) (old new : Context) (how : End) → old ≡ behind earlier (fresh v) → Follows old (acts old.view) (ending old.view) new how
    → (closed new how ≡ turn_of acts ending v) × (new.earlier ≡ earlier)
turn-behind acts ending earlier v old new how is follows =
    let view : old.view ≡ v = ap (λ (c : Context). c.view) is in
    let made : new ≡ behind earlier (perform_all (fresh v) (acts v)) =
    follows.acted ∙ (λ i. perform_all (is i) (acts (view i))) ∙ perform_all-behind earlier (fresh v) (acts v) in
    (alike new new.fault how (ending old.view) refl follows.answered ∙ (λ i. closed (made i) (ending (view i))), ap (λ (c : Context). c.earlier) made)
