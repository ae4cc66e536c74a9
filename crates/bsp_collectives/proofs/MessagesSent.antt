-- What the acts of a turn send, and which words of it go to a process.
use Rattle.std.proofs.Common.{◌≡◌, ◌≤◌, ◌<◌, ◌+◌, ◌==◌, ◌∙◌, ◌++◌, ◌⊎◌, ℕ, zero, suc, true, false, cond, List, [], ◌∷◌, Option, None, Some, filter, ap, sym, refl, append_assoc, arith, inl, inr}
use Rattle.std.specs.List.{flat_map, range_with_len}
use Rattle.std.proofs.lemmas.Bool.{cases_lt}
use Rattle.std.proofs.lemmas.Bool.Decides.{nat_tests}
use Rattle.std.proofs.lemmas.List.{append-nil}
use Rattle.bsp_model.specs.declared.fault.Fault.{Fault}
use Rattle.bsp_model.specs.declared.fault.End.{End}
use Rattle.bsp_model.specs.declared.request.Message.{Message}
use Rattle.bsp_model.specs.declared.request.Send.{Send}
use Rattle.bsp_step.specs.Act.{Act, store, charge, put, get, send, move_into, push_reg, pop_reg, set_tagsize, print}
use Rattle.bsp_step.specs.Context.{Context, fresh}
use Rattle.bsp_step.specs.Perform.{done, first_fault, perform, perform_all, performed, refusal}
use Rattle.bsp_step.specs.Turn.{abort_of, turn_of}
use Rattle.bsp_step.specs.ViewParts.{ViewParts}
use Rattle.bsp_step.proofs.Performing.{perform_all-kept}
use Rattle.bsp_deliver.specs.Delivery.{message_of}
use Rattle.bsp_collectives.specs.Messages.{blank_tag, moves, sends}
use Rattle.bsp_collectives.specs.Arrivals.{sends_made}

performed-done : (f r : Option Fault) (c d : Context) → c.fault ≡ f → (performed f r c d).fault ≡ None → performed f r c d ≡ d
performed-done (Some x) r c d kept faultless = cc
performed-done None (Some x) c d kept faultless = cc
performed-done None None c d kept faultless = refl

done-sends : (c : Context) (a : Act) → (done c a).sends ≡ c.sends ++ sends_made (a ∷ [])
done-sends c (store address value) = sym (append-nil c.sends)
done-sends c (charge amount) = sym (append-nil c.sends)
done-sends c (put pid words area offset) = sym (append-nil c.sends)
done-sends c (get pid area offset into len) = sym (append-nil c.sends)
done-sends c (send pid tag words) = refl
done-sends c (move_into room) = sym (append-nil c.sends)
done-sends c (push_reg start len) = sym (append-nil c.sends)
done-sends c (pop_reg start) = sym (append-nil c.sends)
done-sends c (set_tagsize size) = sym (append-nil c.sends)
done-sends c (print words) = sym (append-nil c.sends)

sends_made-first : (a : Act) (acts : List Act) → sends_made (a ∷ []) ++ sends_made acts ≡ sends_made (a ∷ acts)
sends_made-first (store address value) acts = refl
sends_made-first (charge amount) acts = refl
sends_made-first (put pid words area offset) acts = refl
sends_made-first (get pid area offset into len) acts = refl
sends_made-first (send pid tag words) acts = refl
sends_made-first (move_into room) acts = refl
sends_made-first (push_reg start len) acts = refl
sends_made-first (pop_reg start) acts = refl
sends_made-first (set_tagsize size) acts = refl
sends_made-first (print words) acts = refl

pub sends_made-append : (xs ys : List Act) → sends_made (xs ++ ys) ≡ sends_made xs ++ sends_made ys
sends_made-append [] ys = refl
sends_made-append (a ∷ xs) ys =
    sym (sends_made-first a (xs ++ ys)) ∙ ap (λ ms. sends_made (a ∷ []) ++ ms) (sends_made-append xs ys)
    ∙ sym (append_assoc (sends_made (a ∷ [])) (sends_made xs) (sends_made ys)) ∙ ap (λ ms. ms ++ sends_made ys) (sends_made-first a xs)

-- no message is sent where messages are taken
pub sends_made-moves : (queue : List Message) → sends_made (moves queue) ≡ []
sends_made-moves [] = refl
sends_made-moves (m ∷ queue) = sends_made-moves queue

first_faultless : (c : Context) (a : Act) (acts : List Act) (o : Option Fault) → (perform c a).fault ≡ o → (perform_all (perform c a) acts).fault ≡ None → (perform c a).fault ≡ None
first_faultless c a acts None is faultless = is
first_faultless c a acts (Some f) is faultless = ap (λ (d : Context). d.fault) (sym (perform_all-kept (perform c a) acts f is)) ∙ faultless

-- acts of which none faults
pub perform_all-sends_made : (c : Context) (acts : List Act) → (perform_all c acts).fault ≡ None → (perform_all c acts).sends ≡ c.sends ++ sends_made acts
perform_all-sends_made c [] faultless = sym (append-nil c.sends)
perform_all-sends_made c (a ∷ acts) faultless =
    let here : (perform c a).fault ≡ None = first_faultless c a acts _ refl faultless in
    perform_all-sends_made (perform c a) acts faultless
    ∙ ap (λ (d : Context). d.sends ++ sends_made acts) (performed-done c.fault (refusal c a) c (done c a) refl here)
    ∙ ap (λ ms. ms ++ sends_made acts) (done-sends c a)
    ∙ append_assoc c.sends (sends_made (a ∷ [])) (sends_made acts) ∙ ap (λ ms. c.sends ++ ms) (sends_made-first a acts)

none-first : (f g : Option Fault) → first_fault f g ≡ None → f ≡ None
none-first None g none = refl
none-first (Some f) g none = none

-- What a turn without a fault sends: the messages of its acts.
pub turn-sends_made : (acts : ViewParts → List Act) (ending : ViewParts → End) (v : ViewParts) → (turn_of acts ending v).fault ≡ None → (turn_of acts ending v).sends ≡ sends_made (acts v)
turn-sends_made acts ending v faultless = perform_all-sends_made (fresh v) (acts v) (none-first (perform_all (fresh v) (acts v)).fault (abort_of (ending v)) faultless)

-- what is read of the messages to process d, one message after the other
abbrev pub read_to : {Y : Type 0} → (Message → List Y) → ℕ → List Send → List Y
read_to read d ms = flat_map (λ (m : Send). read (message_of m)) (filter (λ (m : Send). m.target == d) ms)

-- their words
abbrev pub words_to : ℕ → List Send → List ℕ
words_to d ms = read_to (λ (m : Message). m.words) d ms

pub first-other : {Y : Type 0} (read : Message → List Y) (d : ℕ) (m : Send) (ms : List Send) → (m.target == d) ≡ false → read_to read d (m ∷ ms) ≡ read_to read d ms
first-other read d m ms other =
    ap (λ b. flat_map (λ (x : Send). read (message_of x)) (cond b (m ∷ filter (λ (x : Send). x.target == d) ms) (filter (λ (x : Send). x.target == d) ms))) other

pub first-own : {Y : Type 0} (read : Message → List Y) (d : ℕ) (m : Send) (ms : List Send) → (m.target == d) ≡ true → read_to read d (m ∷ ms) ≡ read (message_of m) ++ read_to read d ms
first-own read d m ms own =
    ap (λ b. flat_map (λ (x : Send). read (message_of x)) (cond b (m ∷ filter (λ (x : Send). x.target == d) ms) (filter (λ (x : Send). x.target == d) ms))) own

-- Of messages to n processes, from k on, none goes to another process,
pub read_to-other : {Y : Type 0} (read : Message → List Y) (v : ViewParts) (words : ℕ → List ℕ) (d k n : ℕ) → (d < k) ⊎ (k + n ≤ d) → read_to read d (sends_made (sends v words (range_with_len k n))) ≡ []
read_to-other read v words d k zero outside = refl
read_to-other read v words d k (suc n) outside =
    first-other read d _ (sends_made (sends v words (range_with_len (k + 1) n))) (grind (arith, nat_tests))
    ∙ read_to-other read v words d (k + 1) n (grind arith)

-- and one to each of these.
pub read_to-one : {Y : Type 0} (read : Message → List Y) (v : ViewParts) (words : ℕ → List ℕ) (d k n : ℕ) → k ≤ d → d < k + n
    → read_to read d (sends_made (sends v words (range_with_len k n))) ≡ read (record { tag = blank_tag v; words = words d })
read_to-one read v words d k zero low high = absurd (omega arith)
read_to-one read v words d k (suc n) low high =
    elim (cases_lt k d) [
      | inl below ↦
          first-other read d _ (sends_made (sends v words (range_with_len (k + 1) n))) (grind (arith, nat_tests))
          ∙ read_to-one read v words d (k + 1) n (omega arith) (omega arith)
      | inr past ↦
          let here : k ≡ d = omega arith in
          first-own read d _ (sends_made (sends v words (range_with_len (k + 1) n))) (grind (arith, nat_tests))
          ∙ ap (λ xs. read (record { tag = blank_tag v; words = words k }) ++ xs) (read_to-other read v words d (k + 1) n (inl (omega arith)))
          ∙ append-nil (read (record { tag = blank_tag v; words = words k })) ∙ ap (λ j. read (record { tag = blank_tag v; words = words j })) here
    ]

pub words_to-other : (v : ViewParts) (words : ℕ → List ℕ) (d k n : ℕ) → (d < k) ⊎ (k + n ≤ d) → words_to d (sends_made (sends v words (range_with_len k n))) ≡ []
words_to-other v words d k n outside = read_to-other (λ (m : Message). m.words) v words d k n outside

pub words_to-one : (v : ViewParts) (words : ℕ → List ℕ) (d k n : ℕ) → k ≤ d → d < k + n → words_to d (sends_made (sends v words (range_with_len k n))) ≡ words d
words_to-one v words d k n low high = read_to-one (λ (m : Message). m.words) v words d k n low high
