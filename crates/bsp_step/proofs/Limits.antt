-- Whatever the acts, a turn of a view within the limits leaves an outcome within them.
use Rattle.std.proofs.Common.{◌≡◌, ◌≤◌, ◌<◌, ◌+◌, ◌==◌, ℕ, List, [], ◌∷◌, ◌++◌, Option, None, Some, Bool, true, false, length, drop, arith, refl, sym, ap, ◌∙◌, subst, length-append}
use Rattle.std.specs.Prelude.{nat_lt, nat_le, slice_set}
use Rattle.std.proofs.lemmas.Bool.Decides.{nat_tests}
use Rattle.std.proofs.lemmas.Grind.{common_steps}
use Rattle.std.proofs.lemmas.List.Elements.{All-nil, All-push, All-drop, All-weaker}
use Rattle.bsp_model.specs.Limits.{most_lines, most_line_words, most_payload_words, most_requests, most_tag_words, most_work}
use Rattle.bsp_model.specs.declared.request.Put.{Put}
use Rattle.bsp_model.specs.declared.request.Get.{Get}
use Rattle.bsp_model.specs.declared.request.Send.{Send}
use Rattle.bsp_model.specs.declared.fault.Fault.{Fault}
use Rattle.bsp_model.specs.declared.fault.Fault.TheVariants.{TooManyRequests}
use Rattle.bsp_model.specs.declared.fault.End.{End}
use Rattle.bsp_table.specs.declared.area.Area.{Area}
use Rattle.bsp_table.specs.Table.{newest_under}
use Rattle.bsp_step.specs.Inside.Gathered.{Gathered, count_of_issued}
use Rattle.bsp_step.specs.ViewParts.{ViewParts, IsView, IsShortMessage}
use Rattle.bsp_step.specs.Context.{Context, fresh}
use Rattle.bsp_step.specs.CtxInside.{IsContext}
use Rattle.bsp_step.specs.Act.{Act, store, charge, put, get, send, move_into, push_reg, pop_reg, set_tagsize, print}
use Rattle.bsp_step.specs.Perform.{perform, performed, perform_all, refusal, done, first_fault, fault_unless, area_fault, slot_fault, start_of, target_area, count_of_requests, request_fault}
use Rattle.bsp_step.specs.Inside.Checks.{place_fault}
use Rattle.bsp_step.specs.Requests.{IsAddressed, IsPlaced, IsAsked}
use Rattle.bsp_step.specs.OutcomeParts.{IsOutcome, IsOutcomeOf, IsHaltOnFault, IsShortSend}
use Rattle.bsp_step.specs.Turn.{closed, ended_of, abort_of, turn_of}
use Rattle.bsp_step.proofs.Performing.{perform_all-view}
use Rattle.bsp_step.proofs.Boxed.{issued_of, with_issued}
use Rattle.bsp_step.proofs.Placing.{ArePlaced-push, AreAsked-push}
use Rattle.bsp_step.proofs.Finding.{AreSlots-push}

-- what holds where a check passes

passes : (b : Bool) (f : Fault) → fault_unless b f ≡ None → b ≡ true
passes true f h = refl
passes false f h = cc

both_pass : (x y : Option Fault) → first_fault x y ≡ None → (x ≡ None) × (y ≡ None)
both_pass None y h = (refl, h)
both_pass (Some f) y h = cc

lt_passes : (a b : ℕ) (f : Fault) → fault_unless (nat_lt a b) f ≡ None → a < b
lt_passes a b f h = let t = passes (nat_lt a b) f h in grind (arith, nat_tests)

le_passes : (a b : ℕ) (f : Fault) → fault_unless (nat_le a b) f ≡ None → a ≤ b
le_passes a b f h = let t = passes (nat_le a b) f h in grind (arith, nat_tests)

eq_passes : (a b : ℕ) (f : Fault) → fault_unless (a == b) f ≡ None → a ≡ b
eq_passes a b f h = let t = passes (a == b) f h in grind (arith, nat_tests)

area_passes : (o : Option Area) (area end : ℕ) → area_fault o area end ≡ None → (a : Area) × (o ≡ Some a) × (end ≤ a.len)
area_passes None area end h = cc
area_passes (Some a) area end h = (a, refl, le_passes end a.len _ h)

slot_passes : (o : Option ℕ) (start : ℕ) → slot_fault o start ≡ None → (k : ℕ) × (o ≡ Some k)
slot_passes None start h = cc
slot_passes (Some k) start h = (k, refl)

one_more : {X : Type 0} (xs : List X) (x : X) → length (xs ++ x ∷ []) ≡ length xs + 1
one_more xs x = length-append xs (x ∷ [])

stored : (c : Context) (a v : ℕ) → IsContext c → IsContext (done c (store a v))
stored c a v h =
    let same : length (slice_set c.memory a v) ≡ length c.memory = grind (arith, common_steps) in
    record { view = h.view; memory = same ∙ h.memory; left = h.left; few_requests = h.few_requests; placed = h.placed; asked = h.asked; addressed = h.addressed; popped = h.popped; pushed = h.pushed; tag = h.tag; lines = h.lines; little_work = h.little_work }

charged : (c : Context) (n : ℕ) → IsContext c → c.work + n ≤ most_work → IsContext (done c (charge n))
charged c n h little =
    record { view = h.view; memory = h.memory; left = h.left; few_requests = h.few_requests; placed = h.placed; asked = h.asked; addressed = h.addressed; popped = h.popped; pushed = h.pushed; tag = h.tag; lines = h.lines; little_work = little }

put_done : (c : Context) (pid : ℕ) (words : List ℕ) (area offset : ℕ) (a : Area) → IsContext c → count_of_requests c < most_requests → pid < c.view.nprocs → target_area c.view pid area ≡ Some a → offset + length words ≤ a.len → IsContext (done c (put pid words area offset))
put_done c pid words area offset a h few below found fits =
    let p : Put = record { target = pid; start = a.start + offset; words = words } in
    let more = one_more c.puts p in
    rw found record { view = h.view; memory = h.memory; left = h.left; few_requests = omega arith; placed = ArePlaced-push c.view c.puts pid area offset words a h.placed below found fits; asked = h.asked; addressed = h.addressed; popped = h.popped; pushed = h.pushed; tag = h.tag; lines = h.lines; little_work = h.little_work }

get_done : (c : Context) (pid area offset into len : ℕ) (a : Area) → IsContext c → count_of_requests c < most_requests → pid < c.view.nprocs → target_area c.view pid area ≡ Some a → offset + len ≤ a.len → into + len ≤ length c.memory → IsContext (done c (get pid area offset into len))
get_done c pid area offset into len a h few below found fits own =
    let g : Get = record { owner = pid; start = a.start + offset; len = len; into = into } in
    let more = one_more c.gets g in
    rw found record { view = h.view; memory = h.memory; left = h.left; few_requests = omega arith; placed = h.placed; asked = AreAsked-push c.view c.gets pid area offset into len a h.asked below found fits (omega (arith, h.memory)); addressed = h.addressed; popped = h.popped; pushed = h.pushed; tag = h.tag; lines = h.lines; little_work = h.little_work }

send_done : (c : Context) (pid : ℕ) (tag words : List ℕ) → IsContext c → count_of_requests c < most_requests → pid < c.view.nprocs → length tag ≡ c.view.tag_size → length words ≤ most_payload_words → IsContext (done c (send pid tag words))
send_done c pid tag words h few below same short =
    let m : Send = record { target = pid; tag = tag; words = words } in
    let more = one_more c.sends m in
    record { view = h.view; memory = h.memory; left = h.left; few_requests = omega arith; placed = h.placed; asked = h.asked; addressed = record { each = All-push (IsAddressed c.view) c.sends m h.addressed.each record { target_below = below; tag = same; words = short } }; popped = h.popped; pushed = h.pushed; tag = h.tag; lines = h.lines; little_work = h.little_work }

moved : (c : Context) (room : ℕ) → IsContext c → IsContext (done c (move_into room))
moved c room h =
    let fewer : length (drop 1 c.left) ≤ length c.left = grind (arith, common_steps) in
    record { view = h.view; memory = h.memory; left = record { few = omega (arith, h.left.few); short = All-drop IsShortMessage 1 c.left h.left.short }; few_requests = h.few_requests; placed = h.placed; asked = h.asked; addressed = h.addressed; popped = h.popped; pushed = h.pushed; tag = h.tag; lines = h.lines; little_work = h.little_work }

push_done : (c : Context) (start len : ℕ) → IsContext c → count_of_requests c < most_requests → start + len ≤ length c.memory → IsContext (done c (push_reg start len))
push_done c start len h few fits =
    let a : Area = record { start = start; len = len } in
    let more = one_more c.pushes a in
    record { view = h.view; memory = h.memory; left = h.left; few_requests = omega arith; placed = h.placed; asked = h.asked; addressed = h.addressed; popped = h.popped; pushed = record { each = All-push (λ (a : Area). a.start + a.len ≤ length c.view.memory) c.pushes a h.pushed.each (omega (arith, h.memory)) }; tag = h.tag; lines = h.lines; little_work = h.little_work }

pop_done : (c : Context) (start k : ℕ) → IsContext c → count_of_requests c < most_requests → newest_under c.view.table c.view.pid start c.pops ≡ Some k → IsContext (done c (pop_reg start))
pop_done c start k h few found =
    let more = one_more c.pops k in
    rw found record { view = h.view; memory = h.memory; left = h.left; few_requests = omega arith; placed = h.placed; asked = h.asked; addressed = h.addressed; popped = AreSlots-push c.view.table c.view.pid c.pops start k h.popped found; pushed = h.pushed; tag = h.tag; lines = h.lines; little_work = h.little_work }

chosen : (c : Context) (size : ℕ) → IsContext c → size ≤ most_tag_words → IsContext (done c (set_tagsize size))
chosen c size h small =
    record { view = h.view; memory = h.memory; left = h.left; few_requests = h.few_requests; placed = h.placed; asked = h.asked; addressed = h.addressed; popped = h.popped; pushed = h.pushed; tag = small; lines = h.lines; little_work = h.little_work }

printed : (c : Context) (words : List ℕ) → IsContext c → length c.lines < most_lines → length words ≤ most_line_words → IsContext (done c (print words))
printed c words h few short =
    let more = one_more c.lines words in
    record { view = h.view; memory = h.memory; left = h.left; few_requests = h.few_requests; placed = h.placed; asked = h.asked; addressed = h.addressed; popped = h.popped; pushed = h.pushed; tag = h.tag; lines = record { few = omega arith; short = All-push (λ (line : List ℕ). length line ≤ most_line_words) c.lines words h.lines.short short }; little_work = h.little_work }

-- an act that passes its checks keeps the limits
done-within : (c : Context) (a : Act) → IsContext c → refusal c a ≡ None → IsContext (done c a)
done-within c (store a v) h e = stored c a v h
done-within c (charge n) h e = charged c n h (le_passes _ _ _ e)
done-within c (put pid words area offset) h e =
    let one = both_pass _ _ e in
    let two = both_pass _ _ one.1 in
    let found = area_passes _ _ _ two.1 in
    put_done c pid words area offset found.0 h (lt_passes _ _ _ one.0) (lt_passes _ _ _ two.0) found.1 found.2
done-within c (get pid area offset into len) h e =
    let one = both_pass _ _ e in
    let two = both_pass _ _ one.1 in
    let three = both_pass _ _ two.1 in
    let found = area_passes _ _ _ three.0 in
    get_done c pid area offset into len found.0 h (lt_passes _ _ _ one.0) (lt_passes _ _ _ two.0) found.1 found.2 (le_passes _ _ _ three.1)
done-within c (send pid tag words) h e =
    let one = both_pass _ _ e in
    let two = both_pass _ _ one.1 in
    let three = both_pass _ _ two.1 in
    send_done c pid tag words h (lt_passes _ _ _ one.0) (lt_passes _ _ _ two.0) (eq_passes _ _ _ three.0) (le_passes _ _ _ three.1)
done-within c (move_into room) h e = moved c room h
done-within c (push_reg start len) h e =
    let one = both_pass _ _ e in
    push_done c start len h (lt_passes _ _ _ one.0) (le_passes _ _ _ one.1)
done-within c (pop_reg start) h e =
    let one = both_pass _ _ e in
    let found = slot_passes _ _ one.1 in
    pop_done c start found.0 h (lt_passes _ _ _ one.0) found.1
done-within c (set_tagsize size) h e = chosen c size h (le_passes _ _ _ e)
done-within c (print words) h e =
    let one = both_pass _ _ e in
    printed c words h (lt_passes _ _ _ one.0) (le_passes _ _ _ one.1)

-- A put that was resolved keeps them.
pub put-within : (c d : Context) (l new : Gathered) (pid len area offset start : ℕ) (words : List ℕ) → IsContext c → c ≡ d → l ≡ issued_of c → place_fault d pid area (offset + len) ≡ None → start ≡ start_of (target_area d.view pid area) + offset → length words ≡ len
    → new ≡ record l { puts = l.puts ++ record { target = pid; start = start; words = words } ∷ [] } → IsContext (with_issued c new)
put-within c d l new pid len area offset start words h same read passes at long e =
    let passed : refusal c (put pid words area offset) ≡ None = ap (λ (x : Context). place_fault x pid area (offset + length words)) same ∙ ap (λ n. place_fault d pid area (offset + n)) long ∙ passes in
    let begins : start ≡ start_of (target_area c.view pid area) + offset = at ∙ ap (λ (x : Context). start_of (target_area x.view pid area) + offset) (sym same) in
    let made : with_issued c new ≡ record c { puts = c.puts ++ record { target = pid; start = start; words = words } ∷ [] } =
    ap (with_issued c) (e ∙ ap (λ (m : Gathered). record m { puts = m.puts ++ record { target = pid; start = start; words = words } ∷ [] }) read) in
    rw (made, begins) (done-within c (put pid words area offset) h passed)

-- So does a get.
pub get-within : (c d : Context) (l new : Gathered) (pid area offset into len start : ℕ) → IsContext c → c ≡ d → l ≡ issued_of c → place_fault d pid area (offset + len) ≡ None → into + len ≤ length c.memory → start ≡ start_of (target_area d.view pid area) + offset
    → new ≡ record l { gets = l.gets ++ record { owner = pid; start = start; len = len; into = into } ∷ [] } → IsContext (with_issued c new)
get-within c d l new pid area offset into len start h same read passes own at e =
    let passed : place_fault c pid area (offset + len) ≡ None = ap (λ (x : Context). place_fault x pid area (offset + len)) same ∙ passes in
    let begins : start ≡ start_of (target_area c.view pid area) + offset = at ∙ ap (λ (x : Context). start_of (target_area x.view pid area) + offset) (sym same) in
    let one = both_pass _ _ passed in
    let two = both_pass _ _ one.1 in
    let found = area_passes _ _ _ two.1 in
    let made : with_issued c new ≡ record c { gets = c.gets ++ record { owner = pid; start = start; len = len; into = into } ∷ [] } =
    ap (with_issued c) (e ∙ ap (λ (m : Gathered). record m { gets = m.gets ++ record { owner = pid; start = start; len = len; into = into } ∷ [] }) read) in
    rw (made, begins) (get_done c pid area offset into len found.0 h (lt_passes _ _ _ one.0) (lt_passes _ _ _ two.0) found.1 found.2 own)

-- Where a request is not refused for the number of requests, there is room for one more.
pub few_issued : (c d : Context) (l : Gathered) → c ≡ d → l ≡ issued_of c → request_fault d ≡ None → count_of_issued l < most_requests
few_issued c d l same read passes =
    let few = lt_passes (count_of_requests d) most_requests TooManyRequests passes in
    omega (arith, few, ap count_of_requests same, ap count_of_issued read)

pub few_placed : (c d : Context) (l : Gathered) (pid area end : ℕ) → c ≡ d → l ≡ issued_of c → place_fault d pid area end ≡ None → count_of_issued l < most_requests
few_placed c d l pid area end same read passes = few_issued c d l same read (both_pass _ _ passes).0

performed-within : (f r : Option Fault) (c d : Context) → IsContext c → (r ≡ None → IsContext d) → IsContext (performed f r c d)
performed-within (Some f) r c d h k = h
performed-within None (Some f) c d h k =
    record { view = h.view; memory = h.memory; left = h.left; few_requests = h.few_requests; placed = h.placed; asked = h.asked; addressed = h.addressed; popped = h.popped; pushed = h.pushed; tag = h.tag; lines = h.lines; little_work = h.little_work }
performed-within None None c d h k = k refl

perform_all-within : (c : Context) (acts : List Act) → IsContext c → IsContext (perform_all c acts)
perform_all-within c [] h = h
perform_all-within c (a ∷ acts) h = perform_all-within (perform c a) acts (performed-within c.fault (refusal c a) c (done c a) h (done-within c a h))

fresh-within : (v : ViewParts) → IsView v → IsContext (fresh v)
fresh-within v h =
    record {
      view = h;
      memory = refl;
      left = h.queue;
      few_requests = omega arith;
      placed = record { each = All-nil (IsPlaced v) };
      asked = record { each = All-nil (IsAsked v) };
      addressed = record { each = All-nil (IsAddressed v) };
      popped = record { each = All-nil (λ j. j < length v.table); distinct = λ i j d l k. absurd (omega arith) };
      pushed = record { each = All-nil (λ (a : Area). a.start + a.len ≤ length v.memory) };
      tag = tt;
      lines = record { few = omega arith; short = All-nil (λ (line : List ℕ). length line ≤ most_line_words) };
      little_work = omega arith;
    }

halts : (f : Option Fault) (how : End) → IsHaltOnFault f (ended_of f how)
halts None how = tt
halts (Some f) how = refl

closed-within : (c : Context) (how : End) → IsContext c → IsOutcome (closed c how)
closed-within c how h =
    record {
      halts = halts (first_fault c.fault (abort_of how)) how;
      short_memory = omega (arith, h.memory, h.view.short_memory);
      few_requests = h.few_requests;
      sends = record { each = All-weaker (IsAddressed c.view) IsShortSend (λ m a. record { tag = omega (arith, a.tag, h.view.small_tag); words = a.words }) c.sends h.addressed.each };
      tag = h.tag;
      lines = h.lines;
      little_work = h.little_work;
    }

closed-of : (c : Context) (how : End) → IsContext c → IsOutcomeOf c.view (closed c how)
closed-of c how h =
    record { memory = h.memory; issued = record { placed = h.placed; asked = h.asked; addressed = h.addressed; popped = h.popped; pushed = h.pushed } }

-- A turn of a view within the limits leaves an outcome within them.
pub turn_of-limits : (acts : ViewParts → List Act) (ending : ViewParts → End) (v : ViewParts) → IsView v → IsOutcome (turn_of acts ending v)
turn_of-limits acts ending v h = closed-within (perform_all (fresh v) (acts v)) (ending v) (perform_all-within (fresh v) (acts v) (fresh-within v h))

-- Its requests lie inside the areas of the view's table.
pub turn_of-issued : (acts : ViewParts → List Act) (ending : ViewParts → End) (v : ViewParts) → IsView v → IsOutcomeOf v (turn_of acts ending v)
turn_of-issued acts ending v h =
    subst (λ (w : ViewParts). IsOutcomeOf w (turn_of acts ending v)) (perform_all-view (fresh v) (acts v)) (closed-of (perform_all (fresh v) (acts v)) (ending v) (perform_all-within (fresh v) (acts v) (fresh-within v h)))
