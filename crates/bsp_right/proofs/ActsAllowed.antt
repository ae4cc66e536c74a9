-- Acts that pass their checks, and plans from a context on.
use Rattle.std.proofs.Common.{◌+◌, ◌++◌, ◌<◌, ◌==◌, List, None, [], ap, append_assoc, arith, drop, length, length-append, map, nat_le, nat_lt, set, suc, sym, true, zero, ℕ, ◌∙◌, ◌∷◌, ◌≡◌, ◌≤◌}
use Rattle.std.proofs.lemmas.List.{append-nil}
use Rattle.std.proofs.lemmas.Bool.{eq-eqb, le-leb, lt-ltb}
use Rattle.std.specs.List.{range_with_len}
use Rattle.bsp_model.specs.Limits.{most_line_words, most_lines, most_payload_words, most_requests, most_work}
use Rattle.bsp_model.specs.declared.fault.Fault.TheVariants.{BadLocal, BadPid, LineLimit, TagLength, TooLong, TooManyRequests, WorkLimit}
use Rattle.bsp_model.specs.declared.request.Message.{Message}
use Rattle.bsp_model.specs.declared.request.Send.{Send}
use Rattle.bsp_step.specs.Act.{Act, charge, move_into, print, send, store}
use Rattle.bsp_step.specs.Context.{Context}
use Rattle.bsp_step.specs.OutcomeParts.{OutcomeParts}
use Rattle.bsp_step.specs.Perform.{count_of_requests, fault_unless, first_fault, perform, perform_all, performed, queue_fault}
use Rattle.bsp_step.specs.Plan.{Plan, after}
use Rattle.bsp_step.specs.Turn.{closed}
use Rattle.bsp_step.proofs.Performing.{perform_all-append}

-- what a plan leaves that is carried out from this context on
abbrev pub leaves : Context → Plan → OutcomeParts
leaves c plan = closed (perform_all c plan.acts) plan.ending

pub leaves-after : (c : Context) (acts : List Act) (plan : Plan) → leaves c (after acts plan) ≡ leaves (perform_all c acts) plan
leaves-after c acts plan = ap (λ (d : Context). closed d plan.ending) (perform_all-append c acts plan.acts)

pub perform-store : (c : Context) (address value : ℕ) → c.fault ≡ None → address < length c.memory
    → perform c (store address value) ≡ record c { memory = set c.memory address value; stores = c.stores ++ record { addr = address; value = value } ∷ [] }
perform-store c address value faultless inside =
    let there : nat_lt address (length c.memory) ≡ true = lt-ltb address (length c.memory) inside in
    λ i. performed (faultless i) (fault_unless (there i) BadLocal) c (record c { memory = set c.memory address value; stores = c.stores ++ record { addr = address; value = value } ∷ [] })

pub perform-charge : (c : Context) (amount : ℕ) → c.fault ≡ None → c.work + amount ≤ most_work → perform c (charge amount) ≡ record c { work = c.work + amount }
perform-charge c amount faultless little =
    let room = le-leb (c.work + amount) most_work little in
    λ i. performed (faultless i) (fault_unless (room i) WorkLimit) c (record c { work = c.work + amount })

pub perform-print : (c : Context) (words : List ℕ) → c.fault ≡ None → length c.lines < most_lines → length words ≤ most_line_words → perform c (print words) ≡ record c { lines = c.lines ++ words ∷ [] }
perform-print c words faultless few short =
    let room : nat_lt (length c.lines) most_lines ≡ true = lt-ltb (length c.lines) most_lines few in
    let fits : nat_le (length words) most_line_words ≡ true = le-leb (length words) most_line_words short in
    λ i. performed (faultless i) (first_fault (fault_unless (room i) LineLimit) (fault_unless (fits i) TooLong)) c (record c { lines = c.lines ++ words ∷ [] })

pub perform-move : (c : Context) (room : ℕ) (m : Message) (later : List Message) → c.fault ≡ None → c.left ≡ m ∷ later → perform c (move_into room) ≡ record c { left = later }
perform-move c room m later faultless is =
    λ i. performed (faultless i) (queue_fault (is i)) c (record c { left = drop 1 (is i) })

pub perform-send : (c : Context) (pid : ℕ) (tag words : List ℕ) → c.fault ≡ None → count_of_requests c < most_requests → pid < c.view.nprocs → length tag ≡ c.view.tag_size → length words ≤ most_payload_words
    → perform c (send pid tag words) ≡ record c { sends = c.sends ++ record { target = pid; tag = tag; words = words } ∷ [] }
perform-send c pid tag words faultless few known sized short =
    let room : nat_lt (count_of_requests c) most_requests ≡ true = lt-ltb (count_of_requests c) most_requests few in
    let below : nat_lt pid c.view.nprocs ≡ true = lt-ltb pid c.view.nprocs known in
    let same : (length tag == c.view.tag_size) ≡ true = eq-eqb (length tag) c.view.tag_size sized in
    let fits : nat_le (length words) most_payload_words ≡ true = le-leb (length words) most_payload_words short in
    λ i. performed (faultless i) (first_fault (fault_unless (room i) TooManyRequests) (first_fault (fault_unless (below i) (BadPid pid)) (first_fault (fault_unless (same i) TagLength) (fault_unless (fits i) TooLong)))) c
    (record c { sends = c.sends ++ record { target = pid; tag = tag; words = words } ∷ [] })

-- a message to a process
abbrev pub message_to : List ℕ → List ℕ → ℕ → Send
message_to tag words pid = record { target = pid; tag = tag; words = words }

-- One message to each of the processes from k on.
pub perform_all-sends : (tag words : List ℕ) (m k : ℕ) (c : Context) → c.fault ≡ None → count_of_requests c + m ≤ most_requests → k + m ≤ c.view.nprocs → length tag ≡ c.view.tag_size → length words ≤ most_payload_words
    → perform_all c (map (λ pid. send pid tag words) (range_with_len k m)) ≡ record c { sends = c.sends ++ map (message_to tag words) (range_with_len k m) }
perform_all-sends tag words zero k c faultless few known sized short = ap (λ ms. record c { sends = ms }) (sym (append-nil c.sends))
perform_all-sends tag words (suc m) k c faultless few known sized short =
    let next : Context = record c { sends = c.sends ++ message_to tag words k ∷ [] } in
    let count : count_of_requests next ≡ count_of_requests c + 1 = omega (arith, length-append c.sends (message_to tag words k ∷ [])) in
    ap (λ d. perform_all d (map (λ pid. send pid tag words) (range_with_len (k + 1) m))) (perform-send c k tag words faultless (omega arith) (omega arith) sized short)
    ∙ perform_all-sends tag words m (k + 1) next faultless (omega arith) (omega arith) sized short
    ∙ ap (λ ms. record c { sends = ms }) (append_assoc c.sends (message_to tag words k ∷ []) (map (message_to tag words) (range_with_len (k + 1) m)))
