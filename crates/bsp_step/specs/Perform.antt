-- What each act makes of the state of a turn, and which check refuses it.
use Rattle.std.specs.Prelude.{ℕ, Bool, List, [], ◌∷◌, ◌++◌, Option, None, Some, ◌+◌, length, nat_lt, nat_le, ◌==◌, if◌then◌else◌, slice_set, drop}
use Rattle.bsp_model.specs.Limits.{most_lines, most_line_words, most_payload_words, most_requests, most_tag_words, most_work}
use Rattle.bsp_model.specs.declared.request.Message.{Message}
use Rattle.bsp_model.specs.declared.fault.Fault.{Fault}
use Rattle.bsp_model.specs.declared.fault.Fault.TheVariants.{BadPid, NotRegistered, OutOfArea, BadLocal, TooManyRequests, WorkLimit, LineLimit, TooLong, TagLength, EmptyQueue, BadTagSize}
use Rattle.bsp_table.specs.declared.area.Area.{Area}
use Rattle.bsp_table.specs.Table.{newest, newest_under, area_at}
use Rattle.bsp_step.specs.ViewParts.{ViewParts}
use Rattle.bsp_step.specs.Context.{Context}
use Rattle.bsp_step.specs.Act.{Act, store, charge, put, get, send, move_into, push_reg, pop_reg, set_tagsize, print}

-- the target's area in the newest slot that the caller names
abbrev pub target_area : ViewParts → ℕ → ℕ → Option Area
target_area v pid area = area_at v.table (newest v.table v.pid area) pid

-- puts, gets, sends, pushes and pops together
abbrev pub count_of_requests : Context → ℕ
count_of_requests c = length c.puts + length c.gets + length c.sends + length c.pops + length c.pushes

-- the first fault, else the second
abbrev pub first_fault : Option Fault → Option Fault → Option Fault
first_fault (Some f) g = Some f
first_fault None g = g

abbrev pub fault_unless : Bool → Fault → Option Fault
fault_unless b f = if b then None else Some f

abbrev pub area_fault : Option Area → ℕ → ℕ → Option Fault
area_fault None area end = Some (NotRegistered area)
area_fault (Some a) area end = fault_unless (nat_le end a.len) OutOfArea

abbrev pub queue_fault : List Message → Option Fault
queue_fault [] = Some EmptyQueue
queue_fault (m ∷ later) = None

abbrev pub slot_fault : Option ℕ → ℕ → Option Fault
slot_fault None start = Some (NotRegistered start)
slot_fault (Some slot) start = None

abbrev pub request_fault : Context → Option Fault
request_fault c = fault_unless (nat_lt (count_of_requests c) most_requests) TooManyRequests

-- The first check of an act that fails, if one does: the checks of each call from left to right (this profile). Sums don't wrap.
abbrev pub refusal : Context → Act → Option Fault
refusal c (store a v) = fault_unless (nat_lt a (length c.memory)) BadLocal
refusal c (charge n) = fault_unless (nat_le (c.work + n) most_work) WorkLimit
refusal c (put pid words area offset) =
    first_fault (request_fault c)
    (first_fault (fault_unless (nat_lt pid c.view.nprocs) (BadPid pid))
    (area_fault (target_area c.view pid area) area (offset + length words)))
refusal c (get pid area offset into len) =
    first_fault (request_fault c)
    (first_fault (fault_unless (nat_lt pid c.view.nprocs) (BadPid pid))
    (first_fault (area_fault (target_area c.view pid area) area (offset + len))
    (fault_unless (nat_le (into + len) (length c.memory)) BadLocal)))
refusal c (send pid tag words) =
    first_fault (request_fault c)
    (first_fault (fault_unless (nat_lt pid c.view.nprocs) (BadPid pid))
    (first_fault (fault_unless (length tag == c.view.tag_size) TagLength)
    (fault_unless (nat_le (length words) most_payload_words) TooLong)))
refusal c (move_into room) = queue_fault c.left
refusal c (push_reg start len) =
    first_fault (request_fault c) (fault_unless (nat_le (start + len) (length c.memory)) BadLocal)
refusal c (pop_reg start) =
    first_fault (request_fault c) (slot_fault (newest_under c.view.table c.view.pid start c.pops) start)
refusal c (set_tagsize size) = fault_unless (nat_le size most_tag_words) BadTagSize
refusal c (print words) =
    first_fault (fault_unless (nat_lt (length c.lines) most_lines) LineLimit) (fault_unless (nat_le (length words) most_line_words) TooLong)

abbrev pub start_of : Option Area → ℕ
start_of None = 0
start_of (Some a) = a.start

abbrev pub found_slot : Option ℕ → List ℕ
found_slot None = []
found_slot (Some slot) = slot ∷ []

-- The act, where all its checks pass (Hill et al. 1998). Puts and gets are kept resolved to process and start word.
abbrev pub done : Context → Act → Context
done c (store a v) = record c { memory = slice_set c.memory a v; stores = c.stores ++ record { addr = a; value = v } ∷ [] }
done c (charge n) = record c { work = c.work + n }
done c (put pid words area offset) =
    record c { puts = c.puts ++ record { target = pid; start = start_of (target_area c.view pid area) + offset; words = words } ∷ [] }
done c (get pid area offset into len) =
    record c { gets = c.gets ++ record { owner = pid; start = start_of (target_area c.view pid area) + offset; len = len; into = into } ∷ [] }
done c (send pid tag words) = record c { sends = c.sends ++ record { target = pid; tag = tag; words = words } ∷ [] }
done c (move_into room) = record c { left = drop 1 c.left }
done c (push_reg start len) = record c { pushes = c.pushes ++ record { start = start; len = len } ∷ [] }
done c (pop_reg start) = record c { pops = c.pops ++ found_slot (newest_under c.view.table c.view.pid start c.pops) }
done c (set_tagsize size) = record c { tag = Some size }
done c (print words) = record c { lines = c.lines ++ words ∷ [] }

abbrev pub performed : Option Fault → Option Fault → Context → Context → Context
performed (Some f) refused c d = c
performed None (Some f) c d = record c { fault = Some f }
performed None None c d = d

-- An act: nothing where a fault is kept; else the first check that fails is kept as the fault; else the act itself (this profile).
abbrev pub perform : Context → Act → Context
perform c a = performed c.fault (refusal c a) c (done c a)

-- acts in order
abbrev pub perform_all : Context → List Act → Context
perform_all c [] = c
perform_all c (a ∷ later) = perform_all (perform c a) later
