-- The supersteps of heat in a rod, and the run that they make.
use Rattle.std.proofs.Common.{◌≡◌, ◌≤◌, ◌<◌, ◌+◌, ◌-◌, ◌∙◌, ℕ, zero, suc, List, None, Some, [], length, get_or, arith, ap, refl, sym}
use Rattle.std.specs.Prelude.{slice_get}
use Rattle.bsp_model.specs.declared.input.Input.{Input}
use Rattle.bsp_model.specs.declared.request.Store.{Store}
use Rattle.bsp_model.proofs.Inputs.{lawful_input}
use Rattle.bsp_step.specs.OutcomeParts.{OutcomeParts}
use Rattle.bsp_run.specs.declared.result.Status.TheVariants.{Halted}
use Rattle.bsp_run.specs.Law.{end_in, state_at}
use Rattle.bsp_run.specs.Run.{run}
use Rattle.bsp_right.proofs.AreasPushed.{goes_on_pushing}
use Rattle.bsp_right.proofs.DescribedStates.{described, no_queue, view_described}
use Rattle.bsp_right.proofs.NextSuperstep.{GoesOn, Halts, first-described, goes_on, halts}
use Rattle.bsp_right.proofs.RunsFromSupersteps.{ended_at, run-ended}
use Rattle.bsp_right.proofs.WordsWritten.{next_memory-is, written_by-none}
use Rattle.heat.specs.Heat.{own_cells}
use Rattle.heat.specs.Rod.{IsRodInput, advanced, heat_turn, piece_of, rod_of}
use Rattle.heat.proofs.Pieces.{AreDealt, Hold, Hold-dealt, Hold-stepped, length-piece_of, stepped}
use Rattle.heat.proofs.CellsPut.{cells_put}
use Rattle.heat.proofs.HeatTurns.{cells_stored, end_words, prints, registers, rod_table, tells, then_prints, then_puts, then_tells, turn_first, turn_later, turn_registers}

abbrev pub first_of : Input → ℕ → List ℕ
first_of input p = get_or input.mems p []

-- the rod after t time steps
abbrev pub rod_after : Input → ℕ → List ℕ
rod_after input t = advanced (rod_of input.mems) t

-- the memory that process p sees in superstep t + 1, and how its turn leaves it: with the cells of the rod after t time steps
abbrev pub memory_seen : Input → ℕ → ℕ → List ℕ
memory_seen input zero p = first_of input p
memory_seen input (suc t) p = piece_of input.mems (rod_after input t) p

abbrev pub memory_left : Input → ℕ → ℕ → List ℕ
memory_left input zero p = first_of input p
memory_left input (suc t) p = stepped (piece_of input.mems (rod_after input t) p)

abbrev pub stores_left : Input → ℕ → ℕ → List Store
stores_left input zero p = []
stores_left input (suc t) p = cells_stored (piece_of input.mems (rod_after input t) p)

abbrev pub work_left : Input → ℕ → ℕ → ℕ
work_left input zero p = 0
work_left input (suc t) p = length (piece_of input.mems (rod_after input t) p) - 2

-- the outcomes of superstep t + 1
abbrev pub told : Input → ℕ → ℕ → OutcomeParts
told input t p = tells input.mems (memory_left input t p) (stores_left input t p) (work_left input t p) p

abbrev pub printed : Input → ℕ → ℕ → OutcomeParts
printed input t p = prints (memory_left input t p) (stores_left input t p) (work_left input t p)

pub dealt_input : (input : Input) (steps : ℕ) → IsRodInput input steps → AreDealt input.mems
dealt_input input steps h = record { some = (lawful_input input h.lawful).some_process; words = λ p l. h.words p [] l }

pub Hold-left : (input : Input) (steps : ℕ) → IsRodInput input steps → (t : ℕ) → Hold input.mems (rod_after input t) (memory_left input t)
unfolding advanced
Hold-left input steps h zero = Hold-dealt input.mems (dealt_input input steps h)
Hold-left input steps h (suc t) = Hold-stepped input.mems (rod_after input t) (dealt_input input steps h) (Hold-left input steps h t).long

pub length-seen : (input : Input) (steps : ℕ) → IsRodInput input steps → (t p : ℕ) → p < length input.mems → length (memory_seen input t p) ≡ length (first_of input p)
length-seen input steps h zero p l = refl
length-seen input steps h (suc t) p l = length-piece_of input.mems (rod_after input t) p (dealt_input input steps h) (Hold-left input steps h t).long l

named_input : (input : Input) (steps : ℕ) → IsRodInput input steps → (p : ℕ) → p < length input.mems → slice_get (get_or input.args p []) 0 ≡ Some steps
named_input input steps h p l = h.named p [] (omega (arith, (lawful_input input h.lawful).same_count))

-- the turn of superstep t + 1 makes time step t
steps_on : (input : Input) (steps : ℕ) → IsRodInput input steps → (t p : ℕ) → p < length input.mems
    → heat_turn (view_described input.args (suc t) (length input.mems) (memory_seen input t) no_queue (rod_table input.mems) 0 p)
    ≡ then_tells (view_described input.args (suc t) (length input.mems) (memory_seen input t) no_queue (rod_table input.mems) 0 p) steps (memory_left input t p) (stores_left input t p) (work_left input t p) (own_cells (memory_left input t p))
steps_on input steps h zero p l =
    turn_first input.args (length input.mems) steps (first_of input) (rod_table input.mems) p (named_input input steps h p l) (h.words p [] l)
steps_on input steps h (suc t) p l =
    let size : length (memory_seen input (suc t) p) ≡ length (first_of input p) = length-seen input steps h (suc t) p l in
    turn_later input.args (suc (suc t)) (length input.mems) steps (memory_seen input (suc t)) (rod_table input.mems) p (omega arith) (named_input input steps h p l) (omega (arith, size, h.words p [] l))
    (omega (arith, size, (lawful_input input h.lawful).short_memories p [] l))

pub step_zero : (input : Input) (steps : ℕ) → IsRodInput input steps → GoesOn heat_turn input 0 (length input.mems) (first_of input) (rod_table input.mems) 0 (registers (first_of input))
step_zero input steps h =
    let n = length input.mems in
    goes_on_pushing heat_turn input 0 n (first_of input) (first_of input) no_queue [] 0 2 (λ p. end_words (first_of input p)) (registers (first_of input))
    (first-described heat_turn input)
    (λ p l. turn_registers input.args n steps (first_of input) p (named_input input steps h p l) (h.words p [] l))
    (record { some = (lawful_input input h.lawful).some_process; counts = λ p _. refl; faultless = λ p _. refl; syncs = λ p _. refl; pops = λ p _. refl; pushes = λ p _. refl; tags = λ p _. refl })
    (omega arith) (λ p _. refl)
    (λ d l. next_memory-is n d (registers (first_of input)) (first_of input d) l refl refl (λ a _. written_by-none d a (registers (first_of input)) n 0 (get_or (first_of input d) a 0) (λ p _ _. refl)))

pub step_more : (input : Input) (steps t : ℕ) → IsRodInput input steps → t < steps → state_at heat_turn input (suc t) ≡ described (length input.mems) (memory_seen input t) no_queue (rod_table input.mems) 0
    → GoesOn heat_turn input (suc t) (length input.mems) (memory_seen input (suc t)) (rod_table input.mems) 0 (told input t)
step_more input steps t h less is =
    let n = length input.mems in
    let dealt = dealt_input input steps h in
    let held = Hold-left input steps h t in
    goes_on heat_turn input (suc t) n (memory_seen input t) (memory_seen input (suc t)) no_queue (rod_table input.mems) 0 [] (told input t)
    is
    (λ p l. steps_on input steps h t p l
    ∙ then_puts input.mems input.args (suc t) steps (memory_seen input t) (memory_left input t p) (stores_left input t p) (work_left input t p) p dealt l (held.lengths p l) (omega arith))
    (record { some = dealt.some; faultless = λ p _. refl; syncs = λ p _. refl; pops = λ p _. refl; pushes = λ p _. refl; tags = λ p _. refl })
    (omega arith) (λ p _. refl)
    (λ d l. let size : length (memory_seen input (suc t) d) ≡ length (first_of input d) = length-seen input steps h (suc t) d l in
    next_memory-is n d (told input t) (memory_seen input (suc t) d) l refl (size ∙ sym (held.lengths d l)) (λ a m.
    cells_put input.mems (rod_after input t) (memory_left input t) (told input t) dealt held (record { puts = λ p _. refl }) d a l (omega arith)))

pub state_after : (input : Input) (steps : ℕ) → IsRodInput input steps → (t : ℕ) → t ≤ steps → state_at heat_turn input (suc t) ≡ described (length input.mems) (memory_seen input t) no_queue (rod_table input.mems) 0
state_after input steps h zero l = (step_zero input steps h).state
state_after input steps h (suc t) l =
    let e : suc (suc t) ≡ suc t + 1 = omega arith in
    ap (state_at heat_turn input) e ∙ (step_more input steps t h (omega arith) (state_after input steps h t (omega arith))).state

-- the superstep that makes time step t
pub step_at : (input : Input) (steps t : ℕ) → IsRodInput input steps → t < steps → GoesOn heat_turn input (suc t) (length input.mems) (memory_seen input (suc t)) (rod_table input.mems) 0 (told input t)
step_at input steps t h less = step_more input steps t h less (state_after input steps h t (omega arith))

delivers : (input : Input) (steps : ℕ) → IsRodInput input steps → (j : ℕ) → j < suc steps → end_in heat_turn input j ≡ None
delivers input steps h zero l = (step_zero input steps h).end
delivers input steps h (suc t) l = (step_at input steps t h (omega arith)).end

pub last_step : (input : Input) (steps : ℕ) → IsRodInput input steps → Halts heat_turn input (suc steps) (length input.mems) (printed input steps)
last_step input steps h =
    let n = length input.mems in
    halts heat_turn input (suc steps) n (memory_seen input steps) no_queue (rod_table input.mems) 0 (printed input steps)
    (state_after input steps h steps (omega arith))
    (λ p l. steps_on input steps h steps p l ∙ then_prints input.mems input.args (suc steps) steps (memory_seen input steps) (memory_left input steps p) (stores_left input steps p) (work_left input steps p) p (omega arith))
    (record { some = (lawful_input input h.lawful).some_process; faultless = λ p _. refl; halts = λ p _. refl })

-- The run of heat in a rod ends with the superstep after its last time step.
pub heat_run : (input : Input) (steps : ℕ) → IsRodInput input steps → run heat_turn input ≡ ended_at heat_turn input (suc steps) Halted
heat_run input steps h =
    run-ended heat_turn input (suc steps) (input.limit - (steps + 2)) Halted (omega (arith, h.room)) (delivers input steps h) (last_step input steps h).end
