-- The run of a program on a lawful input keeps what every run keeps.
use Rattle.std.proofs.Common.{◌≡◌, ℕ, zero, suc, Bool, true, false, List, None, map, refl, sym, subst}
use Rattle.bsp_model.specs.declared.input.Input.{Input}
use Rattle.bsp_model.specs.Input.{input_fault}
use Rattle.bsp_model.specs.declared.fault.End.{End}
use Rattle.bsp_model.proofs.Inputs.{lawful_input}
use Rattle.bsp_step.specs.Act.{Act}
use Rattle.bsp_step.specs.Turn.{turn_of}
use Rattle.bsp_step.specs.ViewParts.{ViewParts}
use Rattle.bsp_run.specs.Run.{Run, start, open_views, after_turns, advance, times, run}
use Rattle.bsp_run.specs.Condition.{IsRun, is_open, is_turned}
use Rattle.bsp_run.proofs.Opens.{start_is_run}
use Rattle.bsp_run.proofs.Phases.{turned_is_run, next_is_run}
use Rattle.bsp_run.proofs.Runs.{advance-closed, advance-delivers, advance-ends, open_phase, turned_phase_is}
use Rattle.bsp_run.proofs.Turns.{AreOutcomesOf-turns, views_within}

opened_is_run : (acts : ViewParts → List Act) (ending : ViewParts → End) (r : Run) (b : Bool) → IsRun r → is_open r.phase ≡ true → is_turned (after_turns r (map (turn_of acts ending) (open_views r))).phase ≡ b
    → IsRun (advance (turn_of acts ending) r)
opened_is_run acts ending r true h begun e =
    let turned = turned_is_run r (map (turn_of acts ending) (open_views r)) h (open_phase r.phase begun) (AreOutcomesOf-turns acts ending (open_views r) (views_within r h)) in
    subst IsRun (sym (advance-delivers (turn_of acts ending) r (open_phase r.phase begun) e)) (next_is_run (after_turns r (map (turn_of acts ending) (open_views r))) turned (turned_phase_is _ e))
opened_is_run acts ending r false h begun e =
    let turned = turned_is_run r (map (turn_of acts ending) (open_views r)) h (open_phase r.phase begun) (AreOutcomesOf-turns acts ending (open_views r) (views_within r h)) in
    subst IsRun (sym (advance-ends (turn_of acts ending) r (open_phase r.phase begun) e)) turned

advance_is_run : (acts : ViewParts → List Act) (ending : ViewParts → End) (r : Run) (b : Bool) → IsRun r → is_open r.phase ≡ b → IsRun (advance (turn_of acts ending) r)
advance_is_run acts ending r true h e = opened_is_run acts ending r _ h e refl
advance_is_run acts ending r false h e = subst IsRun (sym (advance-closed (turn_of acts ending) r e)) h

times_is_run : (acts : ViewParts → List Act) (ending : ViewParts → End) (n : ℕ) (r : Run) → IsRun r → IsRun (times n (advance (turn_of acts ending)) r)
times_is_run acts ending zero r h = h
times_is_run acts ending (suc n) r h = times_is_run acts ending n (advance (turn_of acts ending) r) (advance_is_run acts ending r _ h refl)

pub run_is_run : (acts : ViewParts → List Act) (ending : ViewParts → End) (input : Input) → input_fault input ≡ None → IsRun (run (turn_of acts ending) input)
unfolding run
run_is_run acts ending input lawful = times_is_run acts ending input.limit (start input) (start_is_run input (lawful_input input lawful))
