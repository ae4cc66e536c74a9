-- Laws of instructions in order, for the loop that keeps what is left to do.
use Rattle.std.proofs.Common.{◌≡◌, ℕ, suc, List, None, Some, Option, ap, sym, refl, ◌∙◌}
use Rattle.std.specs.Prelude.{slice_get, Ok, Err}
use Rattle.bsp_model.specs.declared.fault.End.{End}
use Rattle.bsp_model.specs.declared.fault.End.TheVariants.{Sync, Abort}
use Rattle.bsp_step.specs.declared.stop.Stop.{Stop}
use Rattle.bsp_step.specs.declared.stop.Stop.TheVariants.{Fault, OutOfMemory}
use Rattle.bsp_step.specs.Calls.{RunStops}
use Rattle.bsp_step.specs.Context.{Context}
use Rattle.bsp_step.specs.Act.{Act}
use Rattle.bsp_step.specs.Perform.{perform_all}
use Rattle.bsp_step.specs.Plan.{Plan}
use Rattle.bsp_step.proofs.Running.{HasLeft, HasLeft-all, HasLeft-same, HasLeft-at_part, RunStops-left_part}
use Rattle.bsp_kernels.specs.declared.exit.Exit.{Exit}
use Rattle.bsp_kernels.specs.declared.exit.Exit.TheVariants.{Ended, Stopped}
use Rattle.bsp_kernels.specs.declared.instruction.Instruction.{Instruction}
use Rattle.bsp_kernels.specs.declared.machine.Machine.{Machine}
use Rattle.bsp_kernels.specs.Inside.Making.{Leaves, Makes, state_at}
use Rattle.bsp_kernels.specs.Machine.{State, effect, followed, plan_from}

-- Of a plan that begins at a context, the context now has only the rest left, which ends in the same way.
pub record Continues (start : Context) (plan : Plan) (now : Context) (rest : Plan) : Type 0 where
  pub acts : HasLeft start plan.acts now rest.acts
  pub ending : plan.ending ≡ rest.ending

pub Continues-all : (start : Context) (plan : Plan) → Continues start plan start plan
Continues-all start plan = record { acts = HasLeft-all start plan.acts; ending = refl }

pub Continues-same : {start now : Context} {plan rest other : Plan} → Continues start plan now rest → rest ≡ other → Continues start plan now other
Continues-same h e =
    record {
      acts = HasLeft-same h.acts (ap (λ (p : Plan). p.acts) e);
      ending = h.ending ∙ ap (λ (p : Plan). p.ending) e;
    }

-- the plan that is left may be written in another way
pub Continues-from : (start : Context) {plan middle rest : Plan} → plan ≡ middle → middle ≡ rest → Continues start plan start rest
Continues-from start {plan} first second = Continues-same (Continues-all start plan) (first ∙ second)

-- once a part that doesn't end the turn is made, the rest is left
Continues-after : {start now : Context} {plan : Plan} → (new : Context) (part : List Act) (ending : Option End) (rest : Plan) → Continues start plan now (followed part ending rest) → ending ≡ None → new ≡ perform_all now part → Continues start plan new rest
Continues-after new part (Some how) rest h goes acted = let no : ⊥ = cc in absurd no
Continues-after new part None rest h goes acted = record { acts = HasLeft-at_part part h.acts acted; ending = h.ending }

stops : (start now new : Context) (plan : Plan) (part : List Act) (stop : Stop) → perform_all start plan.acts ≡ perform_all now part → RunStops now part new stop → RunStops start plan.acts new stop
stops start now new plan part (Fault f) h stopped = (stopped.0 ∙ sym h, stopped.1)
stops start now new plan part OutOfMemory h stopped = tt

-- a part that leaves the turn leaves the plan
Leaves-after : {start now : Context} {plan : Plan} → (new : Context) (part : List Act) (ending : Option End) (next : State) (rest : Plan) (m : Machine) (exit : Exit) → Continues start plan now (followed part ending rest) → Makes now (record { acts = part; ending = ending; next = next }) new m (Err exit) → Leaves start plan new exit
Leaves-after new part (Some how) next rest m (Ended other) h left = let same : other ≡ how = cc in (left.0 ∙ sym h.acts.left, same ∙ sym h.ending)
Leaves-after new part None next rest m (Ended other) h left = let no : ⊥ = cc in absurd no
Leaves-after {start} {now} {plan} new part (Some how) next rest m (Stopped stop) h left = stops start now new plan part stop h.acts.left left
Leaves-after new part None next rest m (Stopped stop) h left = RunStops-left_part new part rest.acts stop h.acts left

-- the plan from a state on, where at least one more instruction may be followed
plan_from-more : (code : List Instruction) (n m : ℕ) (s : State) (here : Option Instruction) → n ≡ suc m → slice_get code s.place ≡ here → plan_from code n s ≡ followed (effect s here).acts (effect s here).ending (plan_from code m (effect s here).next)
plan_from-more code n m s here count is =
    ap (λ k. plan_from code k s) count
    ∙ ap (λ (o : Option Instruction). followed (effect s o).acts (effect s o).ending (plan_from code m (effect s o).next)) is

-- an instruction is followed, and the turn goes on
pub Continues-step : {start now : Context} {plan : Plan} → (code : List Instruction) (n m place : ℕ) (old : Machine) (i : Instruction) (new : Context) (next : ℕ) (after : Machine) → Continues start plan now (plan_from code n (state_at old now place)) → n ≡ suc m → slice_get code place ≡ Some i → Makes now (effect (state_at old now place) (Some i)) new after (Ok next) → Continues start plan new (plan_from code m (state_at after new next))
Continues-step {now = now} code n m place old i new next after h count is made =
    let e = effect (state_at old now place) (Some i) in
    Continues-same
    (Continues-after new e.acts e.ending (plan_from code m e.next) (Continues-same h (plan_from-more code n m (state_at old now place) (Some i) count is)) made.1 made.0)
    (ap (plan_from code m) (sym made.2))

-- an instruction leaves the turn
pub Leaves-step : {start now : Context} {plan : Plan} → (code : List Instruction) (n m place : ℕ) (old : Machine) (i : Instruction) (new : Context) (after : Machine) (exit : Exit) → Continues start plan now (plan_from code n (state_at old now place)) → n ≡ suc m → slice_get code place ≡ Some i → Makes now (effect (state_at old now place) (Some i)) new after (Err exit) → Leaves start plan new exit
Leaves-step {now = now} code n m place old i new after exit h count is made =
    let e = effect (state_at old now place) (Some i) in
    Leaves-after new e.acts e.ending e.next (plan_from code m e.next) after exit (Continues-same h (plan_from-more code n m (state_at old now place) (Some i) count is)) made

-- there is no further instruction
pub Leaves-past : {start now : Context} {plan : Plan} → (code : List Instruction) (n m place : ℕ) (old : Machine) → Continues start plan now (plan_from code n (state_at old now place)) → n ≡ suc m → slice_get code place ≡ None → Leaves start plan now (Ended Sync)
Leaves-past {now = now} code n m place old h count is =
    let left = Continues-same h (plan_from-more code n m (state_at old now place) None count is) in
    (sym left.acts.left, sym left.ending)

-- no further instruction may be followed
pub Leaves-over : {start now : Context} {plan : Plan} → (code : List Instruction) (n : ℕ) (s : State) → Continues start plan now (plan_from code n s) → n ≡ 0 → Leaves start plan now (Ended (Abort 6))
Leaves-over {now = now} code n s h none =
    let left = Continues-same h (ap (λ k. plan_from code k s) none) in
    (sym left.acts.left, sym left.ending)
