-- Laws of acts in order, for loops and sequences of calls that keep what is left to do.
use Rattle.std.proofs.Common.{◌≡◌, List, ◌∷◌, ◌++◌, Err, length, ap, sym, refl, ◌∙◌}
use Rattle.bsp_step.specs.declared.stop.Stop.{Stop}
use Rattle.bsp_step.specs.Context.{Context}
use Rattle.bsp_step.specs.Act.{Act}
use Rattle.bsp_step.specs.Perform.{perform_all}
use Rattle.bsp_step.specs.declared.stop.Stop.TheVariants.{Fault, OutOfMemory}
use Rattle.bsp_step.specs.Calls.{Stops, StopsByFault, PerformsAll, RunStops}
use Rattle.bsp_step.proofs.Performing.{RunStops-at_act, RunStops-at_part, perform_all-append, perform_all-view, perform_all-length}

-- Of the acts that the context start performs, the context now has only the rest left to do. Its view and the length of its memory are those of the start.
pub record HasLeft (start : Context) (acts : List Act) (now : Context) (rest : List Act) : Type 0 where
  pub left : perform_all start acts ≡ perform_all now rest
  pub view : now.view ≡ start.view
  pub same_length : length now.memory ≡ length start.memory

pub HasLeft-all : (start : Context) (acts : List Act) → HasLeft start acts start acts
HasLeft-all start acts = record { left = refl; view = refl; same_length = refl }

pub HasLeft-at_part : {start now new : Context} {acts rest : List Act} → (part : List Act) → HasLeft start acts now (part ++ rest) → new ≡ perform_all now part → HasLeft start acts new rest
HasLeft-at_part {now = now} {rest = rest} part h acted =
    record {
      left = h.left ∙ perform_all-append now part rest ∙ ap (λ (d : Context). perform_all d rest) (sym acted);
      view = ap (λ (d : Context). d.view) acted ∙ perform_all-view now part ∙ h.view;
      same_length = ap (λ (d : Context). length d.memory) acted ∙ perform_all-length now part ∙ h.same_length;
    }

pub HasLeft-same : {start now : Context} {acts rest other : List Act} → HasLeft start acts now rest → rest ≡ other → HasLeft start acts now other
HasLeft-same {now = now} h e = record { left = h.left ∙ ap (perform_all now) e; view = h.view; same_length = h.same_length }

-- a call that stops ends the run
pub RunStops-left : {start now : Context} {acts rest : List Act} {a : Act} → (new : Context) (e : Stop) → HasLeft start acts now (a ∷ rest) → Stops now a new e → RunStops start acts new e
RunStops-left {start} {now} {acts} {rest} {a} new e h stopped = RunStops-at_act start now new acts a rest e h.left stopped

-- so does a part that stops
pub RunStops-left_part : {start now : Context} {acts : List Act} → (new : Context) (part rest : List Act) (e : Stop) → HasLeft start acts now (part ++ rest) → RunStops now part new e → RunStops start acts new e
RunStops-left_part {start} {now} {acts} new part rest e h stopped = RunStops-at_part start now new acts part rest e h.left stopped

-- a call that takes no memory stops by a fault
pub Stops-by_fault : (now : Context) (a : Act) (new : Context) (e : Stop) → StopsByFault now a new e → Stops now a new e
Stops-by_fault now a new (Fault f) stopped = stopped
Stops-by_fault now a new OutOfMemory stopped = absurd stopped

-- a call for several acts that stops
pub PerformsAll-stops : (T : Type 0) (old : Context) (acts : List Act) (new : Context) (e : Stop) → PerformsAll {T = T} old acts new (Err e) → RunStops old acts new e
PerformsAll-stops T old acts new (Fault f) stopped = stopped
PerformsAll-stops T old acts new OutOfMemory stopped = tt
