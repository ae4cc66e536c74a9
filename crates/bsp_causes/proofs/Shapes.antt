-- Runs of inputs with as many processes.
use Rattle.std.proofs.Common.{◌≡◌, ◌<◌, ℕ, List, length, arith, sym, ap, ◌∙◌, inl, inr}
use Rattle.std.proofs.lemmas.Bool.{cases_lt}
use Rattle.bsp_model.specs.declared.input.Input.{Input}
use Rattle.bsp_step.specs.ViewParts.{ViewParts}
use Rattle.bsp_step.specs.OutcomeParts.{OutcomeParts}
use Rattle.bsp_run.specs.declared.superstep.Superstep.{Superstep}
use Rattle.bsp_run.specs.Run.{Run}
use Rattle.bsp_run.specs.Supersteps.{superstep_at}
use Rattle.bsp_run.specs.Law.{IsBspRun, outcomes_in}
use Rattle.bsp_run.proofs.Laws.{superstep_at-past_end}
use Rattle.bsp_run.proofs.OneRun.{front}
use Rattle.bsp_run.proofs.Records.{count-outcomes_in}
use Rattle.bsp_incr.specs.declared.reply.Place.{Place}
use Rattle.bsp_incr.specs.Exact.{HasDelivery}
use Rattle.bsp_causes.specs.DeliveryCauses.{HaveAsMany}

-- a place with a delivery is in a superstep
pub step_there : (ss : List Superstep) (place : Place) → HasDelivery ss place → place.step < length ss
step_there ss place h =
    elim (cases_lt place.step (length ss)) [
      | inl l ↦ l
      | inr m ↦ let none = ap (λ (x : Superstep). length x.outcomes) (superstep_at-past_end ss place.step m) in absurd (omega (arith, h, none))
    ]

-- what the turns left in a superstep that ended by delivery
pub delivered_there : (turn : ViewParts → OutcomeParts) (input : Input) (r : Run) (s : ℕ) → IsBspRun turn input r → s < length r.past → (superstep_at r.past s).outcomes ≡ outcomes_in turn input s
delivered_there turn input r s law l = let at = front r s l in ap (λ (x : Superstep). x.outcomes) (sym at.1) ∙ law.outcomes s at.0

-- it has an outcome for each process
pub count_delivered : (turn : ViewParts → OutcomeParts) (input : Input) (r : Run) (place : Place) → IsBspRun turn input r → HasDelivery r.past place → length (superstep_at r.past place.step).outcomes ≡ length input.mems
count_delivered turn input r place law h =
    ap (λ (os : List OutcomeParts). length os) (delivered_there turn input r place.step law (step_there r.past place h)) ∙ count-outcomes_in turn input place.step

-- So where two runs of inputs with as many processes have a delivery, they have as many there.
pub have_as_many : (turn : ViewParts → OutcomeParts) (i j : Input) (old new : Run) (place : Place) → IsBspRun turn i old → IsBspRun turn j new → length i.mems ≡ length j.mems → HasDelivery new.past place → HaveAsMany old.past new.past place
have_as_many turn i j old new place before after many here there =
    count_delivered turn i old place before there ∙ many ∙ sym (count_delivered turn j new place after here)
