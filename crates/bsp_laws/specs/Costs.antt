-- What updates cost beside whole runs (this profile).
use Rattle.std.specs.Prelude.{◌≡◌, ◌≢◌, ◌⊎◌, ◌<◌, ◌≤◌, ◌+◌, ◌*◌, ℕ, Bool, List, [], ◌∷◌, Option, None, Some, All, Contains, length, slice_index_or}
use Rattle.bsp_model.specs.declared.cost.CostRow.{CostRow}
use Rattle.bsp_model.specs.declared.input.Input.{Input}
use Rattle.bsp_model.specs.Input.{input_fault}
use Rattle.bsp_model.specs.declared.fault.End.{End}
use Rattle.bsp_model.specs.declared.request.Get.{Get}
use Rattle.bsp_model.specs.declared.request.Put.{Put}
use Rattle.bsp_model.specs.declared.request.Send.{Send}
use Rattle.bsp_step.specs.Act.{Act}
use Rattle.bsp_step.specs.OutcomeParts.{outcome_of}
use Rattle.bsp_step.specs.Turn.{turn_of}
use Rattle.bsp_step.specs.ViewParts.{ViewParts}
use Rattle.bsp_deliver.specs.Requests.{words_read}
use Rattle.bsp_run.specs.Law.{IsBspRun}
use Rattle.bsp_run.specs.Result.{costs_of, total_of}
use Rattle.bsp_run.specs.Run.{Run}
use Rattle.bsp_incr.specs.declared.reply.Update.{Update}
use Rattle.bsp_incr.specs.Exact.{IsExact}
use Rattle.bsp_causes.specs.declared.costs.StepCost.{StepCost}
use Rattle.bsp_causes.specs.declared.costs.UpdateCost.{UpdateCost}
use Rattle.bsp_causes.specs.UpdateCost.{outcomes_at, update_cost}
use Rattle.bsp_laws.specs.Updates.{DoesNothing}

-- the costs of supersteps, of which the first has the number s
abbrev pub numbered : ℕ → List CostRow → List StepCost
numbered s [] = []
numbered s (row ∷ rows) = record { step = s; row = row } ∷ numbered (s + 1) rows

-- The update of an opening, before which there was no run, costs what the run costs.
abbrev pub OpeningsCostTheRun : Type 0
OpeningsCostTheRun =
    (acts : ViewParts → List Act) (ending : ViewParts → End) (looks : ViewParts → ℕ → Bool) (input : Input) (run : Run) (update : Update)
    → input_fault input ≡ None → IsBspRun (turn_of acts ending) input run → IsExact looks None run update
    → update_cost None run update ≡ record { rows = numbered 0 (costs_of run); total = total_of (costs_of run) }

-- An update that does nothing costs nothing.
abbrev pub NothingCostsNothing : Type 0
NothingCostsNothing = (old : Option Run) (run : Run) (update : Update) → DoesNothing update → update_cost old run update ≡ record { rows = []; total = 0 }

-- the work, the h-relation and the cost are at most these
pub record IsAtMost (row whole : CostRow) : Type 0 where
  pub work : row.work ≤ whole.work
  pub h : row.h ≤ whole.h
  pub cost : row.cost ≤ whole.cost

-- the costs of a superstep that there is not
abbrev pub no_costs : CostRow
no_costs = record { work = 0; h = 0; cost = 0 }

-- Each superstep costs at most what it costs in these rows, and all cost at most their sum.
pub record CostsAtMost (cost : UpdateCost) (whole : List CostRow) : Type 0 where
  pub rows : All (λ r. IsAtMost r.row (slice_index_or whole r.step no_costs)) cost.rows
  pub total : cost.total ≤ total_of whole

-- An update costs at most what the run costs.
abbrev pub UpdatesCostAtMostTheRun : Type 0
UpdatesCostAtMostTheRun = (old : Option Run) (run : Run) (update : Update) → CostsAtMost (update_cost old run update) (costs_of run)

-- Process p issued a put or a message of superstep s whose words travel again: its turn was taken again, and so was the delivery to another process, the target.
pub record IsIssuedAgain (update : Update) (s p target : ℕ) : Type 0 where
  pub sender : Contains update.executed (record { step = s; pid = p })
  pub receiver : Contains update.redelivered (record { step = s; pid = target })
  pub other : target ≢ p

-- A get of process p in superstep s asked another process for words that travel again: its turn was taken again, or the delivery to it was made again, and the
-- get reads other words than in the run before.
pub record IsAskedAgain (old : Option Run) (run : Run) (update : Update) (s p : ℕ) (get : Get) : Type 0 where
  pub travels : Contains update.executed (record { step = s; pid = p }) ⊎ (Contains update.redelivered (record { step = s; pid = p }) × (words_read (outcomes_at old s) get ≢ words_read (outcomes_at (Some run) s) get))
  pub other : get.owner ≢ p

-- Superstep s is paid for: its words among them so many, and a synchronisation.
pub record IsPaid (cost : UpdateCost) (run : Run) (s words : ℕ) : Type 0 where
  pub row : StepCost
  pub stands : Contains cost.rows row
  pub step : row.step ≡ s
  pub h : words ≤ row.row.h
  pub paid : row.row.work + row.row.h * run.g + run.l ≤ row.row.cost

-- A superstep that ended by delivery, and in which words travelled again, costs at least l and its h*g, where h is at least the words of each request.
pub record TravelIsPaid (old : Option Run) (run : Run) (update : Update) (s p : ℕ) : Type 0 where
  pub puts : (put : Put) → Contains (outcome_of (outcomes_at (Some run) s) p).puts put → IsIssuedAgain update s p put.target → IsPaid (update_cost old run update) run s (length put.words)
  pub gets : (get : Get) → Contains (outcome_of (outcomes_at (Some run) s) p).gets get → IsAskedAgain old run update s p get → IsPaid (update_cost old run update) run s get.len
  pub sends : (send : Send) → Contains (outcome_of (outcomes_at (Some run) s) p).sends send → IsIssuedAgain update s p send.target
      → IsPaid (update_cost old run update) run s (length send.tag + length send.words)

abbrev pub TravelsArePaid : Type 0
TravelsArePaid = (old : Option Run) (run : Run) (update : Update) (s p : ℕ) → s < length run.past → TravelIsPaid old run update s p
