-- What an update costs (the usual additive BSP cost formula, later than Valiant 1990, over what was done again; what is paid again: this profile).
use Rattle.std.specs.Prelude.{ℕ, ◌+◌, ◌*◌, Bool, true, ◌==◌, ◌||◌, not, nat_lt, if◌then◌else◌, List, [], ◌∷◌, filter, length, map, sum_by, Option, None, Some}
use Rattle.std.specs.List.{list_any, range_with_len}
use Rattle.bsp_model.specs.declared.cost.CostRow.{CostRow}
use Rattle.bsp_model.specs.Same.{same_words}
use Rattle.bsp_table.specs.Same.{same_table}
use Rattle.bsp_step.specs.OutcomeParts.{OutcomeParts, outcome_of}
use Rattle.bsp_step.specs.ViewParts.{ViewParts}
use Rattle.bsp_deliver.specs.Cost.{h_relation, largest}
use Rattle.bsp_deliver.specs.Requests.{words_read}
use Rattle.bsp_run.specs.Run.{Run}
use Rattle.bsp_run.specs.Supersteps.{superstep_at, supersteps_of, supersteps_opened}
use Rattle.bsp_incr.specs.Exact.{supersteps_before}
use Rattle.bsp_incr.specs.declared.reply.Place.{Place}
use Rattle.bsp_incr.specs.declared.reply.Update.{Update}
use Rattle.bsp_causes.specs.Travel.{has_requests, has_some, outcomes_again}
use Rattle.bsp_causes.specs.declared.costs.StepCost.{StepCost}
use Rattle.bsp_causes.specs.declared.costs.UpdateCost.{UpdateCost}

-- the processes of the places in superstep s
abbrev pub processes_at : List Place → ℕ → List ℕ
processes_at places s = map (λ p. p.pid) (filter (λ p. p.step == s) places)

-- the process is one of these
abbrev pub is_one_of : List ℕ → ℕ → Bool
is_one_of ps p = list_any (λ q. q == p) ps

-- the largest work of the turns of these processes
abbrev pub work_of : List ℕ → List OutcomeParts → ℕ
work_of ps os = largest (map (λ p. (outcome_of os p).work) ps)

-- what the turns of superstep s left in a run; nothing where it took none
abbrev pub outcomes_at : Option Run → ℕ → List OutcomeParts
outcomes_at run s = (superstep_at (supersteps_before run) s).outcomes

-- Outcomes of superstep s with the requests alone that travel again. A get reads other words where the memories of the two runs give it others.
abbrev pub travelling : Option Run → Run → ℕ → List ℕ → List ℕ → List OutcomeParts → List OutcomeParts
travelling old new s ts ds = outcomes_again (is_one_of ts) (is_one_of ds) (λ g. not (same_words (words_read (outcomes_at old s) g) (words_read (outcomes_at (Some new) s) g))) 0

-- what the processes see after the delivery of superstep s of a run; nothing where it made none
abbrev pub views_after : Option Run → ℕ → List ViewParts
views_after None s = []
views_after (Some r) s = (superstep_at (supersteps_opened r) (s + 1)).views

-- They see another table or tag size (all see the same one), or one of the runs has no such delivery.
abbrev pub have_other_tables : List ViewParts → List ViewParts → Bool
have_other_tables [] news = true
have_other_tables (v ∷ vs) [] = true
have_other_tables (v ∷ vs) (w ∷ ws) = not (v.tag_size == w.tag_size) || not (same_table v.table w.table)

-- Superstep s, which ends by delivery, is synchronised again: the run before has no such delivery, or the next table or tag size is another; or a request
-- travels again, or one that did in the run before is gone.
unfoldable pub is_synchronised : Option Run → Run → ℕ → List ℕ → List ℕ → Bool
is_synchronised old new s ts ds =
    have_other_tables (views_after old s) (views_after (Some new) s)
    || list_any has_requests (travelling old new s ts ds (outcomes_at (Some new) s))
    || list_any has_requests (travelling old new s ts ds (outcomes_at old s))

-- What superstep s costs in which the turns of these processes were taken again, and then the deliveries to those were made again: w + h*g, and l where it
-- is synchronised again; w alone where it does not end by delivery.
unfoldable pub row_again : Option Run → Run → ℕ → List ℕ → List ℕ → CostRow
row_again old new s ts ds =
    let w = work_of ts (outcomes_at (Some new) s) in
    let h = h_relation (travelling old new s ts ds (outcomes_at (Some new) s)) in
    let l = if is_synchronised old new s ts ds then new.l else 0 in
    if nat_lt s (length new.past) then record { work = w; h = h; cost = w + h * new.g + l } else record { work = w; h = 0; cost = w }

-- something was done again in superstep s
abbrev pub is_redone : Update → ℕ → Bool
is_redone u s = has_some (processes_at u.executed s) || has_some (processes_at u.redelivered s)

abbrev pub step_cost : Option Run → Run → Update → ℕ → StepCost
step_cost old new u s = record { step = s; row = row_again old new s (processes_at u.executed s) (processes_at u.redelivered s) }

abbrev pub total_again : List StepCost → ℕ
total_again rows = sum_by (λ r. r.row.cost) rows

-- The cost of an update that makes the new run: a row for each superstep in which something was done again, and the sum.
unfoldable pub update_cost : Option Run → Run → Update → UpdateCost
update_cost old new u =
    let rows = map (step_cost old new u) (filter (is_redone u) (range_with_len 0 (length (supersteps_of new)))) in
    record { rows = rows; total = total_again rows }
