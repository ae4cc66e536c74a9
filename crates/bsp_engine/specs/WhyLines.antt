-- What is told of an update beside its places: why each step was done again, and what the update cost (this profile).
use Rattle.std.specs.Prelude.{ℕ, Bool, List, [], ◌∷◌, ◌++◌, codes, Option, if◌then◌else◌}
use Rattle.std.specs.List.{flat_map}
use Rattle.bsp_step.specs.ViewParts.{ViewParts}
use Rattle.bsp_run.specs.Run.{Run}
use Rattle.bsp_run.specs.Supersteps.{supersteps_of}
use Rattle.bsp_incr.specs.declared.reply.Place.{Place}
use Rattle.bsp_incr.specs.declared.reply.Update.{Update}
use Rattle.bsp_incr.specs.Exact.{supersteps_before, delivered_before}
use Rattle.bsp_causes.specs.declared.deliveries.DeliveryCauses.{DeliveryCauses}
use Rattle.bsp_causes.specs.declared.turns.TurnCauses.{TurnCauses}
use Rattle.bsp_causes.specs.declared.costs.StepCost.{StepCost}
use Rattle.bsp_causes.specs.declared.costs.UpdateCost.{UpdateCost}
use Rattle.bsp_causes.specs.DeliveryCauses.{delivery_causes}
use Rattle.bsp_causes.specs.TurnCauses.{turn_causes}
use Rattle.bsp_causes.specs.UpdateCost.{update_cost}
use Rattle.bsp_options.specs.declared.options.Detail.{Detail}
use Rattle.bsp_text.specs.Lines.{field, fields, line}

-- a cause without numbers, where it is one
abbrev pub cause : List ℕ → Bool → List ℕ
cause word is = if is then 32 ∷ word else []

-- a cause with its numbers, unless there are none
abbrev pub named_cause : List ℕ → List ℕ → List ℕ
named_cause word [] = []
named_cause word (n ∷ ns) = 32 ∷ word ++ fields (n ∷ ns)

abbrev pub turn_cause_words : TurnCauses → List ℕ
turn_cause_words c =
    cause (codes "new") c.is_new ++ cause (codes "args") c.args ++ cause (codes "queue") c.queue ++ cause (codes "table") c.table
    ++ cause (codes "tagsize") c.tag_size ++ named_cause (codes "word") c.words

abbrev pub delivery_cause_words : DeliveryCauses → List ℕ
delivery_cause_words c =
    cause (codes "new") c.is_new ++ cause (codes "memory") c.memory ++ cause (codes "gets") c.gets ++ named_cause (codes "read") c.read
    ++ named_cause (codes "puts") c.puts ++ named_cause (codes "sends") c.sends

-- the step, and its place
abbrev pub step_words : List ℕ → Place → List ℕ
step_words step place = step ++ field place.step ++ field place.pid

-- the same, its causes, and LF
abbrev pub why_line : List ℕ → Place → List ℕ → List ℕ
why_line step place causes = step_words step place ++ causes ++ 10 ∷ []

-- `why turn S P CAUSE ..`
abbrev pub why_turn_line : (ViewParts → ℕ → Bool) → Option Run → Run → Place → List ℕ
why_turn_line looks old new place = why_line (codes "why turn") place (turn_cause_words (turn_causes looks (supersteps_before old) (supersteps_of new) place))

-- `why delivery S P CAUSE ..`
abbrev pub why_delivery_line : Option Run → Run → Place → List ℕ
why_delivery_line old new place = why_line (codes "why delivery") place (delivery_cause_words (delivery_causes (delivered_before old) new.past place))

-- a line for each turn that was taken again, and then one for each delivery that was made again
abbrev pub why_lines : (ViewParts → ℕ → Bool) → Option Run → Run → Update → List ℕ
why_lines looks old new update = flat_map (why_turn_line looks old new) update.executed ++ flat_map (why_delivery_line old new) update.redelivered

-- `update S W H C`
abbrev pub step_cost_line : StepCost → List ℕ
step_cost_line s = line (codes "update") (s.step ∷ s.row.work ∷ s.row.h ∷ s.row.cost ∷ [])

-- a line for each superstep in which something was done again, and `update total T`
abbrev pub update_cost_lines : UpdateCost → List ℕ
update_cost_lines c = flat_map step_cost_line c.rows ++ line (codes "update total") (c.total ∷ [])

-- The lines that are asked for on the update from one run to the next.
unfoldable pub more_lines : Detail → (ViewParts → ℕ → Bool) → Option Run → Run → Update → List ℕ
more_lines detail looks old new update =
    (if detail.why then why_lines looks old new update else []) ++ (if detail.update_cost then update_cost_lines (update_cost old new update) else [])
