-- The turns of the views of a superstep.
use Rattle.std.proofs.Common.{List, map, length, All, get_or, sym, subst}
use Rattle.std.proofs.lemmas.List.{get_or-map, length-map}
use Rattle.std.proofs.lemmas.List.Elements.{All-map, All-weaker}
use Rattle.bsp_model.specs.declared.fault.End.{End}
use Rattle.bsp_step.specs.ViewParts.{ViewParts, IsView}
use Rattle.bsp_step.specs.OutcomeParts.{IsOutcome, IsOutcomeOf, no_outcome}
use Rattle.bsp_step.specs.Act.{Act}
use Rattle.bsp_step.specs.Turn.{turn_of}
use Rattle.bsp_step.proofs.Limits.{turn_of-limits, turn_of-issued}
use Rattle.bsp_run.specs.State.{view_of, views_of}
use Rattle.bsp_run.specs.Run.{Run, open_views}
use Rattle.bsp_run.specs.Condition.{AreOutcomesOf, IsRun, no_view}
use Rattle.bsp_run.proofs.Deliveries.{All-each_below}
use Rattle.bsp_run.proofs.Opens.{can_open, past_within}
use Rattle.bsp_run.proofs.ViewsOfStates.{view_within}

-- the views of an open superstep are within the limits
pub views_within : (r : Run) → IsRun r → All IsView (open_views r)
unfolding views_of
views_within r h =
    All-each_below IsView (view_of r.args (length r.past) r.state) (length r.state.memories)
    (λ k l. view_within r.args (length r.past) r.state k (can_open r.args (length r.past) r.state (past_within r h) h.state h.same_args h.short_args) h.state.same_count l)

-- whatever the program, the turns of views within the limits are outcomes of these views
pub AreOutcomesOf-turns : (acts : ViewParts → List Act) (ending : ViewParts → End) (vs : List ViewParts) → All IsView vs → AreOutcomesOf vs (map (turn_of acts ending) vs)
AreOutcomesOf-turns acts ending vs h =
    record {
      count = length-map vs (turn_of acts ending);
      limits = All-map IsOutcome (turn_of acts ending) vs (All-weaker IsView (λ v. IsOutcome (turn_of acts ending v)) (turn_of-limits acts ending) vs h);
      each = λ p l. subst (IsOutcomeOf (get_or vs p no_view)) (sym (get_or-map (turn_of acts ending) vs p no_view no_outcome l)) (turn_of-issued acts ending (get_or vs p no_view) (h p no_view l));
    }
