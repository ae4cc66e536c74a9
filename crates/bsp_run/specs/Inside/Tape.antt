-- A run so far, from the fields of its tape.
use Rattle.std.specs.Prelude.{◌≡◌, ℕ, List, map, All, slice_index_or}
use Rattle.bsp_step.specs.ViewParts.{ViewParts}
use Rattle.bsp_run.specs.declared.tape.Tape.TheInside.{Inside}
use Rattle.bsp_run.specs.State.{State}
use Rattle.bsp_run.specs.Run.{Run, open_views}
use Rattle.bsp_run.specs.Condition.{IsRun, no_view}
use Rattle.bsp_run.specs.Supersteps.{outcomes_of}
use Rattle.bsp_run.specs.Result.{cost_of_delivery, IsSmall}

-- the arguments in views
abbrev pub args_in : List ViewParts → List (List ℕ)
args_in vs = map (λ v. v.args) vs

-- the state of which views are made: all see one table and one tag size
abbrev pub state_in : List ViewParts → State
state_in vs =
    record {
      memories = map (λ v. v.memory) vs;
      queues = map (λ v. v.queue) vs;
      table = (slice_index_or vs 0 no_view).table;
      tag_size = (slice_index_or vs 0 no_view).tag_size;
    }

abbrev pub run_of : Inside → Run
run_of t =
    record {
      args = args_in t.views;
      limit = t.limit;
      g = t.g;
      l = t.l;
      past = t.past.items;
      state = state_in t.views;
      outcomes = t.outcomes;
      phase = t.phase;
    }

-- the kept views are those of the state, and the kept costs those of the supersteps that ended by delivery
pub record IsLawful (t : Inside) : Type 0 where
  pub views : t.views ≡ open_views (run_of t)
  pub run : IsRun (run_of t)
  pub costs : t.costs.items ≡ map (cost_of_delivery t.g t.l) (outcomes_of t.past.items)
  pub small : All IsSmall t.costs.items
