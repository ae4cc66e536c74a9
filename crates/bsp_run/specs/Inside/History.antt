-- A run that has ended, from the fields of its history.
use Rattle.std.specs.Prelude.{◌≡◌, true}
use Rattle.bsp_run.specs.declared.history.History.TheInside.{Inside}
use Rattle.bsp_run.specs.declared.history.Sums.{Sums}
use Rattle.bsp_run.specs.Run.{Run}
use Rattle.bsp_run.specs.Condition.{is_ended}
use Rattle.bsp_run.specs.Result.{lines_of, costs_of, total_of}

abbrev pub run_of : Inside → Run
run_of h = h.run

-- What was added up is what the run gives.
pub record AreSums (r : Run) (sums : Sums) : Type 0 where
  pub lines : sums.lines ≡ lines_of r
  pub costs : sums.costs ≡ costs_of r
  pub total : sums.total ≡ total_of (costs_of r)

-- the run has ended
pub record IsLawful (h : Inside) : Type 0 where
  pub ended : is_ended h.run.phase ≡ true
  pub sums : AreSums h.run h.sums
