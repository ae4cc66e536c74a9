-- A run that is made again, from its opening on.
use Rattle.std.proofs.Common.{◌≡◌, [], sym, subst, length}
use Rattle.bsp_model.specs.declared.input.Input.{Input}
use Rattle.bsp_model.proofs.Inputs.{lawful_input}
use Rattle.bsp_step.specs.declared.program.Program.{Ghosts}
use Rattle.bsp_run.specs.Run.{Run, start, open_views, run}
use Rattle.bsp_run.specs.Inside.Left.{LeadsTo}
use Rattle.bsp_run.specs.TurnBy.{turn_by}
use Rattle.bsp_run.proofs.Runs.{start-leads}
use Rattle.bsp_incr.specs.declared.compare.known_table.KnownTable.{KnownTable}
use Rattle.bsp_incr.specs.declared.compare.known_table.KnownTable.TheVariants.{Unknown}
use Rattle.bsp_incr.specs.declared.rerun.under_way.UnderWay.{UnderWay}
use Rattle.bsp_incr.specs.Inside.Before.{views_before}
use Rattle.bsp_incr.specs.Inside.Given.{Making, IsMaking, IsGoingOn}
use Rattle.bsp_incr.specs.Inside.Known.{IsKnown}
use Rattle.bsp_incr.specs.Inside.Marks.{AreFirstMarked}
use Rattle.bsp_incr.proofs.Remaking.{under_way_start}

pub going_on_start : {P : Type 0} (laws : Ghosts P) (making : Making P) (r : Run) (u : UnderWay) → IsMaking laws making → r ≡ start making.input → AreFirstMarked making.before making.input u.marks
    → u.update.executed ≡ [] → u.update.redelivered ≡ [] → u.table ≡ Unknown → IsGoingOn laws making r u
going_on_start laws making r u known is first executed redelivered unknown =
    let turn = turn_by laws making.program in
    let input : Input = making.input in
    let some = (lawful_input input known.lawful).some_superstep in
    record {
      leads = subst (λ (x : Run). LeadsTo turn x (run turn input)) (sym is) (start-leads turn input some);
      midway = under_way_start turn (laws.looks making.program) making.before input r u.marks u.update is some known.before first executed redelivered;
      table = λ _. subst (λ (k : KnownTable). IsKnown k (views_before making.before (length r.past)) (open_views r)) (sym unknown) tt;
    }
