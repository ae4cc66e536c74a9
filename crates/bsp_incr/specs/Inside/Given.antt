-- What stays the same in all supersteps of a run that is made again, and what stands between two of them: the words in which the private functions of
-- this crate ask and promise.
use Rattle.std.specs.Prelude.{◌≡◌, Bool, true, List, Option, None, length}
use Rattle.bsp_model.specs.declared.input.Input.{Input}
use Rattle.bsp_model.specs.Input.{input_fault}
use Rattle.bsp_step.specs.declared.program.Program.{Ghosts}
use Rattle.bsp_step.specs.ViewParts.{ViewParts}
use Rattle.bsp_step.specs.OutcomeParts.{OutcomeParts}
use Rattle.bsp_run.specs.TurnBy.{turn_by}
use Rattle.bsp_run.specs.Run.{Run, run}
use Rattle.bsp_run.specs.Condition.{is_ended}
use Rattle.bsp_run.specs.Inside.Left.{LeadsTo}
use Rattle.bsp_incr.specs.declared.rerun.under_way.UnderWay.{UnderWay}
use Rattle.bsp_incr.specs.Inside.Before.{views_before, delivered_outcomes, IsBefore}
use Rattle.bsp_incr.specs.Inside.Marks.{AreArgsMarked}
use Rattle.bsp_incr.specs.declared.rerun.remaking.Remade.{Remade}
use Rattle.bsp_incr.specs.Inside.Changes.{update_of}
use Rattle.bsp_incr.specs.Inside.Known.{KnowsTable}
use Rattle.bsp_incr.specs.Inside.UnderWay.{IsUnderWay}

-- A program, its input, the previous run, if there was one, and for each process whether it has other arguments than in that run.
pub record Making (P : Type 0) : Type 0 where
  pub program : P
  pub input : Input
  pub before : Option Run
  pub others : List Bool

-- The input is lawful, the previous run is one of the program on an input with as many processes, and the processes with other arguments are those that are
-- said to have them.
pub record IsMaking {P : Type 0} (laws : Ghosts P) (making : Making P) : Type 0 where
  pub lawful : input_fault making.input ≡ None
  pub before : IsBefore (turn_by laws making.program) making.input making.before
  pub others : AreArgsMarked making.before making.input making.others

-- of the superstep with the number of the open one: what the previous run saw in it, and what it delivered
abbrev pub views_beside : {P : Type 0} → Making P → Run → List ViewParts
views_beside making r = views_before making.before (length r.past)

abbrev pub delivered_beside : {P : Type 0} → Making P → Run → List OutcomeParts
delivered_beside making r = delivered_outcomes making.before (length r.past)

-- the record of the run that is made again, between two supersteps, and the update so far
abbrev pub IsMidway : {P : Type 0} → Ghosts P → Making P → Run → UnderWay → Type 0
IsMidway laws making r u =
    IsUnderWay (turn_by laws making.program) (laws.looks making.program) making.before making.input r u.marks u.update

-- The run that is made again, between two supersteps: those that are left make the run of the input.
pub record IsGoingOn {P : Type 0} (laws : Ghosts P) (making : Making P) (r : Run) (u : UnderWay) : Type 0 where
  pub leads : LeadsTo (turn_by laws making.program) r (run (turn_by laws making.program) making.input)
  pub midway : IsMidway laws making r u
  pub table : KnowsTable making.before r u.table

-- It has ended, and this was done for it.
pub record IsRemade {P : Type 0} (laws : Ghosts P) (making : Making P) (made : Remade) : Type 0 where
  pub ended : is_ended made.tape.phase ≡ true
  pub run : made.tape ≡ run (turn_by laws making.program) making.input
  pub updated : made.update ≡ update_of (laws.looks making.program) making.before made.tape
