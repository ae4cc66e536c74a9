use Rattle.std.proofs.Common.{List, ℕ, Bool, Bor, sym, subst}
use Rattle.bsp_run.specs.Run.{Run}
use Rattle.bsp_run.specs.SameLines.{LinesDifferAtMost}
use Rattle.bsp_run.specs.Inside.Lines.{AreLinesUnlessMarked}
use Rattle.bsp_run.specs.Supersteps.{outcomes_of, supersteps_of}
use Rattle.bsp_run.proofs.SameLines.{lines_stay, none_known}
use Rattle.bsp_run.proofs.tape.Tape.finish_like.Goals as goal
use Rattle.bsp_run.proofs.tape.Tape.finish_like.Goals.{then-have_as_many, else-have_as_many}

pub finish_sharing-requires-clause-marks : goal.finish_sharing-requires-clause-marks
finish_sharing-requires-clause-marks c =
    let r : Run = c.args.self in
    let other : Run = c.other.inside.run in
    let differ : LinesDifferAtMost other r c.args.marks.now = subst (λ (o : Run). LinesDifferAtMost o r c.args.marks.now) (sym c.other.view_is) c.requires.marks in
    elim c.if-have_as_many.branch [
      | then-have_as_many w ↦
          subst (λ (marks : Bor (List Bool)). AreLinesUnlessMarked c.other.inside.sums.lines marks.now (outcomes_of (supersteps_of r))) (sym w.marks-is)
          (subst (λ (lines : List (List (List ℕ))). AreLinesUnlessMarked lines c.args.marks.now (outcomes_of (supersteps_of r))) (sym c.other.invariant.sums.lines)
          (lines_stay other r c.args.marks.now (c.have_as_many.ensures w.if-have_as_many.true) differ))
      | else-have_as_many w ↦
          subst (λ (marks : Bor (List Bool)). AreLinesUnlessMarked c.other.inside.sums.lines marks.now (outcomes_of (supersteps_of r))) (sym w.marks-is)
          (subst (λ (marks : List Bool). AreLinesUnlessMarked c.other.inside.sums.lines marks (outcomes_of (supersteps_of r))) (sym c.none-none.ensures) (none_known c.other.inside.sums.lines (outcomes_of (supersteps_of r))))
    ]
