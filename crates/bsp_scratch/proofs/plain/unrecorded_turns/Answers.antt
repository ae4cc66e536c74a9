use Rattle.std.proofs.Common.{List, refl, sym, subst}
use Rattle.bsp_step.specs.ViewParts.{ViewParts}
use Rattle.bsp_step.specs.OutcomeParts.{OutcomeParts}
use Rattle.bsp_run.specs.TurnBy.{turn_by}
use Rattle.bsp_scratch.specs.declared.unrecorded.Unrecorded.{Unrecorded}
use Rattle.bsp_run.specs.Inside.Settings.{HaveTurns}
use Rattle.bsp_scratch.proofs.UnrecordedRuns.{processes_are, have_turns, taken_on}
use Rattle.bsp_scratch.proofs.plain.unrecorded_turns.Goals as goal

pub all_turns-requires-clause-processes : goal.all_turns-requires-clause-processes
all_turns-requires-clause-processes g c κs within =
    let opened = c.requires.opened in
    processes_are opened.0 c.args.views.now c.args.kept.now opened.1.1

pub end-requires : goal.end-requires
end-requires g c =
    let given = c.requires.opened in
    let os : List OutcomeParts = c.all_turns.new.taken.outcomes in
    record { turns = (given.0, subst (λ (vs : List ViewParts). HaveTurns given.0 vs os) (sym c.deref.ensures) (have_turns (g.P.Program.acts c.args.means.now.program.now) (g.P.Program.ending c.args.means.now.program.now) given.0 c.args.views.now c.args.kept.now os given.1.1 given.1.0 c.in_ok-all_turns.ensures)) }

pub returns-clause-taken : goal.returns-clause-taken
returns-clause-taken g c = λ r opened same.
    let turn = turn_by g.P.Program c.args.means.now.program.now in
    let vs : List ViewParts = c.args.views.now in
    let kept : Unrecorded = c.args.kept.now in
    let os : List OutcomeParts = c.all_turns.new.taken.outcomes in
    let now : Unrecorded = record kept { taken = c.all_turns.new.taken; end = c.in_ok-kept.field-0 } in
    let have : HaveTurns r vs os = have_turns (g.P.Program.acts c.args.means.now.program.now) (g.P.Program.ending c.args.means.now.program.now) r vs kept os same opened c.in_ok-all_turns.ensures in
    let ended = c.in_ok-kept.ensures r (subst (λ (us : List ViewParts). HaveTurns r us os) (sym c.deref.ensures) have) in
    taken_on turn r vs kept now same have c.in_ok-all_turns.ensures ended refl refl
