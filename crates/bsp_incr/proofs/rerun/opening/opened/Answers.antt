use Rattle.std.proofs.Common.{◌≡◌, ◌∙◌, Bor, Some, ℕ, Bool, List, Option, [], ap, sym, subst, length, map, get_or, false, refl}
use Rattle.std.specs.Prelude.{option_map}
use Rattle.bsp_model.specs.declared.input.Input.{Input}
use Rattle.bsp_model.specs.ProcessSet.{processes_in, processes_where}
use Rattle.bsp_model.specs.Replaced.{replaced, IsAscending}
use Rattle.bsp_step.specs.ViewParts.{ViewParts}
use Rattle.bsp_run.specs.Run.{Run}
use Rattle.bsp_run.specs.Supersteps.{supersteps_opened}
use Rattle.bsp_run.specs.State.{cell_of, first_cell}
use Rattle.bsp_run.specs.TurnBy.{turn_by}
use Rattle.bsp_incr.specs.Inside.Given.{Making}
use Rattle.bsp_incr.specs.Inside.Before.{IsBefore}
use Rattle.bsp_incr.specs.Inside.Marks.{AreArgsMarked, AreFirstMarked}
use Rattle.bsp_incr.proofs.Gathering.{listed_below, processes_where-ascending}
use Rattle.bsp_incr.proofs.FirstViews.{first_cells_in_place}
use Rattle.bsp_incr.proofs.RunBefore.{args_in_place, seen_there}
use Rattle.bsp_incr.proofs.rerun.opening.opened.Goals as goal

pub open_like-requires-clause-args : goal.open_like-requires-clause-args
open_like-requires-clause-args g c =
    let given = c.given.inside in
    let known = c.given.invariant in
    let input : Input = given.input.now in
    let old : Run = c.in-Some.history.now in
    let turn = turn_by g.P.Program given.program.now in
    let there : option_map (λ (h : Bor Run). h.now) c.given.inside.old ≡ Some c.in-Some.history.now = (ap (option_map (λ (h : Bor Run). h.now)) c.in-Some.is) in
    c.in_ok-args.ensures
    ∙ ap (λ (lists : List (List ℕ)). replaced lists (processes_in given.other_args.now) (map (λ p. get_or input.args p []) (processes_in given.other_args.now))) c.args-2.ensures
    ∙ args_in_place turn input old given.other_args.now (processes_in given.other_args.now) (subst (IsBefore turn input) there known.before) known.lawful
    (subst (λ (o : Option Run). AreArgsMarked o input given.other_args.now) there known.others) refl

pub open_like-requires-clause-known : goal.open_like-requires-clause-known
open_like-requires-clause-known g c =
    let marks : List Bool = c.args.marks.now in
    let test : ℕ → Bool = λ p. get_or marks p false in
    let many = c.requires.count ∙ ap (λ (m : Making _). length m.input.mems) (sym c.given.view_is) in
    listed_below (length c.given.inside.input.now.mems) test c.in_ok-marked.marked.items (c.in_ok-marked.ensures ∙ ap (λ n. processes_where n test) many)

pub open_like-requires-clause-ascending : goal.open_like-requires-clause-ascending
open_like-requires-clause-ascending g c =
    let marks : List Bool = c.args.marks.now in
    let test : ℕ → Bool = λ p. get_or marks p false in
    subst IsAscending (sym c.in_ok-marked.ensures) (processes_where-ascending (length marks) test)

pub open_like-requires-clause-like : goal.open_like-requires-clause-like
open_like-requires-clause-like g c =
    let given = c.given.inside in
    let input : Input = given.input.now in
    let old : Run = c.in-Some.history.now in
    let turn = turn_by g.P.Program given.program.now in
    let there : option_map (λ (h : Bor Run). h.now) c.given.inside.old ≡ Some c.in-Some.history.now = (ap (option_map (λ (h : Bor Run). h.now)) c.in-Some.is) in
    let marked : List ℕ = c.in_ok-marked.marked.items in
    let first = subst (λ (m : Making _). AreFirstMarked m.before m.input c.args.marks.now) (sym c.given.view_is) c.requires in
    ap (λ (vs : List ViewParts). replaced (map cell_of vs) marked (map (first_cell input.mems) marked)) (sym (seen_there (supersteps_opened old) 0 c.in-Some-views.like.now (sym c.views.ensures ∙ ap (option_map (λ (v : Bor (List ViewParts)). v.now)) c.in-Some-views.is)))
    ∙ first_cells_in_place turn old input c.args.marks.now marked (subst (IsBefore turn input) there c.given.invariant.before)
    (subst (λ (o : Option Run). AreFirstMarked o input c.args.marks.now) there first) c.in_ok-marked.ensures
