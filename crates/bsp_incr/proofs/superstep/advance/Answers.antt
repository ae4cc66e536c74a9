use Rattle.std.proofs.Common.{◌≡◌, ◌<◌, ◌∙◌, All, Bool, Bor, List, Some, ap, arith, length, option_map, subst, sym}
use Rattle.bsp_step.specs.ViewParts.{ViewParts, IsView}
use Rattle.bsp_run.specs.declared.superstep.Superstep.{Superstep}
use Rattle.bsp_run.specs.Run.{Run, open_views}
use Rattle.bsp_incr.specs.Inside.Given.{Making}
use Rattle.bsp_incr.specs.Inside.Marks.{ViewsDifferAtMost}
use Rattle.bsp_incr.proofs.TakingOver.{taken_whole}
use Rattle.bsp_incr.proofs.superstep.advance.Goals as goal

pub take_over-requires : goal.take_over-requires
take_over-requires g c =
    let acts = g.P.Program.acts c.args.given.now.program in
    let ending = g.P.Program.ending c.args.given.now.program in
    let r : Run = c.args.tape.now in
    let opened = c.open_superstep.ensures in
    let old : Run = c.in-Some.history.now in
    let is : option_map (λ (h : Bor Run). h.now) c.given.inside.old ≡ Some old = ap (option_map (λ (h : Bor Run). h.now)) c.in-Some.is in
    let past : length r.past < length old.past = omega (arith, c.if-step-past.true, c.step.ensures, ap (λ (xs : List Superstep). length xs) c.past.ensures.past) in
    let set : List Bool = c.among-dirty.result.processes in
    let differ =
    subst (λ (vs : List ViewParts). ViewsDifferAtMost vs (open_views r) set) opened.old_views
    (subst (λ (vs : List ViewParts). ViewsDifferAtMost c.open_superstep.result.old_views vs set) opened.views c.among-dirty.ensures.dirty.processes) in
    let taken = taken_whole acts ending (g.P.Program.looks c.args.given.now.program) c.args.given.now.input c.args.given.now.before c.in-Some.history.now r c.args.under_way.now.marks set c.args.under_way.now.update
    (sym (ap (λ (m : Making _). m.before) c.given.view_is) ∙ is) opened.given.lawful opened.given.before c.requires.open (subst (All IsView) opened.views opened.limits) c.requires.under_way
    past (c.is_empty.ensures.0 c.if-is_empty.true) differ in
    taken.can

pub returns-in_ok-take_over-in-Some : goal.returns-in_ok-take_over-in-Some
returns-in_ok-take_over-in-Some g c =
    let acts = g.P.Program.acts c.args.given.now.program in
    let ending = g.P.Program.ending c.args.given.now.program in
    let r : Run = c.args.tape.now in
    let opened = c.open_superstep.ensures in
    let old : Run = c.in-Some.history.now in
    let is : option_map (λ (h : Bor Run). h.now) c.given.inside.old ≡ Some old = ap (option_map (λ (h : Bor Run). h.now)) c.in-Some.is in
    let past : length r.past < length old.past = omega (arith, c.if-step-past.true, c.step.ensures, ap (λ (xs : List Superstep). length xs) c.past.ensures.past) in
    let set : List Bool = c.among-dirty.result.processes in
    let differ =
    subst (λ (vs : List ViewParts). ViewsDifferAtMost vs (open_views r) set) opened.old_views
    (subst (λ (vs : List ViewParts). ViewsDifferAtMost c.open_superstep.result.old_views vs set) opened.views c.among-dirty.ensures.dirty.processes) in
    let taken = taken_whole acts ending (g.P.Program.looks c.args.given.now.program) c.args.given.now.input c.args.given.now.before c.in-Some.history.now r c.args.under_way.now.marks set c.args.under_way.now.update
    (sym (ap (λ (m : Making _). m.before) c.given.view_is) ∙ is) opened.given.lawful opened.given.before c.requires.open (subst (All IsView) opened.views opened.limits) c.requires.under_way
    past (c.is_empty.ensures.0 c.if-is_empty.true) differ in
    let q : Run = c.take_over.new.self in
    let is = c.in_ok-take_over-in-Some.ensures.ok in
    record { tape = taken.tape q is; under_way = taken.under_way q is; table = taken.table q is }
