use Rattle.std.proofs.Common.{◌≡◌, ◌∙◌, ℕ, Bool, true, false, List, arith, get_or, length, replicate, ap, sym}
use Rattle.std.specs.Prelude.{filter}
use Rattle.std.proofs.lemmas.Bool.{eqb-true}
use Rattle.std.proofs.lemmas.List.{length-replicate}
use Rattle.std.proofs.Math.ListN.{length-set}
use Rattle.bsp_model.proofs.ProcessSets.{member_within}
use Rattle.bsp_incr.specs.Named.{with_members}
use Rattle.bsp_incr.specs.Inside.Changes.{differs}
use Rattle.bsp_model.specs.ProcessSet.{processes_where}
use Rattle.bsp_incr.specs.Inside.Given.{Making}
use Rattle.bsp_incr.proofs.Members.{are_members, first_has, later_have, member_if, members_where}
use Rattle.bsp_incr.proofs.Retaking.{all_needed, needed_among}
use Rattle.bsp_incr.proofs.superstep.turns.needed_among.Goals as goal

pub loop-process-init : goal.loop-process-init
loop-process-init g c =
    let set : List Bool = c.args.dirty.now.processes in
    let goes : ℕ → Bool = differs (g.P.Program.looks c.args.given.now.program) c.args.superstep.now.old_views c.args.superstep.now.views.now in
    let all = c.into_iter-process-iterator.ensures.into_iter_gives ∙ c.iter-process-items.ensures in
    let none : List Bool = c.none-needed.result in
    record {
      needed = ap (λ (ps : List ℕ). with_members none (filter goes ps)) all;
      count = ap (λ (bs : List Bool). length bs) c.none-needed.ensures ∙ length-replicate _ false ∙ c.count.ensures.count;
      members = are_members set c.into_iter-process-iterator.result all;
    }

pub loop-process-preserved-then-needs_turn : goal.loop-process-preserved-then-needs_turn
loop-process-preserved-then-needs_turn g c =
    let set : List Bool = c.args.dirty.now.processes in
    let goes : ℕ → Bool = differs (g.P.Program.looks c.args.given.now.program) c.args.superstep.now.old_views c.args.superstep.now.views.now in
    let p = c.in-Some.process in
    let later : List ℕ = c.next.new.self in
    let kept = c.loop-process.invariant in
    let needed : List Bool = c.loop-process.needed in
    let rest = c.in-Some.ensures.steps in
    let is = sym (c.needs_turn.ensures ∙ ap (λ (m : Making _). differs (g.P.Program.looks m.program) c.args.superstep.now.old_views c.args.superstep.now.views.now p) c.given.view_is) ∙ c.if-needs_turn.true in
    record {
      needed = ap (λ (s : List Bool). with_members s (filter goes later)) c.insert.ensures ∙ member_if goes true needed p later is ∙ ap (λ (ps : List ℕ). with_members needed (filter goes ps)) (sym rest) ∙ kept.needed;
      count = ap (λ (s : List Bool). length s) c.insert.ensures ∙ length-set needed p true ∙ kept.count;
      members = later_have (λ q. get_or set q false ≡ true) p later c.loop-process.process-iterator rest kept.members;
    }

pub loop-process-preserved : goal.loop-process-preserved
loop-process-preserved g c =
    let set : List Bool = c.args.dirty.now.processes in
    let goes : ℕ → Bool = differs (g.P.Program.looks c.args.given.now.program) c.args.superstep.now.old_views c.args.superstep.now.views.now in
    let p = c.in-Some.process in
    let later : List ℕ = c.next.new.self in
    let kept = c.loop-process.invariant in
    let needed : List Bool = c.loop-process.needed in
    let rest = c.in-Some.ensures.steps in
    let is = sym (c.needs_turn.ensures ∙ ap (λ (m : Making _). differs (g.P.Program.looks m.program) c.args.superstep.now.old_views c.args.superstep.now.views.now p) c.given.view_is) ∙ c.if-needs_turn.false in
    record {
      needed = member_if goes false needed p later is ∙ ap (λ (ps : List ℕ). with_members needed (filter goes ps)) (sym rest) ∙ kept.needed;
      count = kept.count;
      members = later_have (λ q. get_or set q false ≡ true) p later c.loop-process.process-iterator rest kept.members;
    }

pub insert-requires : goal.insert-requires
insert-requires g c =
    let set : List Bool = c.args.dirty.now.processes in
    omega (arith, member_within set c.in-Some.process (first_has (λ p. get_or set p false ≡ true) c.in-Some.process c.next.new.self c.loop-process.process-iterator c.in-Some.ensures.steps c.loop-process.invariant.members), c.loop-process.invariant.count)

pub returns : goal.returns
returns g c =
    let set : List Bool = c.args.dirty.now.processes in
    let old = c.args.superstep.now.old_views in
    let new = c.args.superstep.now.views.now in
    let goes : ℕ → Bool = differs (g.P.Program.looks c.args.given.now.program) old new in
    let none : c.none-needed.result ≡ replicate (length new) false = c.none-needed.ensures ∙ ap (λ n. replicate n false) (c.count.ensures.count ∙ c.requires.dirty.processes.count) in
    ap (λ (ps : List ℕ). with_members c.loop-process.needed (filter goes ps)) (sym c.in-None.ensures.steps.0)
    ∙ c.loop-process.invariant.needed ∙ ap (with_members c.none-needed.result) (needed_among (g.P.Program.looks c.args.given.now.program) old new set c.requires.dirty.processes)
    ∙ ap (λ (s : List Bool). with_members s (processes_where (length new) goes)) none ∙ members_where (length new) goes

pub returns-then-is_empty : goal.returns-then-is_empty
returns-then-is_empty g c =
    all_needed (g.P.Program.looks c.args.given.now.program) c.args.superstep.now.old_views c.args.superstep.now.views.now c.args.dirty.now.processes
    (eqb-true (length c.args.superstep.now.old_views) 0 (sym c.is_empty.ensures ∙ c.if-is_empty.true)) c.requires.dirty.processes
