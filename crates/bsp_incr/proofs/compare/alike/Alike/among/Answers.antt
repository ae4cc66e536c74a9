use Rattle.std.proofs.Common.{◌∙◌, ℕ, Bool, List, length}
use Rattle.bsp_incr.specs.Inside.Alike.{CostsAlike, EndsAlike}
use Rattle.bsp_incr.proofs.Alike.{alike_but_dirty, alike_more}
use Rattle.bsp_incr.proofs.EndLikeness.{ends_alike-same}
use Rattle.bsp_incr.proofs.Likeness.{costs_alike-same}
use Rattle.bsp_incr.proofs.Members.{first_known, later_known, members_known}
use Rattle.bsp_incr.proofs.compare.alike.Alike.among.Goals as goal

pub loop-process-init : goal.loop-process-init
loop-process-init c =
    let set : List Bool = c.args.dirty.now.processes in
    let left : List ℕ = c.into_iter-process-iterator.result in
    let all = c.into_iter-process-iterator.ensures.into_iter_gives ∙ c.iter-process-items.ensures in
    let os = c.args.old.now in
    let us = c.args.new.now in
    record {
      table = λ t. t;
      ends = λ _. alike_but_dirty EndsAlike ends_alike-same os us set left c.requires.count c.requires.dirty all;
      costs = λ _. alike_but_dirty CostsAlike costs_alike-same os us set left c.requires.count c.requires.dirty all;
      known = members_known set (length us) left c.requires.dirty.count all;
    }

pub loop-process-preserved : goal.loop-process-preserved
loop-process-preserved c =
    let q : ℕ = c.in-Some.process in
    let later : List ℕ = c.next.new.self in
    let left : List ℕ = c.loop-process.process-iterator in
    let is = c.in-Some.ensures.steps in
    let os = c.args.old.now in
    let us = c.args.new.now in
    let kept = c.loop-process.invariant in
    record {
      table = λ t. kept.table (c.look_at.ensures.ends t).0;
      ends = λ t. let seen = c.look_at.ensures.ends t in
          alike_more EndsAlike os us q later left is seen.1 (kept.ends seen.0);
      costs = λ t. let seen = c.look_at.ensures.costs t in
          alike_more CostsAlike os us q later left is seen.1 (kept.costs seen.0);
      known = later_known (length us) q later left is kept.known;
    }

pub look_at-requires-clause-new : goal.look_at-requires-clause-new
look_at-requires-clause-new c = first_known (length c.args.new.now) c.in-Some.process c.next.new.self c.loop-process.process-iterator c.in-Some.ensures.steps c.loop-process.invariant.known
